-- Strings and numbers noted among the names known. Assumes nothing.
use Rattle.std.specs.Prelude.{List, map, ◌≡◌, ℕ, ◌≤◌, take}
use Rattle.validation.specs.Environment.{names_for}
use Rattle.syntax.specs.Parsing.{Purpose}
use Rattle.symbols.specs.Clauses.{names_room}
use Rattle.symbols.specs.Entries.{name_of}
use Rattle.symbols.specs.Holding.{names_from}
use Rattle.symbols.specs.declared.known.Names.{Names}

-- the names of a purpose among the first i are noted by their keys, up to so many of them
abbrev pub ShowsNames : (most : ℕ) → Names → (i : ℕ) → Purpose → (keys : List ℕ) → Type 0
ShowsNames most ns i p keys = map name_of keys ≡ take most (names_for p (names_from ns.keys ns.purposes 0 i))

-- so before new names
pub record Listing (most : ℕ) (ns : Names) (i : ℕ) (p : Purpose) (keys : List ℕ) : Type 0 where
  pub shows : ShowsNames most ns i p keys
  pub inside : i ≤ ns.count
  pub room : ns.count ≤ names_room
