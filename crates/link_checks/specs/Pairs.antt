-- Which routine executes which, by places: mark j of row i says whether place i executes place j. Assumes nothing.
use Rattle.std.specs.Prelude.{Bool, false, ◌&&◌, List, [], ℕ, eqb, ltb, length, get_or}
use Rattle.syntax.specs.Parsing.{for_routine, same_purpose}
use Rattle.symbols.specs.Entries.{purpose_meaning}
use Rattle.symbols.specs.declared.known.Known.{Known}
use Rattle.symbols.specs.declared.known.Routine.{Routine}
use Rattle.symbols.specs.declared.known.Symbols.{Symbols}
use Rattle.symbols.specs.declared.known.Uses.{Uses}
use Rattle.symbols.specs.declared.tags.Purpose.TheVariants.{Program}
use Rattle.link_checks.specs.Below.{below}

-- a place is marked; place i executes place j
abbrev pub mark_at : List Bool → ℕ → Bool
mark_at marks j = get_or marks j false

abbrev pub pair_in : List (List Bool) → ℕ → ℕ → Bool
pair_in pairs i j = mark_at (get_or pairs i []) j

-- the routines declared have places, and each its key
abbrev pub routine_count : Known → ℕ
routine_count known = length known.routines.items

abbrev pub no_routine : Routine
no_routine = record { key = 0; entry = 0; exit = 0 }

abbrev pub routine_key : Known → ℕ → ℕ
routine_key known i = (get_or known.routines.items i no_routine).key

-- a routine stands at a place and has this key
unfoldable pub routine_has_key : (known : Known) → (key i : ℕ) → Bool
routine_has_key known key i = ltb i (routine_count known) && eqb (routine_key known i) key

-- the pairs of the places that have the key scope with those that have a key
unfoldable pub by_use : (known : Known) → (scope key : ℕ) → ℕ → ℕ → Bool
by_use known scope key a b = routine_has_key known scope a && routine_has_key known key b

-- use u is of a routine and makes this pair
unfoldable pub use_pairs : (known : Known) (uses : Uses) → (a b u : ℕ) → Bool
use_pairs known uses a b u =
    same_purpose for_routine (purpose_meaning (get_or uses.purposes u Program))
    && by_use known (get_or uses.scopes u 0) (get_or uses.keys u 0) a b

-- some use makes this pair
unfoldable pub executed_in : Symbols → ℕ → ℕ → Bool
executed_in s a b = below (use_pairs s.known s.uses a b) s.uses.count
