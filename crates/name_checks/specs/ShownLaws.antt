-- Names that are kept in the symbol table; the first of the names noted; places behind a first one. Assumes nothing.
use Rattle.std.specs.Prelude.{List, ◌∷◌, ◌≡◌, ℕ, zero, suc, ◌+◌, ◌≤◌, ◌<◌, get_or, length, take}
use Rattle.std.proofs.Common.{refl, ap, ap₂, ◌∙◌, arith}
use Rattle.std.proofs.lemmas.List.{get_or-take, length-take-le}
use Rattle.syntax.specs.Parsing.{Mention}
use Rattle.symbols.specs.declared.Mentioned.{Mentioned}
use Rattle.symbols.specs.declared.tags.Purpose.{Purpose}
use Rattle.symbols.specs.declared.tags.Purpose.TheVariants.{Program}
use Rattle.symbols.specs.declared.tags.Tag.TheVariants.{ProgramDeclared}
use Rattle.symbols.specs.Entries.{NameEntry, entry}
use Rattle.symbols.specs.From.{values_from, from-kept}
use Rattle.symbols.specs.Holding.{mention_in, names_from}
use Rattle.name_checks.specs.Names.{key_mention}
use Rattle.name_checks.specs.Shown.{entry_at, entries_from}

-- names whose keys and purposes are kept are kept
pub names_kept : (keys : List ℕ) (purposes : List Purpose) (keys' : List ℕ) (purposes' : List Purpose) (i n : ℕ)
    → ((j : ℕ) → j < i + n → get_or keys' j 0 ≡ get_or keys j 0) → ((j : ℕ) → j < i + n → get_or purposes' j Program ≡ get_or purposes j Program)
    → names_from keys' purposes' i n ≡ names_from keys purposes i n
unfolding mention_in
names_kept keys purposes keys' purposes' i n f g =
    from-kept (mention_in keys purposes) (mention_in keys' purposes') i n (λ j _ h. ap₂ {C = Mention} key_mention (f j h) (g j h))

-- the first n names noted
pub first_entries : (m : Mentioned) (n : ℕ) → n ≤ length m.keys
    → (length (take n m.keys) ≡ n) × (values_from (entry_at (take n m.keys) (take n m.tags)) 0 (length (take n m.keys)) ≡ entries_from m 0 n)
first_entries m n inside =
    let size = length-take-le n m.keys inside in
    let first = entry_at (take n m.keys) (take n m.tags) in (
      size,
      ap (values_from first 0) size
          ∙ from-kept (entry_at m.keys m.tags) first 0 n
          (λ j _ h. ap₂ {C = NameEntry} entry (get_or-take n m.keys j 0 (omega arith)) (get_or-take n m.tags j ProgramDeclared (omega arith))),
    )

-- behind a first value, places are one less
pub from-behind : {A : Type 0} (f g : ℕ → A) (i n : ℕ) → ((j : ℕ) → f (suc j) ≡ g j) → values_from f (suc i) n ≡ values_from g i n
unfolding values_from
from-behind f g i zero h = refl
from-behind {A} f g i (suc n) h = ap₂ {C = List A} ◌∷◌ (h i) (from-behind f g (suc i) n h)
