-- Laws of the uses in their columns, side by side, and of those that a loop has left.
-- Assumes nothing.
use Rattle.std.specs.Prelude.{Bool, true, false, ◌&&◌, ◌||◌, List, [], ◌∷◌, ◌≡◌, refl, ℕ, ◌≤◌, length, take, Option}
use Rattle.std.specs.Borrow.{Bor}
use Rattle.std.specs.List.{list_any, zip}
use Rattle.std.specs.Iterator.Adapters.{zip_first, zip_second}
use Rattle.std.specs.Slice.Iter.{iter_rest}
use Rattle.std.specs.declared.iter.Zip.{Zip}
use Rattle.std.specs.declared.slice.Iter.{Iter}
use Rattle.std.specs.declared.option.Option.TheVariants.{None, Some}
use Rattle.std.proofs.Common.{sym, ap, ap₂, ◌∙◌, subst, inl, inr, ◌⊎◌}
use Rattle.std.proofs.Math.Bool.{or_assoc}
use Rattle.std.proofs.lemmas.Fn.{fronts}
use Rattle.std.proofs.lemmas.List.{nil_from_length}
use Rattle.std.proofs.lemmas.Iterator.{zips}
use Rattle.std.proofs.lemmas.Slice.Zip.{either_empty_from_Zip}
use Rattle.syntax.specs.Parsing.{for_routine, same_purpose}
use Rattle.symbols.specs.Entries.{purpose_meaning}
use Rattle.symbols.specs.declared.known.Known.{Known}
use Rattle.symbols.specs.declared.known.Symbols.{Symbols}
use Rattle.symbols.specs.declared.known.Uses.{Uses}
use Rattle.symbols.specs.declared.tags.Purpose.{Purpose}
use Rattle.symbols.specs.declared.tags.Purpose.TheVariants.{Program}
use Rattle.link_checks.proofs.Slices.{triples_below}
use Rattle.link_checks.specs.Pairs.{pair_in, by_use, use_pairs, executed_in}

-- a use: its key, its scope, its purpose; whether it executes a routine, and makes a pair; all uses
abbrev Row : Type 0
Row = (ℕ × ℕ) × Purpose

abbrev executed : Row → Bool
executed u = same_purpose for_routine (purpose_meaning u.1)

abbrev pub makes : Known → (a b : ℕ) → Row → Bool
makes known a b u = executed u && by_use known u.0.1 u.0.0 a b

abbrev pub all : Uses → List Row
all uses = zip (zip (take uses.count uses.keys) (take uses.count uses.scopes)) (take uses.count uses.purposes)

-- the columns of a loop, and the uses that it has left
abbrev Columns : Type 0
Columns = Zip (Zip (Iter ℕ) (Iter ℕ)) (Iter Purpose)

abbrev pub left : Columns → List Row
left s = zip (zip (iter_rest (zip_first (zip_first s))) (iter_rest (zip_second (zip_first s)))) (iter_rest (zip_second s))

zip_none : {A B : Type 0} (xs : List A) (ys : List B) → (xs ≡ []) ⊎ (ys ≡ []) → zip xs ys ≡ []
zip_none xs ys (inl e) = ap (λ l. zip l ys) e
zip_none [] ys (inr e) = refl
zip_none (x ∷ xs) ys (inr e) = ap (zip (x ∷ xs)) e

-- a turn of the loop, and its end
module _ (s t : Columns) (r : Option ((Bor ℕ × Bor ℕ) × Bor Purpose)) (step : zips (zips fronts fronts) fronts s r t) where
  pub one_left : (key scope : Bor ℕ) (purpose : Bor Purpose) → r ≡ Some ((key, scope), purpose) →
      left s ≡ ((key.now, scope.now), purpose.now) ∷ left t
  one_left key scope purpose e =
      let q = subst (λ o. zips (zips fronts fronts) fronts s o t) e step in ap₂ {C = List Row} zip (ap₂ {C = List (ℕ × ℕ)} zip q.0.0 q.0.1) q.1

  pub none_left : r ≡ None → left s ≡ []
  none_left e = by (subst (λ o. zips (zips fronts fronts) fronts s o t) e step)
    where
      by : ((u : Zip (Iter ℕ) (Iter ℕ)) × zips fronts fronts (zip_first s) None u) ⊎ ((u : Iter Purpose) × fronts (zip_second s) None u) → left s ≡ []
      by (inl u) = zip_none _ _ (inl (zip_none _ _ (either_empty_from_Zip (zip_first s) u.0 None refl u.1)))
      by (inr u) = zip_none _ _ (inr (nil_from_length (iter_rest (zip_second s)) u.1.0))

-- the pairs noted and those of the uses left are all
module _ (known : Known) (all : ℕ → ℕ → Bool) (u : Row) (rest : List Row) (pairs : List (List Bool))
    (noted : (a b : ℕ) → (pair_in pairs a b || list_any (makes known a b) (u ∷ rest)) ≡ all a b) where
  pub use_noted : (pairs' : List (List Bool)) → executed u ≡ true →
      ((a b : ℕ) → pair_in pairs' a b ≡ (pair_in pairs a b || by_use known u.0.1 u.0.0 a b)) →
      (a b : ℕ) → (pair_in pairs' a b || list_any (makes known a b) rest) ≡ all a b
  use_noted pairs' e marked a b =
      let new = by_use known u.0.1 u.0.0 a b in
      let others = list_any (makes known a b) rest in
      ap (λ p. p || others) (marked a b ∙ ap (λ t. pair_in pairs a b || (t && new)) (sym e))
      ∙ or_assoc (pair_in pairs a b) (makes known a b u) others
      ∙ noted a b

  pub use_passed : executed u ≡ false → (a b : ℕ) → (pair_in pairs a b || list_any (makes known a b) rest) ≡ all a b
  use_passed e a b =
      ap (λ t. pair_in pairs a b || ((t && by_use known u.0.1 u.0.0 a b) || list_any (makes known a b) rest)) (sym e) ∙ noted a b

pub all_noted : (s : Symbols) (a b : ℕ) → s.uses.count ≤ length s.uses.keys → s.uses.count ≤ length s.uses.scopes →
    s.uses.count ≤ length s.uses.purposes → list_any (makes s.known a b) (all s.uses) ≡ executed_in s a b
unfolding executed_in use_pairs
all_noted s a b = triples_below Program (makes s.known a b) s.uses.keys s.uses.scopes s.uses.purposes s.uses.count
