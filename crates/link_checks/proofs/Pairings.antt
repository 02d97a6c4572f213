-- Laws of pairs, noted row by row.
-- Assumes nothing.
use Rattle.std.specs.Prelude.{Bool, true, false, ◌&&◌, ◌||◌, List, [], ◌≡◌, refl, ℕ, ◌+◌, ◌<◌, eqb, ltb, length, set, replicate, zero, suc}
use Rattle.std.proofs.Common.{sym, ap, ◌∙◌, arith, get_or-set_same, get_or-set_other, eq-eqb, ne_eqb, eqb-true, ap₂}
use Rattle.std.proofs.Math.Bool.{or-false}
use Rattle.std.proofs.lemmas.Bool.{eqb-false, lt-ltb, le-ltb}
use Rattle.std.proofs.lemmas.Bool.Decides.{nat_tests}
use denote.Enum.Bare.{sameb}
use Rattle.symbols.specs.contracts.tags.Purpose as Compared
use Rattle.base.specs.Choice.{test_cases}
use Rattle.syntax.specs.Parsing.{for_routine, same_purpose, purpose_number}
use Rattle.symbols.specs.Entries.{purpose_meaning}
use Rattle.symbols.specs.declared.known.Known.{Known}
use Rattle.symbols.specs.declared.tags.Purpose.{Purpose}
use Rattle.symbols.specs.declared.tags.Purpose.TheVariants.{Routine}
use Rattle.link_checks.specs.Pairs.{pair_in, mark_at, routine_key, routine_has_key}

-- the code's test of a use
pub is_executed : (p : Purpose) → sameb Compared.the_type p Routine ≡ same_purpose for_routine (purpose_meaning p)
unfolding same_purpose purpose_number purpose_meaning
is_executed Routine = refl
is_executed _ = refl

-- one of the first n routines has this key
abbrev pub routine_has_key_in : (known : Known) → (n key i : ℕ) → Bool
routine_has_key_in known n key i = ltb i n && eqb (routine_key known i) key

-- no pair at first
none_marked : (n b : ℕ) → mark_at (replicate n false) b ≡ false
none_marked zero b = refl
none_marked (suc n) zero = refl
none_marked (suc n) (suc b) = none_marked n b

pub none_noted : (m n a b : ℕ) → pair_in (replicate m (replicate n false)) a b ≡ false
none_noted zero n a b = refl
none_noted (suc m) n zero b = none_marked n b
none_noted (suc m) n (suc a) b = none_noted m n a b

-- one place more
module _ (known : Known) (key n : ℕ) where
  key_here : routine_has_key_in known n key n ≡ false
  key_here = ap (λ t. t && eqb (routine_key known n) key) (le-ltb n n (omega arith))

  key_more : (a : ℕ) → (a ≡ n → eqb (routine_key known n) key ≡ false) → routine_has_key_in known (n + 1) key a ≡ routine_has_key_in known n key a
  key_more a other = grind (arith, nat_tests)

-- the rows up to one are noted, and that one
module _ (known : Known) (scope key : ℕ) (pairs pairs' : List (List Bool)) (i : ℕ)
    (noted : (a b : ℕ) → pair_in pairs' a b ≡ (pair_in pairs a b || (routine_has_key_in known i scope a && routine_has_key known key b))) where
  pub row_passed : (routine_key known i ≡ scope → ⊥) → (a b : ℕ) →
      pair_in pairs' a b ≡ (pair_in pairs a b || (routine_has_key_in known (i + 1) scope a && routine_has_key known key b))
  row_passed other a b =
      noted a b
      ∙ ap (λ t. pair_in pairs a b || (t && routine_has_key known key b)) (sym (key_more known scope i a (λ _. ne_eqb (routine_key known i) scope other)))

  pub row_noted : (row : List Bool) → i < length pairs' → routine_key known i ≡ scope →
      ((b : ℕ) → mark_at row b ≡ (pair_in pairs' i b || routine_has_key known key b)) → (a b : ℕ) →
      pair_in (set pairs' i row) a b ≡ (pair_in pairs a b || (routine_has_key_in known (i + 1) scope a && routine_has_key known key b))
  row_noted row inside e marked a b =
      let t = routine_has_key known key b in
      test_cases (λ _. pair_in (set pairs' i row) a b ≡ (pair_in pairs a b || (routine_has_key_in known (i + 1) scope a && t))) (eqb a i)
      (λ same.
      let here = eqb-true a i same in
      let now : routine_has_key_in known (i + 1) scope i ≡ true =
      ap₂ {C = Bool} ◌&&◌ (lt-ltb i (i + 1) (omega arith)) (eq-eqb (routine_key known i) scope e) in
      rw here
      (ap (λ r. mark_at r b) (get_or-set_same pairs' i row [] inside)
      ∙ marked b
      ∙ ap (λ p. p || t) (noted i b ∙ ap (λ k. pair_in pairs i b || (k && t)) (key_here known scope i) ∙ or-false (pair_in pairs i b))
      ∙ ap (λ k. pair_in pairs i b || (k && t)) (sym now)))
      (λ differs.
      let other = eqb-false a i differs in
      ap (λ r. mark_at r b) (get_or-set_other pairs' i a row [] other)
      ∙ noted a b
      ∙ ap (λ k. pair_in pairs a b || (k && t)) (sym (key_more known scope i a (λ same. absurd (other same)))))
