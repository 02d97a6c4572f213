-- Where a byte stands next is behind the bytes before it. Assumes nothing.
use Rattle.std.specs.Prelude.{true, false, List, [], ◌∷◌, ◌≡◌, ℕ, zero, suc, ◌+◌, ◌-◌, ◌≤◌, ◌<◌, eqb, ltb, length, drop, get_or}
use Rattle.std.proofs.Common.{ap, sym, ◌∙◌, add-zero, arith, drop_of_length-le, drop-cons, eq-eqb, ltb-false, ltb-true, ne_eqb}
use Rattle.base.specs.Choice.{test_cases}
use Rattle.base.specs.ListLaws.{drop-next}
use Rattle.search.specs.Passing.{NextByte, until}

pub until_within : (byte : ℕ) (xs : List ℕ) → until byte xs ≤ length xs
unfolding until
until_within byte [] = omega arith
until_within byte (b ∷ bs) =
    let within = until_within byte bs in
    test_cases (λ t. elim t [ true ↦ 0 | false ↦ suc (until byte bs) ] ≤ suc (length bs)) (eqb b byte) (λ _. omega arith) (λ _. omega arith)

until_further : (byte b : ℕ) (bs : List ℕ) → (b ≡ byte → ⊥) → until byte (b ∷ bs) ≡ suc (until byte bs)
unfolding until
until_further byte b bs differs = ap (λ t. elim t [ true ↦ 0 | false ↦ suc (until byte bs) ]) (ne_eqb b byte differs)

until_now : (byte b : ℕ) (bs : List ℕ) → b ≡ byte → until byte (b ∷ bs) ≡ 0
unfolding until
until_now byte b bs same = ap (λ t. elim t [ true ↦ 0 | false ↦ suc (until byte bs) ]) (eq-eqb b byte same)

module _ (text : List ℕ) (byte : ℕ) where
  until_passed : (i : ℕ) → i < length text → (get_or text i 0 ≡ byte → ⊥) → i + 1 + until byte (drop (i + 1) text) ≡ i + until byte (drop i text)
  until_passed i h differs = rw (drop-next text i 0 h, until_further byte _ _ differs) (omega arith)

  until-here : (i : ℕ) → i < length text → get_or text i 0 ≡ byte → until byte (drop i text) ≡ 0
  until-here i h same = rw (drop-cons text i 0 h) (until_now byte _ _ same)

  until-behind : (i : ℕ) → length text ≤ i → until byte (drop i text) ≡ 0
  unfolding until
  until-behind i h = rw (drop_of_length-le text h)

  until-places : (from n : ℕ) → from + n ≤ length text → ((j : ℕ) → from ≤ j → j < from + n → get_or text j 0 ≡ byte → ⊥) →
      from + n + until byte (drop (from + n) text) ≡ from + until byte (drop from text)
  until-places from zero h none = ap (λ (m : ℕ). m + until byte (drop m text)) (add-zero from)
  until-places from (suc n) h none =
      let next : from + suc n ≡ from + n + 1 = omega arith in
      ap (λ (m : ℕ). m + until byte (drop m text)) next
      ∙ until_passed (from + n) (omega arith) (none (from + n) (omega arith) (omega arith))
      ∙ until-places from n (omega arith) (λ j low below. none j low (omega arith))

  pub next-until : (from at : ℕ) → NextByte text byte from at → from + until byte (drop from text) ≡ at
  next-until from at n =
      let here : from + (at - from) ≡ at = omega (arith, n.low) in
      let last : until byte (drop at text) ≡ 0 =
      test_cases (λ _. until byte (drop at text) ≡ 0) (ltb at (length text))
      (λ t. let h = ltb-true at (length text) t in until-here at h (n.here h))
      (λ f. until-behind at (ltb-false at (length text) f)) in
      sym (until-places from (at - from) (omega (arith, n.high)) (λ j low below. n.none j low (omega arith)))
      ∙ ap (λ (m : ℕ). m + until byte (drop m text)) here
      ∙ omega (arith, last)
