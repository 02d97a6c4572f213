-- What a byte's class says of it, proved at all 256 bytes by tests that antt computes. Assumes nothing.
use Rattle.std.specs.Prelude.{Bool, true, false, ◌&&◌, ◌||◌, List, [], ◌∷◌, ◌≡◌, ℕ, zero, suc, ◌+◌, ◌<◌, leb, ltb, get_or}
use Rattle.std.proofs.Math.Bool.{cond, not, and-eq-true_iff}
use Rattle.std.proofs.Math.Path.{refl}
use Rattle.std.proofs.Common.{ap, subst, sym, ◌∙◌, not-suc-le-zero, arith, eqb-true, leb-true}
use Rattle.std.proofs.Math.Dec.{eqb}
use Rattle.std.proofs.lemmas.Bool.{eqb-false}
use Rattle.base.specs.Choice.{test_cases}
use Rattle.base.specs.Lists.{among}
use Rattle.base.specs.Text.{bytes}
use Rattle.cards.specs.Bytes.{
  letter,
  digit,
  blank,
  refused_byte,
  between,
  marks,
  is_letter,
  is_digit,
  is_name_byte,
  is_blank,
  class_of,
  is_refused,
}
use Rattle.values.specs.Conversion.{is_digit_or_blank}
use Rattle.classes.specs.Numbers.{class_number, has_number}

-- the test f passes at each number below n
unfoldable every : (ℕ → Bool) → ℕ → Bool
every f zero = true
every f (suc n) = f n && every f n

at_each : (f : ℕ → Bool) (n : ℕ) → every f n ≡ true → (k : ℕ) → k < n → f k ≡ true
unfolding every
at_each f zero t k h = absurd (not-suc-le-zero h)
at_each f (suc n) t k h =
    let parts = (and-eq-true_iff (f n) (every f n)).0 t in
    test_cases (λ _. f k ≡ true) (eqb k n)
    (λ e. subst (λ (m : ℕ). f m ≡ true) (sym (eqb-true k n e)) parts.0)
    (λ e. at_each f n parts.1 k (omega (arith, eqb-false k n e)))

unfoldable agree : Bool → Bool → Bool
agree true b = b
agree false b = not b

agreed : (a b : Bool) → agree a b ≡ true → a ≡ b
unfolding agree
agreed true b e = sym e
agreed false true e = e
agreed false false e = refl

-- two tests that agree at every byte
same_test : (f g : ℕ → Bool) → every (λ k. agree (f k) (g k)) 256 ≡ true → (b : ℕ) → b < 256 → f b ≡ g b
same_test f g computed b byte = agreed (f b) (g b) (at_each (λ k. agree (f k) (g k)) 256 computed b byte)

-- the values of f at n numbers from i on
unfoldable pub values : (ℕ → ℕ) → ℕ → ℕ → List ℕ
values f i zero = []
values f i (suc n) = f i ∷ values f (suc i) n

values-at : (f : ℕ → ℕ) (i n k : ℕ) → k < n → get_or (values f i n) k 0 ≡ f (i + k)
unfolding values
values-at f i zero k h = absurd (not-suc-le-zero h)
values-at f i (suc n) zero h = ap f (omega arith)
values-at f i (suc n) (suc k) h = values-at f (suc i) n k (omega arith) ∙ ap f (omega arith)

-- the table as its rule computes it: the number of each byte's class
abbrev table : List ℕ
table = values (λ k. class_number (class_of k)) 0 256

module _ (b : ℕ) (byte : b < 256) where
  pub table_class : get_or table b 0 ≡ class_number (class_of b)
  table_class = values-at (λ k. class_number (class_of k)) 0 256 b byte ∙ ap (λ k. class_number (class_of k)) (omega arith)

  -- what the number of a byte's class says of it
  pub letter_class : has_number letter b ≡ is_letter b
  unfolding every agree between marks is_letter is_digit is_blank class_of class_number among bytes
  letter_class = same_test (has_number letter) is_letter refl b byte

  pub digit_class : has_number digit b ≡ is_digit b
  unfolding every agree between marks is_letter is_digit is_blank class_of class_number among bytes
  digit_class = same_test (has_number digit) is_digit refl b byte

  pub name_class : (has_number letter b || has_number digit b) ≡ is_name_byte b
  unfolding every agree between marks is_letter is_digit is_blank class_of class_number among bytes is_name_byte
  name_class = same_test (λ k. has_number letter k || has_number digit k) is_name_byte refl b byte

  pub blank_class : has_number blank b ≡ is_blank b
  unfolding every agree between marks is_letter is_digit is_blank class_of class_number among bytes
  blank_class = same_test (has_number blank) is_blank refl b byte

  pub numeric_class : (has_number digit b || has_number blank b) ≡ is_digit_or_blank b
  unfolding every agree between marks is_letter is_digit is_blank class_of class_number among bytes is_digit_or_blank
  numeric_class = same_test (λ k. has_number digit k || has_number blank k) is_digit_or_blank refl b byte

  pub refused_class : has_number refused_byte b ≡ is_refused (class_of b)
  unfolding every agree between marks is_letter is_digit is_blank class_of class_number is_refused among bytes
  refused_class = same_test (has_number refused_byte) (λ k. is_refused (class_of k)) refl b byte

  -- what comparing a byte says of the number of its class
  pub blank_compared : eqb b 32 ≡ has_number blank b
  unfolding every agree between marks is_letter is_digit is_blank class_of class_number among bytes
  blank_compared = same_test (λ k. eqb k 32) (has_number blank) refl b byte

  pub numeric_compared : cond (ltb b 48) (is_blank b) (leb b 57) ≡ (has_number digit b || has_number blank b)
  unfolding every agree between marks is_letter is_digit is_blank class_of class_number among bytes
  numeric_compared = same_test (λ k. cond (ltb k 48) (is_blank k) (leb k 57)) (λ k. has_number digit k || has_number blank k) refl b byte

  range_class : between 32 126 b ≡ not (is_refused (class_of b))
  unfolding every agree between marks is_letter is_digit is_blank class_of is_refused among bytes
  range_class = same_test (between 32 126) (λ k. not (is_refused (class_of k))) refl b byte

-- C7 "other data 32-126, refused": a byte in this range is not refused
pub data_range : (b : ℕ) → between 32 126 b ≡ true → not (is_refused (class_of b)) ≡ true
unfolding between
data_range b within =
    let below = leb-true b 126 ((and-eq-true_iff (leb 32 b) (leb b 126)).0 within).1 in
    sym (range_class b (omega arith)) ∙ within
