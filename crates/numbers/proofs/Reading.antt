-- Signs, digits and their value, read from the front of a string. Assumes nothing.
use mathlib.Core.Bool.{Bool, true, false, false≢true, cond, ◌&&◌, ◌||◌, and-true}
use mathlib.Core.List.{List, [], ◌∷◌}
use mathlib.Core.Path.{◌≡◌, refl, sym, ap, ◌∙◌}
use Prim.Native.Nat.{ℕ, suc, ◌+◌, ◌*◌, ◌-◌, ◌≤◌, ◌<◌}
use native.Mathlib.Omega.{arith}
use lib.Dec.{eqb}
use lib.IntN.{pos, neg_ℤ, nat_abs}
use lib.ListN.{length, take, drop, get_or, drop_of_length-le, length-drop}
use lib.Seq.{take_all}
use mir.Val.{bool_byte}
use borrow.Author.Tests.{eq-eqb, ne_eqb}
use Rattle.std.specs.List.{list_all, starts_with}
use Rattle.std.specs.Prelude.{Some, None}
use Rattle.std.proofs.Common.{eqb-true}
use Rattle.base.specs.Choice.{test_cases, cond_cases, same_truth}
use Rattle.base.specs.Current.{current}
use Rattle.base.specs.ListLaws.{drop-next}
use Rattle.base.specs.Lists.{same, begins, all, is_nil}
use Rattle.base.specs.Text.{bytes}
use Rattle.values.specs.Conversion.{is_signed, unsigned_part, is_numeric, digit_of, decimal, signed_by, number_of}
use Rattle.values.specs.Numbers.{held}
use Rattle.values.specs.Result.{done, stop}
use Rattle.numbers.specs.Laws.{small_is, not_small}
use Rattle.numbers.specs.Numbers.{if_small}
use Rattle.numbers.proofs.Numbers.{negative_size, held_in, held_out}

-- ---- one byte

pub digit_low : (b : ℕ) → b < 48 → digit_of b ≡ 0
unfolding digit_of
digit_low b h = cond_cases (λ d. d ≡ 0) (eqb b 32) (λ e. refl) (λ e. omega arith)

pub digit_high : (b : ℕ) → 48 ≤ b → digit_of b ≡ b - 48
unfolding digit_of
digit_high b h = rw (ne_eqb b 32 (λ e. omega arith))

-- ---- the sign

-- whether a string begins with a byte is seen from its first
pub begins-byte : (c : ℕ) (s : List ℕ) → (length s ≡ 0 → ⊥) → begins (c ∷ []) s ≡ eqb (get_or s 0 0) c
unfolding begins same
begins-byte c [] some = absurd (some refl)
begins-byte c (b ∷ s) some = and-true (eqb b c)

-- as code looks for it
starts-begins : (c : ℕ) (s : List ℕ) → starts_with eqb s (c ∷ []) ≡ begins (c ∷ []) s
unfolding begins same
starts-begins c [] = refl
starts-begins c (b ∷ s) = ap (λ t. t && true) (same_truth (eqb c b) (eqb b c) (λ e. eq-eqb b c (sym (eqb-true c b e))) (λ e. eq-eqb c b (sym (eqb-true b c e))))

-- the sign's length, where code tells whether the string begins with one
pub sign_told : (s : List ℕ) {signed : Bool} {k : ℕ} → signed ≡ (starts_with eqb s (43 ∷ []) || starts_with eqb s (45 ∷ [])) → k ≡ bool_byte signed
    → k ≡ cond (is_signed s) 1 0
unfolding is_signed bytes
sign_told s {signed} told size =
    size ∙ rw (← starts-begins 43 s, ← starts-begins 45 s, ← told) (test_cases (λ t. bool_byte t ≡ cond t 1 0) signed (λ _. refl) (λ _. refl))

-- the bytes behind it, as a slice has them
pub sign_dropped : (s : List ℕ) {k : ℕ} → k ≡ cond (is_signed s) 1 0 → take (length s - k) (drop k s) ≡ unsigned_part s
unfolding unsigned_part
sign_dropped s {k} size =
    take_all (length s - k) (drop k s) (omega (arith, length-drop k s))
    ∙ ap (λ (n : ℕ). drop n s) size
    ∙ test_cases (λ t. drop (cond t 1 0) s ≡ cond t (drop 1 s) s) (is_signed s) (λ _. refl) (λ _. refl)

-- ---- NUMERIC

-- something is left, as code tells it
pub some_left : (s : List ℕ) → eqb (length s) 0 ≡ is_nil s
unfolding is_nil
some_left [] = refl
some_left (b ∷ s) = ne_eqb (suc (length s)) 0 (λ e. omega arith)

pub list_all_is : (f : ℕ → Bool) (xs : List ℕ) → list_all f xs ≡ all f xs
unfolding all
list_all_is f [] = refl
list_all_is f (x ∷ xs) = ap (λ t. f x && t) (list_all_is f xs)

-- a numeric string is not empty
pub numeric_some : (s : List ℕ) → is_numeric s ≡ true → 0 < length s
unfolding is_numeric unsigned_part is_signed begins same bytes is_nil
numeric_some [] e = absurd (false≢true e)
numeric_some (b ∷ s) e = omega arith

-- ---- the value

pub decimal-next : (v : ℕ) (s : List ℕ) (i : ℕ) → i < length s
    → decimal v (drop i s) ≡ decimal (v * 10 + digit_of (get_or s i 0)) (drop (i + 1) s)
unfolding decimal
decimal-next v s i h = ap (decimal v) (drop-next s i 0 h)

pub decimal_end : (v : ℕ) (s : List ℕ) (i : ℕ) → length s ≤ i → decimal v (drop i s) ≡ v
unfolding decimal
decimal_end v s i h = rw (drop_of_length-le s h)

-- more digits make a value no less
pub decimal_grows : (v : ℕ) (s : List ℕ) → v ≤ decimal v s
unfolding decimal
decimal_grows v [] = omega arith
decimal_grows v (b ∷ s) = omega (arith, decimal_grows (v * 10 + digit_of b) s)

-- ---- NUMBER

pub number_other : (s : List ℕ) → is_numeric s ≡ false → number_of current s ≡ done (pos 0) 1
unfolding number_of
number_other s e = rw e

module _ (s : List ℕ) (numeric : is_numeric s ≡ true) where
  -- the value of the digits with the sign of the first byte
  number_signed : number_of current s ≡ held current (signed_by (eqb (get_or s 0 0) 45) (decimal 0 (unsigned_part s)))
  unfolding number_of bytes
  number_signed =
      let some : length s ≡ 0 → ⊥ = λ empty. omega (arith, numeric_some s numeric) in
      rw (numeric, begins-byte 45 s some)

  signed_size : (negative : Bool) (n : ℕ) → nat_abs (signed_by negative n) ≡ n
  unfolding signed_by
  signed_size true n = negative_size (pos n)
  signed_size false n = refl

  pub number_beyond : if_small (decimal 0 (unsigned_part s)) ≡ None → number_of current s ≡ stop 19
  number_beyond h =
      let negative = eqb (get_or s 0 0) 45 in
      let value = decimal 0 (unsigned_part s) in
      number_signed ∙ held_out (signed_by negative value) (rw (signed_size negative value) (not_small value h))

  module _ {v : ℕ} (same : if_small (decimal 0 (unsigned_part s)) ≡ Some v) where
    pub number_negative : get_or s 0 0 ≡ 45 → number_of current s ≡ done (neg_ℤ (pos v)) 0
    unfolding signed_by
    number_negative e =
        let small = small_is same in
        number_signed
        ∙ rw (eq-eqb (get_or s 0 0) 45 e, sym small.0) (held_in (neg_ℤ (pos v)) (rw (negative_size (pos v)) small.1))

    pub number_positive : (get_or s 0 0 ≡ 45 → ⊥) → number_of current s ≡ done (pos v) 0
    unfolding signed_by
    number_positive f =
        let small = small_is same in
        number_signed ∙ rw (ne_eqb (get_or s 0 0) 45 f, sym small.0) (held_in (pos v) small.1)
