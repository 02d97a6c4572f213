-- A run of digits has no blank, so NUMBER would read it alike. Assumes nothing.
use mathlib.Core.Bool.{true, false}
use mathlib.Core.List.{List, [], ◌∷◌}
use mathlib.Core.Path.{◌≡◌, refl, sym, ap, ◌∙◌}
use Prim.Native.Nat.{ℕ, suc, ◌*◌, ◌+◌, ◌-◌}
use native.Mathlib.Omega.{arith}
use lib.Dec.{leb}
use lib.ListN.{take, drop}
use borrow.Author.Tests.{leb-true, ne_eqb}
use Rattle.base.specs.Choice.{both_true, test_cases}
use Rattle.cards.specs.Bytes.{is_digit, between}
use Rattle.syntax.specs.Lexemes.{run_length, decimal_from}
use Rattle.values.specs.Conversion.{digit_of, decimal}

digit_value : (b : ℕ) → is_digit b ≡ true → digit_of b ≡ b - 48
unfolding is_digit between digit_of
digit_value b e =
    let low = leb-true 48 b (both_true (leb 48 b) (leb b 57) e).0 in
    rw (ne_eqb b 32 (λ same. omega arith))

decimal-digits : (v : ℕ) (bs : List ℕ) → decimal v (take (run_length is_digit bs) bs) ≡ decimal_from v (take (run_length is_digit bs) bs)
unfolding decimal decimal_from run_length
decimal-digits v [] = refl
decimal-digits v (b ∷ bs) =
    test_cases
    (λ t.
    let n : ℕ = elim t [ true ↦ suc (run_length is_digit bs) | false ↦ 0 ] in
    decimal v (take n (b ∷ bs)) ≡ decimal_from v (take n (b ∷ bs)))
    (is_digit b)
    (λ e.
    ap (λ (d : ℕ). decimal (v * 10 + d) (take (run_length is_digit bs) bs)) (digit_value b e) ∙ decimal-digits (v * 10 + (b - 48)) bs)
    (λ _. refl)

-- what NUMBER reads of the n digits at a place is what they write
pub digits_read : (text : List ℕ) (at n : ℕ) → n ≡ run_length is_digit (drop at text)
    → decimal 0 (take (at + n - at) (drop at text)) ≡ decimal_from 0 (take n (drop at text))
digits_read text at n digits =
    let bs = drop at text in
    let size : at + n - at ≡ run_length is_digit bs = omega arith in
    ap (λ (k : ℕ). decimal 0 (take k bs)) size ∙ decimal-digits 0 bs ∙ ap (λ (k : ℕ). decimal_from 0 (take k bs)) (sym digits)
