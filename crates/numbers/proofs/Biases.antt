-- A number of i64 with the bias added, and without it. Assumes nothing.
use mathlib.Core.Path.{◌≡◌, ap}
use Prim.Native.Nat.{ℕ, ◌≤◌, ◌<◌, ◌^◌}
use native.Mathlib.Omega.{arith}
use lib.Dec.{ltb}
use lib.IntN.{ℤ, pos, nat_abs, ◌+ℤ◌, ◌-ℤ◌}
use mir.Syntax.{w64}
use mir.Val.{SFits, of_z, to_z}
use borrow.Author.Tests.{ltb-true, ltb-false}
use Rattle.base.specs.Choice.{cond_cases}
use Rattle.base.specs.Current.{limit}
use Rattle.encoding.specs.Numerals.{bias, biased, unbiased}
use Rattle.encoding.specs.NumeralLaws.{biased_small}
use Rattle.numbers.specs.Laws.{fits, plain}

-- the sum with the bias, as the code makes it
pub bias_is : (z : ℤ) → nat_abs z ≤ limit → nat_abs (to_z w64 (of_z w64 (to_z w64 (of_z w64 z) +ℤ pos 140_737_488_355_328))) ≡ biased z
unfolding biased bias
bias_is z h =
    let small : biased z < 2 ^ 48 = biased_small z (omega arith) in
    rw (plain z (omega arith)) (ap nat_abs (plain (z +ℤ pos (2 ^ 47)) (omega (arith, small))))

-- a number of 6 bytes as an integer is less than 2 ^ 63 away from 0
unbiased_small : (n : ℕ) → n < 2 ^ 48 → nat_abs (unbiased n) < 2 ^ 63
unfolding unbiased bias
unbiased_small n h =
    cond_cases (λ z. nat_abs z < 2 ^ 63) (ltb n (2 ^ 47)) (λ e. omega (arith, ltb-true n (2 ^ 47) e))
    (λ e. omega (arith, ltb-false n (2 ^ 47) e))

-- the number is read as itself
as_itself : (n : ℕ) → n < 2 ^ 48 → to_z w64 n ≡ pos n
as_itself n h = plain (pos n) (omega arith)

-- without the bias it fits an i64
pub unbias_fits : (n : ℕ) → n < 2 ^ 48 → SFits w64 (to_z w64 n -ℤ pos 140_737_488_355_328)
unfolding unbiased bias
unbias_fits n h = rw (as_itself n h) (fits (unbiased n) (unbiased_small n h))

-- and is the integer
pub unbias_is : (n : ℕ) → n < 2 ^ 48 → to_z w64 (of_z w64 (to_z w64 n -ℤ pos 140_737_488_355_328)) ≡ unbiased n
unfolding unbiased bias
unbias_is n h = rw (as_itself n h) (plain (unbiased n) (unbiased_small n h))
