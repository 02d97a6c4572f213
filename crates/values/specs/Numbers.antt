-- Document 01, "Values": numbers, their range and their operators. Assumes nothing.
use Rattle.std.specs.Prelude.{Bool, cond, leb, eqb, ℤ, pos, nat_abs, ◌+ℤ◌, ◌-ℤ◌, ◌*ℤ◌}
use Rattle.std.specs.Int.Signed.{quot_z, lt_z}
use Rattle.base.specs.Edition.{Edition}
use Rattle.values.specs.Result.{Result, done, stop}

unfoldable pub is_negative : ℤ → Bool
is_negative z = lt_z z (pos 0)

module _ (e : Edition) where
  -- V1 "Numbers run from -8,388,607 to 8,388,607"
  unfoldable pub is_in_range : ℤ → Bool
  is_in_range z = leb (nat_abs z) e.limit

  -- Q19 "A number leaves its range."
  unfoldable pub held : ℤ → Result ℤ
  held z = cond (is_in_range z) (done z 0) (stop 19)

  unfoldable pub sum : ℤ → ℤ → Result ℤ
  sum a b = held (a +ℤ b)

  unfoldable pub difference : ℤ → ℤ → Result ℤ
  difference a b = held (a -ℤ b)

  unfoldable pub product : ℤ → ℤ → Result ℤ
  product a b = held (a *ℤ b)

  -- V2 "division drops the fraction"; Q18 "A divisor is zero."
  unfoldable pub quotient : ℤ → ℤ → Result ℤ
  quotient a b = cond (eqb (nat_abs b) 0) (stop 18) (held (quot_z a b))
