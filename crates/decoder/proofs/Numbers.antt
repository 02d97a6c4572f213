-- Numbers of 6 bytes as numbers of 2. Assumes nothing.
use mathlib.Core.List.{List}
use mathlib.Core.Path.{◌≡◌}
use Prim.Native.Nat.{ℕ, ◌+◌, ◌*◌}
use native.Mathlib.Omega.{arith}
use Rattle.encoding.specs.Numerals.{numeral_at}

-- a number of 6 bytes is made of three of 2
pub six : (t : List ℕ) (at : ℕ) → numeral_at 6 t at ≡ numeral_at 2 t at + 65536 * (numeral_at 2 t (at + 2) + 65536 * numeral_at 2 t (at + 4))
unfolding numeral_at
six t at =
    let two : at + 1 + 1 ≡ at + 2 = omega arith in
    let three : at + 2 + 1 ≡ at + 3 = omega arith in
    let four : at + 3 + 1 ≡ at + 4 = omega arith in
    rw (two, three, four) (omega arith)
