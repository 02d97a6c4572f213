-- `numbers::multiply` meets its contract. The result fits an i64 before it is held to the range.
use Prim.Native.Nat.{◌≤◌}
use native.Mathlib.Nat.{mul-le-mul}
use native.Mathlib.Omega.{arith}
use lib.IntN.{ℤ, nat_abs, ◌*ℤ◌}
use Rattle.base.specs.Current.{limit}
use Rattle.values.specs.Numbers.{product}
use Rattle.numbers.proofs.Numbers.{Works, works, product_size, held_as}
use Rattle.numbers.proofs.multiply.Goals as goal

-- the result of two numbers in range
result : (a b : ℤ) → nat_abs a ≤ limit → nat_abs b ≤ limit → Works ◌*ℤ◌ a b
result a b l r = works ◌*ℤ◌ a b (omega arith) (omega arith) (rw (product_size a b) (omega (arith, mul-le-mul l r)))

pub overflow_mul-a : goal.overflow_mul-a
overflow_mul-a c =
    (result c.args.a.value c.args.b.value c.requires.left c.requires.right).fit

pub held-requires : goal.held-requires
held-requires c =
    (result c.args.a.value c.args.b.value c.requires.left c.requires.right).small

pub returns : goal.returns
unfolding product
returns c =
    held_as (result c.args.a.value c.args.b.value c.requires.left c.requires.right).same c.held.ensures
