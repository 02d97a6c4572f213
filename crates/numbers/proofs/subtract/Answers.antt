-- `numbers::subtract` meets its contract. The result fits an i64 before it is held to the range.
use Prim.Native.Nat.{◌≤◌}
use native.Mathlib.Omega.{arith}
use lib.IntN.{ℤ, nat_abs, neg_ℤ, ◌-ℤ◌}
use Rattle.base.specs.Current.{limit}
use Rattle.values.specs.Numbers.{difference}
use Rattle.numbers.proofs.Numbers.{Works, works, sum_size, negative_size, held_as}
use Rattle.numbers.proofs.subtract.Goals as goal

-- the result of two numbers in range
result : (a b : ℤ) → nat_abs a ≤ limit → nat_abs b ≤ limit → Works ◌-ℤ◌ a b
result a b l r = works ◌-ℤ◌ a b (omega arith) (omega arith) (omega (arith, sum_size a (neg_ℤ b), negative_size b))

pub overflow_sub-a : goal.overflow_sub-a
overflow_sub-a c =
    (result c.args.a.value c.args.b.value c.requires.left c.requires.right).fit

pub held-requires : goal.held-requires
held-requires c =
    (result c.args.a.value c.args.b.value c.requires.left c.requires.right).small

pub returns : goal.returns
unfolding difference
returns c =
    held_as (result c.args.a.value c.args.b.value c.requires.left c.requires.right).same c.held.ensures
