-- `numbers::add` meets its contract. The result fits an i64 before it is held to the range.
use Prim.Native.Nat.{◌≤◌}
use native.Mathlib.Omega.{arith}
use lib.IntN.{ℤ, nat_abs, ◌+ℤ◌}
use Rattle.base.specs.Current.{limit}
use Rattle.values.specs.Numbers.{sum}
use Rattle.numbers.proofs.Numbers.{Works, works, sum_size, held_as}
use Rattle.numbers.proofs.add.Goals as goal

-- the result of two numbers in range
result : (a b : ℤ) → nat_abs a ≤ limit → nat_abs b ≤ limit → Works ◌+ℤ◌ a b
result a b l r = works ◌+ℤ◌ a b (omega arith) (omega arith) (omega (arith, sum_size a b))

pub overflow_add-a : goal.overflow_add-a
overflow_add-a c =
    (result c.args.a.value c.args.b.value c.requires.left c.requires.right).fit

pub held-requires : goal.held-requires
held-requires c =
    (result c.args.a.value c.args.b.value c.requires.left c.requires.right).small

pub returns : goal.returns
unfolding sum
returns c =
    held_as (result c.args.a.value c.args.b.value c.requires.left c.requires.right).same c.held.ensures
