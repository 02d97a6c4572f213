-- `numbers::divide` meets its contract. A divisor whose bits are not 0 is not 0.
use mathlib.Core.Path.{◌≡◌}
use Prim.Native.Nat.{◌≤◌}
use native.Mathlib.Omega.{arith}
use lib.IntN.{ℤ, pos, negsuc, nat_abs}
use lib.Signed.{quot_z}
use mir.Syntax.{w64}
use mir.Val.{of_z}
use borrow.Author.Tests.{eq-eqb, ne_eqb}
use Rattle.base.specs.Current.{limit}
use Rattle.values.specs.Numbers.{quotient}
use Rattle.numbers.proofs.Numbers.{Works, works, quotient_size, held_as}
use Rattle.numbers.proofs.divide.Goals as goal

-- the quotient of two numbers in range
result : (a b : ℤ) → nat_abs a ≤ limit → nat_abs b ≤ limit → Works quot_z a b
result a b l r = works quot_z a b (omega arith) (omega arith) (omega (arith, quotient_size a b))

-- the bits of a number in range are 0 for 0 alone
zero_bits : (z : ℤ) → of_z w64 z ≡ 0 → nat_abs z ≤ limit → nat_abs z ≡ 0
zero_bits (pos n) e h = e
zero_bits (negsuc n) e h = omega arith

other_bits : (z : ℤ) → (of_z w64 z ≡ 0 → ⊥) → nat_abs z ≡ 0 → ⊥
other_bits (pos n) f e = f e
other_bits (negsuc n) f e = omega arith

pub returns-then-b-eq0 : goal.returns-then-b-eq0
unfolding quotient
returns-then-b-eq0 c =
    let b = c.args.b.value in
    record { work = rw (eq-eqb (nat_abs b) 0 (zero_bits b c.if-b-eq0.true c.requires.right)); range = tt }

pub nonzero_div-a : goal.nonzero_div-a
nonzero_div-a c =
    let nonzero : of_z w64 c.args.b.value ≡ 0 → ⊥ = c.if-b-eq0.false in
    (omega arith, (result c.args.a.value c.args.b.value c.requires.left c.requires.right).fit)

pub held-requires : goal.held-requires
held-requires c =
    (result c.args.a.value c.args.b.value c.requires.left c.requires.right).small

pub returns : goal.returns
unfolding quotient
returns c =
    let b = c.args.b.value in
    rw (ne_eqb (nat_abs b) 0 (other_bits b c.if-b-eq0.false))
    (held_as (result c.args.a.value b c.requires.left c.requires.right).same c.held.ensures)
