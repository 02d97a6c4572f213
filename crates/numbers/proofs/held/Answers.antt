-- `numbers::held` meets its contract. A number that was tested is in range.
use mathlib.Core.Path.{sym, ap}
use native.Mathlib.Omega.{arith}
use lib.IntN.{nat_abs}
use Prim.Native.Nat.{◌≤◌, ◌<◌}
use Rattle.base.specs.Current.{limit}
use Rattle.numbers.specs.Laws.{plain}
use Rattle.numbers.proofs.Numbers.{held_in, held_out}
use Rattle.numbers.proofs.held.Goals as goal

pub returns-then-unsigned_abs-le-LIMIT : goal.returns-then-unsigned_abs-le-LIMIT
returns-then-unsigned_abs-le-LIMIT c =
    let same = plain c.args.z c.requires in
    let small : nat_abs c.args.z ≤ limit = omega (arith, c.unsigned_abs.ensures.value, ap nat_abs same) in
    rw (c.plain.ensures, same) (record { work = sym (held_in c.args.z small); range = small })

pub returns-else-unsigned_abs-le-LIMIT : goal.returns-else-unsigned_abs-le-LIMIT
returns-else-unsigned_abs-le-LIMIT c =
    let large : limit < nat_abs c.args.z = omega (arith, c.unsigned_abs.ensures.value, ap nat_abs (plain c.args.z c.requires)) in
    record { work = sym (held_out c.args.z large); range = tt }
