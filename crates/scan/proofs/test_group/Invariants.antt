-- `scan::test_group` tests the elements of a group. The invariant: those passed took their pieces.
use lib.ListN.{length}
use Rattle.std.specs.List.{concat}
use Rattle.scan.specs.Steps.{Reached}
use Prim.Native.Nat.{◌-◌}
use Rattle.scan.proofs.test_group.Given as goal

abbrev pub invariant-loop-i : goal.invariant-loop-i
invariant-loop-i l = Reached l.reference l.pattern.values.now (concat l.pattern.rows.now) (length l.pattern.rows.now) l.g l.place l.i l.at

abbrev pub decreases-loop-i : goal.decreases-loop-i
decreases-loop-i l = length l.pattern.rows.now - l.i
