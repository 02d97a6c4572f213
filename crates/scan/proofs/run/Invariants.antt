-- `scan::run` scans group by group. The invariant: what is left of the slide, behind what is settled, is the whole scan's outcome.
use Rattle.scan.proofs.Running.{Running}
use Prim.Native.Nat.{◌+◌, ◌*◌, ◌-◌}
use lib.ListN.{length}
use Rattle.std.specs.List.{concat}
use Rattle.scan.proofs.run.Given as goal

abbrev pub invariant-loop-failed : goal.invariant-loop-failed
invariant-loop-failed l = Running l.reference l.pattern.values.now (concat l.pattern.rows.now) (length l.pattern.rows.now) l.answer l.g l.from l.place l.trials

abbrev pub decreases-loop-failed : goal.decreases-loop-failed
decreases-loop-failed l = 21 * (length l.reference - l.place) + (length l.pattern.rows.now - l.g)
