-- What a read gives is no more than it was lent, and the measure is the room that is left.
use Rattle.std.proofs.Common.{◌-◌, ◌≤◌, length}
use Rattle.strigol.proofs.keep.Given as goal

abbrev pub invariant-loop-kept : goal.invariant-loop-kept
invariant-loop-kept g l = l.kept ≤ length l.to

abbrev pub decreases-loop-kept : goal.decreases-loop-kept
decreases-loop-kept g l = length l.to - l.kept
