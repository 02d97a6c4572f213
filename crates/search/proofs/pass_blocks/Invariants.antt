-- `search::pass_blocks` passes only blocks where nothing was found. The invariant: no place passed has both bytes.
use Rattle.search.specs.Passing.{Without}
use Prim.Native.Nat.{◌-◌}
use Rattle.search.proofs.pass_blocks.Given as goal

abbrev pub invariant-loop-k : goal.invariant-loop-k
invariant-loop-k g l = Without l.text l.first l.second l.span l.places l.from l.k

abbrev pub decreases-loop-k : goal.decreases-loop-k
decreases-loop-k g l = l.places - l.k
