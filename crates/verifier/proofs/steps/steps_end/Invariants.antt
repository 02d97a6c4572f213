-- `verifier::steps::steps_end` meets its contract.
use mathlib.Core.Path.{◌≡◌}
use Prim.Native.Nat.{◌-◌}
use Rattle.verifier.specs.Tests.{PlacesRoom, start, steps_end}
use Rattle.verifier.proofs.steps.steps_end.Given as goal

abbrev pub invariant-loop-k : goal.invariant-loop-k
invariant-loop-k l =
    PlacesRoom l.p
    × (steps_end l.n l.t 0 start l.n.steps ≡ steps_end l.n l.t l.k l.p (l.n.steps - l.k))
