-- `verifier::kinds::elements_end` meets its contract.
use mathlib.Core.Path.{◌≡◌}
use Prim.Native.Nat.{◌+◌, ◌-◌, ◌≤◌}
use Rattle.verifier.specs.Elements.{elements_end}
use Rattle.verifier.proofs.kinds.elements_end.Given as goal

abbrev pub invariant-loop-i : goal.invariant-loop-i
invariant-loop-i l =
    (l.end ≤ 65536)
    × (elements_end l.n.strings l.n.numbers l.n.steps l.high l.t l.k l.at l.count
    ≡ elements_end l.n.strings l.n.numbers l.n.steps l.high l.t l.i l.end (l.k + l.count - l.i))
