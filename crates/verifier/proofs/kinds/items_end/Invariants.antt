-- `verifier::kinds::items_end` meets its contract.
use mathlib.Core.Path.{◌≡◌}
use Prim.Native.Nat.{◌+◌, ◌-◌, ◌≤◌}
use Rattle.verifier.specs.Items.{items_end}
use Rattle.verifier.proofs.kinds.items_end.Given as goal

abbrev pub invariant-loop-i : goal.invariant-loop-i
invariant-loop-i l =
    (l.known ≤ 64)
    × (items_end l.n.strings l.n.numbers l.n.steps l.t l.k 0 l.count
    ≡ items_end l.n.strings l.n.numbers l.n.steps l.t l.i l.known (l.k + l.count - l.i))
