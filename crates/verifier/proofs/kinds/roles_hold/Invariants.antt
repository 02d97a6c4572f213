-- `verifier::kinds::roles_hold` meets its contract.
use mathlib.Core.Bool.{false}
use mathlib.Core.Path.{◌≡◌}
use Prim.Native.Nat.{◌+◌, ◌-◌}
use lib.ListN.{length, replicate}
use Rattle.verifier.specs.Roles.{roles_test}
use Rattle.verifier.proofs.kinds.roles_hold.Given as goal

abbrev pub invariant-loop-i : goal.invariant-loop-i
invariant-loop-i l =
    (length l.marks ≡ 256)
    × (roles_test l.t l.reference (replicate 256 false) l.k l.count ≡ roles_test l.t l.reference l.marks l.i (l.k + l.count - l.i))
