-- `roles::is_filler_before` finds a filler. The invariant: the names left lead to the same.
use mathlib.Core.Path.{◌≡◌}
use Rattle.name_checks.specs.Roles.{fillers_have}
use Rattle.name_checks.proofs.roles.is_filler_before.Given as goal

abbrev pub invariant-loop-i : goal.invariant-loop-i
invariant-loop-i l = fillers_have l.entries l.i l.key ≡ fillers_have l.entries l.n l.key
