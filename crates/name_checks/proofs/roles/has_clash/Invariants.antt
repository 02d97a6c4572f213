-- `roles::has_clash` finds a role that clashes. The invariant: the roles left, with the reference so far, lead to the same.
use mathlib.Core.Path.{◌≡◌}
use Rattle.name_checks.specs.RoleLaws.{clash_from}
use Rattle.name_checks.specs.Roles.{Unclashed}
use Rattle.name_checks.proofs.roles.has_clash.Given as goal

abbrev pub invariant-loop-i : goal.invariant-loop-i
invariant-loop-i l =
    (clash_from l.entries l.searched l.i ≡ clash_from l.entries 0 0) × Unclashed l.entries l.i
