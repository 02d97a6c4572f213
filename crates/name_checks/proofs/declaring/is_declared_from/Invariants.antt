-- `declaring::is_declared_from` finds a declaration. The invariant: the entries left lead to the same.
use mathlib.Core.Path.{◌≡◌}
use Rattle.validation.specs.Environment.{same_mention}
use Rattle.symbols.specs.Entries.{declared_by}
use Rattle.name_checks.specs.LoopLaws.{any_from}
use Rattle.name_checks.specs.Names.{key_mention}
use Rattle.name_checks.proofs.declaring.is_declared_from.Given as goal

abbrev pub invariant-loop-i : goal.invariant-loop-i
invariant-loop-i l =
    let left = any_from (same_mention (key_mention l.key l.purpose)) declared_by l.entries in
    left l.i ≡ left l.from
