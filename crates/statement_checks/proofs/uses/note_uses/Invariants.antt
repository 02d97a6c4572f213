-- `uses::note_uses` notes uses one by one. The invariant: those of the entries passed are noted.
use Rattle.std.proofs.Common.{◌+◌, ◌≤◌, length}
use Rattle.name_checks.specs.Shown.{entries_to}
use Rattle.statement_checks.specs.Uses.{Used}
use Rattle.statement_checks.proofs.uses.note_uses.Given as goal

abbrev pub invariant-loop-key : goal.invariant-loop-key
invariant-loop-key l =
    record {
      few : l.uses.count ≤ l.initial.uses.count + length l.yielded;
      so : Used l.initial.uses l.scope (entries_to l.entries (length l.yielded)) l.uses;
    }
