-- `labels::list_labels` notes labels one by one. The invariant: those of the entries passed are noted.
use Rattle.std.proofs.Common.{length}
use Rattle.name_checks.specs.Shown.{entries_to}
use Rattle.statement_checks.specs.Labels.{Labelled}
use Rattle.statement_checks.proofs.labels.list_labels.Given as goal

abbrev pub invariant-loop-key : goal.invariant-loop-key
invariant-loop-key l = Labelled l.initial.labels.items l.step l.scope (entries_to l.entries (length l.yielded)) l.labels.items
