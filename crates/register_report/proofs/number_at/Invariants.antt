-- `register_report::number_at` meets its contract. The loop's invariant: the digits before the place are read.
use Rattle.register_report.specs.FieldLaws.{NumberReadTo}
use Rattle.register_report.proofs.number_at.Given as goal

abbrev pub invariant-loop-end : goal.invariant-loop-end
invariant-loop-end l = NumberReadTo l.line l.at l.value l.end
