-- `register_report::make_totals` meets its contract. The loop's invariant: the lines before the place are weighed, with their bytes.
use Rattle.register.specs.Buffer.{register_in}
use Rattle.register_report.specs.PutLaws.{FilledTo}
use Rattle.register_report.proofs.make_totals.Given as goal

abbrev pub invariant-loop-place : goal.invariant-loop-place
invariant-loop-place l = FilledTo (register_in l.register.buffer.now).lines l.worths.items l.lines l.place
