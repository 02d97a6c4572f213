-- `register_report::sums_of` meets its contract. The loop's invariant: with the sums of the lines left they are the sums of all.
use Rattle.register_report.specs.SumLaws.{SummedTo}
use Rattle.register_report.specs.Sums.{codes_in, tonnes_in, values_in}
use Rattle.register_report.proofs.sums_of.Given as goal

abbrev pub invariant-loop-worth : goal.invariant-loop-worth
invariant-loop-worth l =
    SummedTo l.code (codes_in l.worths) (tonnes_in l.worths) (values_in l.worths) l.count l.tonnes l.value l.worth-index
