-- `fillers::copy_fillers` meets its contract. The invariant: copying the fillers that are left gives the strings asked for.
use Rattle.effects.specs.FillerLaws.{Copies}
use Rattle.effects.proofs.fillers.copy_fillers.Given as goal

abbrev pub invariant-loop-at : goal.invariant-loop-at
invariant-loop-at l = Copies l.table l.fn.pattern l.from l.initial.to l.at l.to
