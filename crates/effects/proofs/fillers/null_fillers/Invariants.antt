-- `fillers::null_fillers` meets its contract. The invariant: making the fillers null that are left leaves the memory asked for.
use Rattle.effects.specs.FillerLaws.{Nulls}
use Rattle.effects.proofs.fillers.null_fillers.Given as goal

abbrev pub invariant-loop-at : goal.invariant-loop-at
invariant-loop-at l = Nulls l.table l.fn.pattern l.initial.store l.at l.store
