-- `evaluator::items_value` meets its contract. The loop's invariant: the whole comes to what the waiting numbers and the items left come to.
use Rattle.evaluator.specs.Meaning.{memory_meaning}
use Rattle.evaluator.proofs.Valuing.{Valuing}
use Rattle.evaluator.proofs.items_value.Given as goal

abbrev pub invariant-loop-at : goal.invariant-loop-at
invariant-loop-at l =
    Valuing (memory_meaning l.memory) l.table l.fn.s.from l.fn.s.count l.waiting l.notes l.at
