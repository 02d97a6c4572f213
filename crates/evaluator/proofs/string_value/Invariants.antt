-- `evaluator::string_value` meets its contract. The loop's invariant: the whole comes to the bytes so far and what the elements left come to.
use Rattle.evaluator.specs.Meaning.{memory_meaning}
use Rattle.evaluator.proofs.Spelling.{Spelling}
use Rattle.evaluator.proofs.string_value.Given as goal

abbrev pub invariant-loop-at : goal.invariant-loop-at
invariant-loop-at l =
    Spelling (memory_meaning l.memory) l.table l.fn.s.from l.fn.s.count l.out l.length l.notes l.at
