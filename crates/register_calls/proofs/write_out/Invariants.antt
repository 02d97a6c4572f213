-- `register_calls::write_out` meets its contract. The loop's invariant: the currency stands behind the first k lines.
use Rattle.register_calls.specs.Putting.{WrittenTo}
use Rattle.register_calls.proofs.write_out.Given as goal

abbrev pub invariant-loop-k : goal.invariant-loop-k
invariant-loop-k l = WrittenTo l.initial.buffer l.currency l.k l.buffer
