-- `symbols::put_number` writes its bytes one by one. The invariant: what is left leads to the same.
use Rattle.symbols.proofs.Putting.{Putting}
use Rattle.symbols.proofs.put_number.Given as goal

abbrev pub invariant-loop-i : goal.invariant-loop-i
invariant-loop-i l = Putting l.initial.table l.at l.size l.number l.table l.n l.i
