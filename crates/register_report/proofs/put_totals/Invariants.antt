-- `register_report::put_totals` meets its contract. The loop's invariant: the TOTAL lines of j currencies are put, and the code is the next one's.
use Rattle.std.proofs.Common.{ℕ}
use Rattle.register.specs.Register.{Lines}
use Rattle.register_report.specs.Codes.{CodeFound}
use Rattle.register_report.specs.SumLaws.{RoomTo, TotalsTo}
use Rattle.register_report.specs.Sums.{WorthsOf, codes_in}
use Rattle.register_report.proofs.put_totals.Given as goal

abbrev pub invariant-loop-j : goal.invariant-loop-j
invariant-loop-j l =
    (code : ℕ) × CodeFound code l.next × RoomTo (codes_in l.worths) l.initial.out l.out code l.at l.j
    × ((lines : Lines) → WorthsOf lines l.worths → TotalsTo lines l.initial.out l.out code l.at l.j)
