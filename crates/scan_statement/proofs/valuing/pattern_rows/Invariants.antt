-- `valuing::pattern_rows` meets its contract. The loop's invariant: the whole comes to the values so far and what the elements left come
use Rattle.std.proofs.Common.{◌≡◌, length}
use Rattle.evaluator.specs.Memory.{memory_in}
use Rattle.scan_statement.specs.ValuingLaws.{RowsValued}
use Rattle.scan_statement.proofs.valuing.pattern_rows.Given as goal

abbrev pub invariant-loop-i : goal.invariant-loop-i
invariant-loop-i l =
    RowsValued (memory_in l.memory.store.now l.memory.state.now) l.table l.from l.i-end l.values l.rows l.names l.notes l.i
    × (length l.rows ≡ 240) × (length l.names ≡ 20)
