-- `deck_reader::table::put_row`: a row in its parts.
use Prim.Native.Nat.{◌+◌, ◌*◌}
use native.Mathlib.Omega.{arith}
use Rattle.deck_reader.specs.RowLaws.{row_put, row_inside, row-behind}
use Rattle.deck_reader.proofs.table.put_row.Goals as goal

pub returns-then-k-lt-STEPS : goal.returns-then-k-lt-STEPS
returns-then-k-lt-STEPS c =
    let t = c.args.table.now in
    row_inside t c.args.k c.args.card _ c.if-k-lt-STEPS.true
    (row_put t (64 + 24 * c.args.k) c.args.card c.args.row (omega arith) c.put_number.ensures c.put_number-then-k-lt-STEPS.ensures
    c.put_number-then-k-lt-STEPS-2.ensures c.put_cells.ensures)

pub returns-else-k-lt-STEPS : goal.returns-else-k-lt-STEPS
returns-else-k-lt-STEPS c =
    row-behind c.args.table.now c.args.k c.args.card _ (omega arith)
