-- `deck_reader::table::put_header`: the format and the counts.
use native.Mathlib.Omega.{arith}
use Rattle.deck_reader.specs.RowLaws.{header-put}
use Rattle.deck_reader.specs.Writing.{counted_by}
use Rattle.deck_reader.proofs.table.put_header.Goals as goal

pub returns : goal.returns
returns c =
    let a = c.args in
    header-put (counted_by a.n a.table.now) a.n.strings a.n.numbers (omega arith)
    c.put_number.ensures c.put_number-2.ensures c.put_number-3.ensures c.put_number-4.ensures c.put_number-5.ensures c.put_number-6.ensures
