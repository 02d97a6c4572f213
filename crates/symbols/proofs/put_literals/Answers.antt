-- `symbols::put_literals` writes what has room.
use Rattle.std.proofs.Common.{arith}
use Rattle.symbols.proofs.Putting.{literals_put}
use Rattle.symbols.proofs.put_literals.Goals as goal

pub returns : goal.returns
returns c =
    let a = c.args in
    let from = c.min-from in
    let n = c.min-n in
    literals_put a.table.now a.l a.bytes.now (omega arith) from.result n.result from.ensures n.ensures _ (omega arith)
    c.copy_from_slice.ensures.after
