-- `symbols::put_number` writes its bytes one by one. The invariant: what is left leads to the same.
use Rattle.symbols.proofs.Putting.{putting_none, putting_more, putting_all}
use native.Mathlib.Omega.{arith}
use Rattle.symbols.proofs.put_number.Goals as goal

pub loop-i-init : goal.loop-i-init
loop-i-init c = let a = c.args in putting_none a.table.now a.at a.size a.number

pub loop-i-preserved : goal.loop-i-preserved
loop-i-preserved c =
    let a = c.args in
    let l = c.loop-i in
    putting_more a.table.now a.at a.size a.number l.table l.n l.i l.invariant (omega arith) (omega arith)

pub shape_of-table : goal.shape_of-table
shape_of-table c = c.loop-i.invariant.same

pub returns : goal.returns
returns c =
    let a = c.args in
    let l = c.loop-i in
    putting_all a.table.now a.at a.size a.number l.table l.n l.i l.invariant (omega arith)
