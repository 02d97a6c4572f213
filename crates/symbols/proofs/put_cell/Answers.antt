-- `symbols::put_cell` writes a cell in its parts.
use mathlib.Core.Path.{◌∙◌}
use lib.ListN.{length-set}
use Rattle.symbols.proofs.Putting.{cell-put}
use native.Mathlib.Omega.{arith}
use Rattle.symbols.proofs.put_cell.Goals as goal

pub bounds-table-at-2 : goal.bounds-table-at-2
bounds-table-at-2 c = simp length-set (omega arith)

pub put_number-requires : goal.put_number-requires
put_number-requires c = simp length-set (omega arith)

pub shape_of-table : goal.shape_of-table
shape_of-table c = c.put_number.auto.table ∙ simp length-set

pub returns : goal.returns
returns c =
    let a = c.args in
    c.put_number.ensures ∙ cell-put a.table.now a.at a.cell.kind a.cell.place a.cell.value (omega arith)
