-- `symbols::put_in` writes a cell where the region has room for it.
use mathlib.Core.Path.{◌∙◌}
use Rattle.symbols.proofs.Putting.{cell_inside, cell-behind}
use native.Mathlib.Omega.{arith}
use Rattle.symbols.proofs.put_in.Goals as goal

pub returns-then-k-most : goal.returns-then-k-most
returns-then-k-most c =
    let a = c.args in
    c.put_cell.ensures ∙ cell_inside a.table.now a.from a.most a.k _ (omega arith)

pub returns-else-k-most : goal.returns-else-k-most
returns-else-k-most c =
    let a = c.args in
    cell-behind a.table.now a.from a.most a.k _ (omega arith)
