-- The code's cells, branch fields, directions and rows as the table's and the program's. Assumes nothing.
use Rattle.syntax.specs.Program as Program
use Rattle.encoding.specs.Table as Table
use Rattle.encoding.specs.declared.cells.Branch.{Branch}
use Rattle.encoding.specs.declared.cells.Cell.{Cell}
use Rattle.encoding.specs.declared.cells.Direction.{Direction}
use Rattle.encoding.specs.declared.cells.Direction.TheVariants.{Forward, Backward}
use Rattle.encoding.specs.declared.cells.Row.{Row}

abbrev pub cell_meaning : Cell → Table.Cell
cell_meaning c = record { kind = c.kind; place = c.place; value = c.value }

abbrev pub branch_meaning : Branch → Program.Branch
branch_meaning b = record { success = b.success; failure = b.failure }

abbrev pub direction_meaning : Direction → Program.Direction
direction_meaning Forward = Program.forward
direction_meaning Backward = Program.backward

abbrev pub row_meaning : Row → Table.Row
row_meaning r =
    record {
      kind = r.kind;
      flag = r.flag;
      success = r.branch.success;
      failure = r.branch.failure;
      left = cell_meaning r.left;
      right = cell_meaning r.right;
    }
