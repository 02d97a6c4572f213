-- `deck_reader::table::put_cells`: one cell behind the other.
use mathlib.Core.List.{List}
use mathlib.Core.Path.{ap, ◌∙◌}
use Prim.Native.Nat.{ℕ, ◌+◌}
use Rattle.encoding.specs.Splices.{splice}
use Rattle.encoding.specs.Table.{cell_bytes}
use Rattle.encoding.specs.Meaning.{cell_meaning}
use Rattle.deck_reader.proofs.table.put_cells.Goals as goal

pub returns : goal.returns
returns c =
    let p = c.args in
    c.put_cell-2.ensures
    ∙ ap (λ (t : List ℕ). splice t (p.at + 8) (cell_bytes (cell_meaning p.right))) c.put_cell.ensures
