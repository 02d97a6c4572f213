-- `decoder::item_at` meets its contract.
use mathlib.Core.Path.{◌∙◌, ap}
use Rattle.encoding.specs.Table.{items_at}
use Rattle.encoding.specs.TableReading.{item_of_cell}
use Rattle.decoder.proofs.item_at.Goals as goal

pub returns : goal.returns
unfolding items_at
returns c = c.item_of.ensures ∙ ap item_of_cell c.cell_at.ensures.same
