-- `decoder::operand_at` meets its contract.
use mathlib.Core.Path.{◌∙◌, ap}
use Rattle.encoding.specs.Table.{items_at}
use Rattle.encoding.specs.TableReading.{operand_of_cell}
use Rattle.decoder.proofs.operand_at.Goals as goal

pub returns : goal.returns
unfolding items_at
returns c = c.operand_of.ensures ∙ ap operand_of_cell c.cell_at.ensures.same
