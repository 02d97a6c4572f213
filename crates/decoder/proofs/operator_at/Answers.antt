-- `decoder::operator_at` meets its contract.
use Rattle.encoding.specs.Table.{items_at}
use Rattle.encoding.specs.TableReading.{cell_at}
use Rattle.decoder.proofs.operator_at.Goals as goal

pub returns : goal.returns
unfolding items_at cell_at
returns c = c.operator_of.ensures
