-- `decoder::is_operand_at` meets its contract.
use Rattle.std.proofs.Common.{rules, tests}
use Rattle.encoding.specs.Table.{items_at}
use Rattle.encoding.specs.TableReading.{cell_at}
use Rattle.decoder.proofs.is_operand_at.Goals as goal

pub returns : goal.returns
unfolding items_at cell_at
returns c = search (rules, tests)
