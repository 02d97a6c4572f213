-- `symbols::put_item` writes a cell into the region of items.
use Rattle.encoding.specs.Table.{items_at}
use Rattle.symbols.specs.Items.{with_item}
use Rattle.symbols.proofs.put_item.Goals as goal

pub returns : goal.returns
unfolding with_item items_at
returns c = c.put_in.ensures
