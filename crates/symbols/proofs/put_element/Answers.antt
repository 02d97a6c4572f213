-- `symbols::put_element` writes a cell into the region of elements.
use Rattle.encoding.specs.Table.{elements_at}
use Rattle.symbols.specs.Elements.{with_element}
use Rattle.symbols.proofs.put_element.Goals as goal

pub returns : goal.returns
unfolding with_element elements_at
returns c = c.put_in.ensures
