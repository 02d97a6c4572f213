-- `store::clear` meets its contract.
use mathlib.Core.Path.{◌∙◌}
use Rattle.encoding.specs.Buffers.{store_size}
use Rattle.store.specs.CellLaws.{zeros-front}
use Rattle.store.proofs.clear.Goals as goal

pub returns : goal.returns
returns c =
    let a = c.args in
    c.blank.ensures ∙ zeros-front a.store.now store_size
