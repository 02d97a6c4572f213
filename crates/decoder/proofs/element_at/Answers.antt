-- `decoder::element_at` meets its contract.
use mathlib.Core.Path.{subst}
use Rattle.encoding.specs.Table as Table
use Rattle.encoding.specs.Table.{elements_at}
use Rattle.decoder.specs.Reading.{ElementDecoded}
use Rattle.decoder.proofs.element_at.Goals as goal

pub returns : goal.returns
unfolding elements_at
returns c =
    let read = c.cell_at.ensures.same in
    subst (λ (x : Table.Cell). ElementDecoded c.args.t.now x c.element_of.result) read
    (c.element_of.ensures c.args.t.now)
