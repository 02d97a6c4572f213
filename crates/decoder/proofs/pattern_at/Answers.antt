-- `decoder::pattern_at` meets its contract.
use mathlib.Core.Path.{subst}
use Rattle.encoding.specs.Table as Table
use Rattle.encoding.specs.Table.{elements_at}
use Rattle.decoder.specs.Reading.{PatternRead}
use Rattle.decoder.proofs.pattern_at.Goals as goal

pub returns : goal.returns
unfolding elements_at
returns c =
    let read = c.cell_at.ensures.same in
    subst (λ (x : Table.Cell). PatternRead c.args.t.now x c.pattern_of.result) read
    (c.pattern_of.ensures c.args.t.now)
