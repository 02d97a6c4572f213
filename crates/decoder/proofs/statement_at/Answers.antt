-- `decoder::statement_at` meets its contract.
use mathlib.Core.Path.{subst}
use Rattle.encoding.specs.Table as Table
use Rattle.encoding.specs.Table.{steps_at}
use Rattle.decoder.specs.Reading.{StatementDecoded}
use Rattle.decoder.proofs.statement_at.Goals as goal

pub returns : goal.returns
unfolding steps_at
returns c =
    let read = c.row_at.ensures.same in
    subst (λ (x : Table.Row). StatementDecoded c.args.t.now x c.statement_of.result) read
    (c.statement_of.ensures c.args.t.now)
