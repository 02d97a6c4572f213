-- `register_lines::ending_on` meets its contract.
use Rattle.std.proofs.Common.{sym, ◌∙◌}
use Rattle.register_lines.specs.FieldLaws.{ended_comma, ended_here, ended_other}
use Rattle.register_lines.proofs.ending_on.Goals as goal

pub returns-then-is_empty : goal.returns-then-is_empty
returns-then-is_empty c = ended_here c.args.rest.now (sym c.is_empty.ensures ∙ c.if-is_empty.true)

pub returns-in_err-currency : goal.returns-in_err-currency
returns-in_err-currency c =
    rw c.from_residual.ensures (ended_other c.args.rest.now (sym c.is_empty.ensures ∙ c.if-is_empty.false) c.in_err-currency.ensures)

pub returns : goal.returns
returns c =
    let k = c.in_ok-currency in
    rw c.then_some.ensures
    (ended_comma c.args.rest.now (sym c.is_empty.ensures ∙ c.if-is_empty.false) k.currency.now k.ensures c.is_currency.result c.is_currency.ensures)
