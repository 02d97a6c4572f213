-- `statement_parser::steps::assigned` reads a numeric expression.
use Rattle.std.proofs.Common.{refl, ltb, length, drop}
use Rattle.statement_parser.specs.BehindLaws.{assigned_broken, assigned_case}
use Rattle.statement_parser.specs.StageLaws.{form_lost, form_ends}
use Rattle.statement_parser.proofs.steps.assigned.Goals as goal

pub returns-in_err-d : goal.returns-in_err-d
returns-in_err-d c =
    let a = c.args in
    form_lost c.from_residual.ensures (assigned_broken a.known.now a.place (drop a.c.at a.text.now) c.in_err-d.ensures.answer)

pub returns : goal.returns
returns c =
    let a = c.args in
    form_ends c.ended.ensures
    (assigned_case a.known.now a.place c.in_ok-d.ensures.answer c.range_cell-right.result c.range_cell-right.ensures
    (ltb c.in_ok-d.d.at (length a.text.now)) refl)
