-- `statement_parser::steps::number_form` reads a number, `=` and an expression.
use Rattle.std.proofs.Common.{drop}
use Rattle.numeric_parser.specs.OperandLaws.{mark_passed, mark_none, mark_ready}
use Rattle.statement_parser.specs.BehindLaws.{number_broken, number_open, number_then}
use Rattle.statement_parser.specs.StageLaws.{form_lost}
use Rattle.statement_parser.proofs.steps.number_form.Goals as goal

pub returns-in_err-place : goal.returns-in_err-place
returns-in_err-place c =
    let a = c.args in
    form_lost c.from_residual.ensures (number_broken a.known.now (drop a.c.at a.text.now) c.in_err-place.ensures.answer)

pub returns-in_err-e : goal.returns-in_err-e
returns-in_err-e c =
    let a = c.args in
    let p = c.in_ok-place in
    form_lost c.from_residual-in_err-e.ensures
    (number_open a.known.now p.ensures.answer (mark_none a.text.now 61 p.d c.in_err-e.ensures))

pub assigned-requires-clause-reader_ready : goal.assigned-requires-clause-reader_ready
assigned-requires-clause-reader_ready c =
    mark_ready c.args.text.now 61 c.in_ok-place.d c.in_ok-place.ensures.answer.ready c.in_ok-e.ensures

pub returns : goal.returns
returns c =
    let a = c.args in
    let p = c.in_ok-place in
    let m = mark_passed a.text.now 61 p.d c.in_ok-e.ensures in
    number_then a.known.now p.ensures.answer a.table.now m.0 c.assigned.result m.1 c.assigned.ensures
