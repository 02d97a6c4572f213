-- `statement_parser::steps::output_form` reads a string expression.
use Rattle.std.proofs.Common.{Some, None}
use Rattle.encoding.specs.declared.cells.Row.{Row}
use Rattle.base.specs.Text.{bytes}
use Rattle.encoding.specs.Kinds.{write_kind}
use Rattle.numeric_parser.specs.OperandLaws.{ready_at}
use Rattle.statement_parser.specs.Rows.{begun_row, draft_right}
use Rattle.statement_parser.specs.StageLaws.{form_ends}
use Rattle.statement_parser.specs.StepLaws.{output_read}
use Rattle.statement_parser.proofs.steps.output_form.Goals as goal

abbrev begun : Row
begun = begun_row write_kind.number 0

pub stretch-requires-clause-reader_ready : goal.stretch-requires-clause-reader_ready
stretch-requires-clause-reader_ready c =
    ready_at c.behind_unit-d.ensures.skips c.requires.reader_ready c.behind_unit-d.ensures.inside

pub returns-in_err-right : goal.returns-in_err-right
unfolding bytes
returns-in_err-right c =
    let u = c.behind_unit-d.ensures in
    form_ends c.from_residual.ensures
    (output_read c.args.known.now u.size u.skips (ready_at u.skips c.requires.reader_ready u.inside) u.is None
    (c.in_err-right.ensures begun))

pub returns : goal.returns
unfolding bytes
returns c =
    let u = c.behind_unit-d.ensures in
    let r = c.in_ok-right in
    form_ends c.ended.ensures
    (output_read c.args.known.now u.size u.skips (ready_at u.skips c.requires.reader_ready u.inside) u.is
    (Some (draft_right begun write_kind.number r.right, r.e)) (r.ensures begun))
