-- `statement_parser::steps::input_form` reads a string and a branch field.
use Rattle.std.proofs.Common.{Some, None}
use Rattle.encoding.specs.declared.cells.Row.{Row}
use Rattle.base.specs.Text.{bytes}
use Rattle.encoding.specs.Kinds.{read_kind}
use Rattle.numeric_parser.specs.OperandLaws.{ready_at}
use Rattle.statement_parser.specs.PartLaws.{part_stage}
use Rattle.statement_parser.specs.Rows.{begun_row, draft_left, draft_steps}
use Rattle.statement_parser.specs.StageLaws.{form_ends, unread}
use Rattle.statement_parser.specs.StepLaws.{input_read}
use Rattle.statement_parser.proofs.steps.input_form.Goals as goal

abbrev begun : Row
begun = begun_row read_kind.number 0

pub read_part-requires-clause-reader_ready : goal.read_part-requires-clause-reader_ready
read_part-requires-clause-reader_ready c =
    ready_at c.behind_unit-d.ensures.skips c.requires c.behind_unit-d.ensures.inside

pub returns-in_err-left : goal.returns-in_err-left
unfolding bytes
returns-in_err-left c =
    let a = c.args in
    let u = c.behind_unit-d.ensures in
    λ table.
    form_ends c.from_residual.ensures
    (input_read a.known.now table u.size u.skips (ready_at u.skips c.requires u.inside) u.is None None
    (part_stage a.known.now begun None None c.in_err-left.ensures) (λ _. unread))

pub returns-in_err-branch : goal.returns-in_err-branch
unfolding bytes
returns-in_err-branch c =
    let a = c.args in
    let u = c.behind_unit-d.ensures in
    let l = c.in_ok-left in
    let row = draft_left begun l.left in
    λ table.
    form_ends c.from_residual-in_err-branch.ensures
    (input_read a.known.now table u.size u.skips (ready_at u.skips c.requires u.inside) u.is (Some (row, l.e)) None
    (part_stage a.known.now begun None (Some (l.left, l.e)) l.ensures) (c.in_err-branch.ensures row))

pub returns : goal.returns
unfolding bytes
returns c =
    let a = c.args in
    let u = c.behind_unit-d.ensures in
    let l = c.in_ok-left in
    let b = c.in_ok-branch in
    let row = draft_left begun l.left in
    λ table.
    form_ends c.ended.ensures
    (input_read a.known.now table u.size u.skips (ready_at u.skips c.requires u.inside) u.is (Some (row, l.e))
    (Some (draft_steps row b.branch.success b.branch.failure, b.f)) (part_stage a.known.now begun None (Some (l.left, l.e)) l.ensures) (b.ensures row))
