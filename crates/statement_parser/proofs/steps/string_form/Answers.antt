-- `statement_parser::steps::string_form` reads a string, `=` and a string expression.
use Rattle.std.proofs.Common.{Option, Some, None, refl, ap}
use Rattle.symbols.specs.declared.Cursor.{Cursor}
use Rattle.branch_parser.specs.Tests.{rowed_at}
use Rattle.encoding.specs.declared.cells.Row.{Row}
use Rattle.encoding.specs.Kinds.{set_string_kind}
use Rattle.numeric_parser.specs.OperandLaws.{mark_ready}
use Rattle.statement_parser.specs.PartLaws.{part_stage}
use Rattle.statement_parser.specs.Rows.{begun_row, draft_left, draft_right}
use Rattle.statement_parser.specs.StageLaws.{form_ends, unread}
use Rattle.statement_parser.specs.StepLaws.{string-read}
use Rattle.statement_parser.proofs.steps.string_form.Goals as goal

abbrev begun : Row
begun = begun_row set_string_kind.number 0

pub returns-in_err-left : goal.returns-in_err-left
returns-in_err-left c =
    let a = c.args in
    form_ends c.from_residual.ensures
    (string-read a.known.now c.requires.reader_ready None None None (part_stage a.known.now begun None None c.in_err-left.ensures) refl unread)

pub returns-in_err-sets : goal.returns-in_err-sets
returns-in_err-sets c =
    let a = c.args in
    let l = c.in_ok-left in
    let row = draft_left begun l.left in
    form_ends c.from_residual-in_err-sets.ensures
    (string-read a.known.now c.requires.reader_ready (Some (row, l.d)) None None (part_stage a.known.now begun None (Some (l.left, l.d)) l.ensures)
    (ap (λ (d : Option Cursor). rowed_at row d) c.in_err-sets.ensures) unread)

pub stretch-requires-clause-reader_ready : goal.stretch-requires-clause-reader_ready
stretch-requires-clause-reader_ready c =
    mark_ready c.args.text.now 61 c.in_ok-left.d c.in_ok-left.ensures.answer.ready c.in_ok-sets.ensures

pub returns-in_err-right : goal.returns-in_err-right
returns-in_err-right c =
    let a = c.args in
    let l = c.in_ok-left in
    let row = draft_left begun l.left in
    form_ends c.from_residual-in_err-right.ensures
    (string-read a.known.now c.requires.reader_ready (Some (row, l.d)) (Some (row, c.in_ok-sets.sets)) None
    (part_stage a.known.now begun None (Some (l.left, l.d)) l.ensures) (ap (λ (d : Option Cursor). rowed_at row d) c.in_ok-sets.ensures)
    (c.in_err-right.ensures row))

pub returns : goal.returns
returns c =
    let a = c.args in
    let l = c.in_ok-left in
    let r = c.in_ok-right in
    let row = draft_left begun l.left in
    form_ends c.ended.ensures
    (string-read a.known.now c.requires.reader_ready (Some (row, l.d)) (Some (row, c.in_ok-sets.sets))
    (Some (draft_right row row.kind r.right, r.e)) (part_stage a.known.now begun None (Some (l.left, l.d)) l.ensures)
    (ap (λ (d : Option Cursor). rowed_at row d) c.in_ok-sets.ensures) (r.ensures row))
