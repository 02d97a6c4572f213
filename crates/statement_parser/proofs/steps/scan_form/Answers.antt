-- `statement_parser::steps::scan_form` reads a reference, a pattern, a replacement and a branch field.
use Rattle.std.proofs.Common.{Option, Some, None, refl, ap, arith}
use Rattle.symbols.specs.declared.Cursor.{Cursor}
use Rattle.symbols.specs.declared.tags.Role.TheVariants.{Reference}
use Rattle.branch_parser.specs.Tests.{rowed_at}
use Rattle.encoding.specs.Kinds.{scan_kind}
use Rattle.encoding.specs.Meaning.{direction_meaning}
use Rattle.numeric_parser.specs.OperandLaws.{text_here, mark_passed, mark_ready}
use Rattle.statement_parser.specs.PartLaws.{part_stage}
use Rattle.statement_parser.specs.Rows.{begun_row, begun_as, draft_left, draft_right, draft_steps}
use Rattle.statement_parser.specs.StageLaws.{form_ends, from_draft, unread}
use Rattle.statement_parser.specs.StepLaws.{scan-read}
use Rattle.statement_parser.proofs.steps.scan_form.Goals as goal

pub returns-in_err-left : goal.returns-in_err-left
returns-in_err-left c =
    let a = c.args in
    let begun = begun_row scan_kind.number c.number-flag.result in
    form_ends c.from_residual.ensures
    (scan-read a.known.now (direction_meaning a.direction) c.requires.reader_ready None None None None None None {t₃ = a.table.now} {m₃ = a.mentioned.now}
    {m₅ = a.mentioned.now}
    (λ t.
    from_draft (ap (λ n. begun_as scan_kind.number n a.c) c.number-flag.ensures) (part_stage a.known.now begun (Some Reference) None c.in_err-left.ensures t)) refl
    unread refl unread (λ _. unread))

pub returns-in_err-open : goal.returns-in_err-open
returns-in_err-open c =
    let a = c.args in
    let l = c.in_ok-left in
    let begun = begun_row scan_kind.number c.number-flag.result in
    let row = draft_left begun l.left in
    form_ends c.from_residual-in_err-open.ensures
    (scan-read a.known.now (direction_meaning a.direction) c.requires.reader_ready (Some (row, l.d)) None None None None None {t₃ = a.table.now} {m₃ = a.mentioned.now} {m₅ = a.mentioned.now}
    (λ t.
    from_draft (ap (λ n. begun_as scan_kind.number n a.c) c.number-flag.ensures) (part_stage a.known.now begun (Some Reference) (Some (l.left, l.d)) l.ensures t))
    (ap (λ (d : Option Cursor). rowed_at row d) c.in_err-open.ensures) unread refl unread (λ _. unread))

pub stretch-requires-clause-reader_ready : goal.stretch-requires-clause-reader_ready
stretch-requires-clause-reader_ready c =
    mark_ready c.args.text.now 91 c.in_ok-left.d c.in_ok-left.ensures.answer.ready c.in_ok-open.ensures

pub returns-in_err-right : goal.returns-in_err-right
returns-in_err-right c =
    let a = c.args in
    let l = c.in_ok-left in
    let begun = begun_row scan_kind.number c.number-flag.result in
    let row = draft_left begun l.left in
    form_ends c.from_residual-in_err-right.ensures
    (scan-read a.known.now (direction_meaning a.direction) c.requires.reader_ready (Some (row, l.d)) (Some (row, c.in_ok-open.open)) None None None None
    {m₅ = a.mentioned.now}
    (λ t.
    from_draft (ap (λ n. begun_as scan_kind.number n a.c) c.number-flag.ensures) (part_stage a.known.now begun (Some Reference) (Some (l.left, l.d)) l.ensures t))
    (ap (λ (d : Option Cursor). rowed_at row d) c.in_ok-open.ensures) (c.in_err-right.ensures row) refl unread (λ _. unread))

pub marked-requires-2 : goal.marked-requires-2
marked-requires-2 c = text_here (c.in_ok-right.ensures (draft_left (begun_row scan_kind.number c.number-flag.result) c.in_ok-left.left)).stands

pub returns-in_err-close : goal.returns-in_err-close
returns-in_err-close c =
    let a = c.args in
    let l = c.in_ok-left in
    let r = c.in_ok-right in
    let begun = begun_row scan_kind.number c.number-flag.result in
    let row = draft_left begun l.left in
    let scan = draft_right row row.kind r.right in
    form_ends c.from_residual-in_err-close.ensures
    (scan-read a.known.now (direction_meaning a.direction) c.requires.reader_ready (Some (row, l.d)) (Some (row, c.in_ok-open.open)) (Some (scan, r.e)) None None None
    {m₅ = a.mentioned.now}
    (λ t.
    from_draft (ap (λ n. begun_as scan_kind.number n a.c) c.number-flag.ensures) (part_stage a.known.now begun (Some Reference) (Some (l.left, l.d)) l.ensures t))
    (ap (λ (d : Option Cursor). rowed_at row d) c.in_ok-open.ensures) (r.ensures row)
    (ap (λ (d : Option Cursor). rowed_at scan d) c.in_err-close.ensures) unread (λ _. unread))

pub replaced-requires-clause-following : goal.replaced-requires-clause-following
replaced-requires-clause-following c =
    let text = c.args.text.now in
    let l = c.in_ok-left in
    let r = c.in_ok-right.ensures (draft_left (begun_row scan_kind.number c.number-flag.result) l.left) in
    let open' = ap (λ (z : Cursor). z.elements) (mark_passed text 91 l.d c.in_ok-open.ensures).1 in
    let close = ap (λ (z : Cursor). z.elements) (mark_passed text 93 c.in_ok-right.e c.in_ok-close.ensures).1 in (
      mark_ready text 93 c.in_ok-right.e r.stands c.in_ok-close.ensures,
      omega (arith, l.ensures.answer.goes.elements, open', r.answer.gets.goes.elements, close),
    )

pub returns-in_err-row : goal.returns-in_err-row
returns-in_err-row c =
    let a = c.args in
    let l = c.in_ok-left in
    let r = c.in_ok-right in
    let begun = begun_row scan_kind.number c.number-flag.result in
    let row = draft_left begun l.left in
    let scan = draft_right row row.kind r.right in
    form_ends c.from_residual-in_err-row.ensures
    (scan-read a.known.now (direction_meaning a.direction) c.requires.reader_ready (Some (row, l.d)) (Some (row, c.in_ok-open.open)) (Some (scan, r.e))
    (Some (scan, c.in_ok-close.close)) None None
    (λ t.
    from_draft (ap (λ n. begun_as scan_kind.number n a.c) c.number-flag.ensures) (part_stage a.known.now begun (Some Reference) (Some (l.left, l.d)) l.ensures t))
    (ap (λ (d : Option Cursor). rowed_at row d) c.in_ok-open.ensures) (r.ensures row)
    (ap (λ (d : Option Cursor). rowed_at scan d) c.in_ok-close.ensures) c.in_err-row.ensures (λ _. unread))

pub returns-in_err-branch : goal.returns-in_err-branch
returns-in_err-branch c =
    let a = c.args in
    let l = c.in_ok-left in
    let r = c.in_ok-right in
    let p = c.in_ok-row in
    let begun = begun_row scan_kind.number c.number-flag.result in
    let row = draft_left begun l.left in
    let scan = draft_right row row.kind r.right in
    form_ends c.from_residual-in_err-branch.ensures
    (scan-read a.known.now (direction_meaning a.direction) c.requires.reader_ready (Some (row, l.d)) (Some (row, c.in_ok-open.open)) (Some (scan, r.e))
    (Some (scan, c.in_ok-close.close)) (Some (p.row, p.f)) None
    (λ t.
    from_draft (ap (λ n. begun_as scan_kind.number n a.c) c.number-flag.ensures) (part_stage a.known.now begun (Some Reference) (Some (l.left, l.d)) l.ensures t))
    (ap (λ (d : Option Cursor). rowed_at row d) c.in_ok-open.ensures) (r.ensures row)
    (ap (λ (d : Option Cursor). rowed_at scan d) c.in_ok-close.ensures) p.ensures (c.in_err-branch.ensures p.row))

pub returns : goal.returns
returns c =
    let a = c.args in
    let l = c.in_ok-left in
    let r = c.in_ok-right in
    let p = c.in_ok-row in
    let b = c.in_ok-branch in
    let begun = begun_row scan_kind.number c.number-flag.result in
    let row = draft_left begun l.left in
    let scan = draft_right row row.kind r.right in
    form_ends c.ended.ensures
    (scan-read a.known.now (direction_meaning a.direction) c.requires.reader_ready (Some (row, l.d)) (Some (row, c.in_ok-open.open)) (Some (scan, r.e))
    (Some (scan, c.in_ok-close.close)) (Some (p.row, p.f)) (Some (draft_steps p.row b.branch.success b.branch.failure, b.g))
    (λ t.
    from_draft (ap (λ n. begun_as scan_kind.number n a.c) c.number-flag.ensures) (part_stage a.known.now begun (Some Reference) (Some (l.left, l.d)) l.ensures t))
    (ap (λ (d : Option Cursor). rowed_at row d) c.in_ok-open.ensures) (r.ensures row)
    (ap (λ (d : Option Cursor). rowed_at scan d) c.in_ok-close.ensures) p.ensures (b.ensures p.row))
