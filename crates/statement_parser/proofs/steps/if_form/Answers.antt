-- `statement_parser::steps::if_form` reads a test and a branch field.
use Rattle.std.proofs.Common.{Option, Some, None, refl, ap}
use Rattle.symbols.specs.declared.Cursor.{Cursor}
use Rattle.branch_parser.specs.Tests.{rowed_at}
use Rattle.encoding.specs.declared.cells.Row.{Row}
use Rattle.encoding.specs.Kinds.{null_kind}
use Rattle.numeric_parser.specs.OperandLaws.{mark_ready}
use Rattle.statement_parser.specs.PartLaws.{test_stage, branch_stage}
use Rattle.statement_parser.specs.Rows.{begun_row, draft_steps}
use Rattle.statement_parser.specs.StageLaws.{form_ends, unread}
use Rattle.statement_parser.specs.StepLaws.{if_read}
use Rattle.statement_parser.proofs.steps.if_form.Goals as goal

-- the row before the test
abbrev begun : Row
begun = begun_row null_kind.number 0

pub returns-in_err-open : goal.returns-in_err-open
returns-in_err-open c =
    let a = c.args in
    λ table.
    form_ends c.from_residual.ensures
    (if_read a.known.now table c.requires None None None None {m₁ = a.mentioned.now}
    (ap (λ (d : Option Cursor). rowed_at begun d) c.in_err-open.ensures) (λ _. unread) refl (λ _. unread))

pub read_test-requires : goal.read_test-requires
read_test-requires c = mark_ready c.args.text.now 40 c.args.c c.requires c.in_ok-open.ensures

pub returns-in_err-test : goal.returns-in_err-test
returns-in_err-test c =
    let a = c.args in
    λ table.
    form_ends c.from_residual-in_err-test.ensures
    (if_read a.known.now table c.requires (Some (begun, c.in_ok-open.open)) None None None
    (ap (λ (d : Option Cursor). rowed_at begun d) c.in_ok-open.ensures) (test_stage a.known.now begun None c.in_err-test.ensures) refl
    (λ _. unread))

pub returns-in_err-close : goal.returns-in_err-close
returns-in_err-close c =
    let a = c.args in
    let t = c.in_ok-test in
    λ table.
    form_ends c.from_residual-in_err-close.ensures
    (if_read a.known.now table c.requires (Some (begun, c.in_ok-open.open)) (Some (t.test, t.d)) None None
    (ap (λ (d : Option Cursor). rowed_at begun d) c.in_ok-open.ensures) (test_stage a.known.now begun (Some (t.test, t.d)) t.ensures)
    (ap (λ (d : Option Cursor). rowed_at t.test d) c.in_err-close.ensures) (λ _. unread))

pub read_branch-requires : goal.read_branch-requires
read_branch-requires c =
    mark_ready c.args.text.now 41 c.in_ok-test.d c.in_ok-test.ensures.answer.ready c.in_ok-close.ensures

pub returns-in_err-branch : goal.returns-in_err-branch
returns-in_err-branch c =
    let a = c.args in
    let t = c.in_ok-test in
    λ table.
    form_ends c.from_residual-in_err-branch.ensures
    (if_read a.known.now table c.requires (Some (begun, c.in_ok-open.open)) (Some (t.test, t.d)) (Some (t.test, c.in_ok-close.close)) None
    (ap (λ (d : Option Cursor). rowed_at begun d) c.in_ok-open.ensures) (test_stage a.known.now begun (Some (t.test, t.d)) t.ensures)
    (ap (λ (d : Option Cursor). rowed_at t.test d) c.in_ok-close.ensures) (branch_stage a.known.now t.test None c.in_err-branch.ensures))

pub returns : goal.returns
returns c =
    let a = c.args in
    let t = c.in_ok-test in
    let b = c.in_ok-branch in
    λ table.
    form_ends c.ended.ensures
    (if_read a.known.now table c.requires (Some (begun, c.in_ok-open.open)) (Some (t.test, t.d)) (Some (t.test, c.in_ok-close.close))
    (Some (draft_steps t.test b.branch.success b.branch.failure, b.e))
    (ap (λ (d : Option Cursor). rowed_at begun d) c.in_ok-open.ensures) (test_stage a.known.now begun (Some (t.test, t.d)) t.ensures)
    (ap (λ (d : Option Cursor). rowed_at t.test d) c.in_ok-close.ensures) (branch_stage a.known.now t.test (Some (b.branch, b.e)) b.ensures))
