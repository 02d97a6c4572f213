-- `scan::test_group` tests the elements of a group. The invariant: those passed took their pieces.
use Rattle.scan.proofs.Chunks.{concat_row}
use Rattle.scan.proofs.Rows.{group_piece, group_failed, filler_free, piece_size}
use Rattle.scan.specs.declared.Element.{Element}
use Rattle.scan.specs.Steps.{Test, test_of, GroupSays}
use Rattle.scan.specs.Rows.{row_element, scan_element, RowGood}
use Rattle.std.specs.List.{concat}
use lib.ListN.{length, drop, length-drop}
use mathlib.Core.Path.{◌≡◌, refl, sym, ◌∙◌, ap, subst}
use native.Mathlib.Omega.{arith}
use Rattle.base.specs.ListLaws.{stretch_end}
use Rattle.std.specs.Prelude.{Ok}
use Rattle.scan.proofs.test_group.Goals.{After-test_element}
use Rattle.scan.proofs.test_group.Goals as goal

-- the test of the element read
test-told : (c : After-test_element) {t : Test} → c.test_element.result ≡ t
    → test_of (scan_element c.args.pattern.values.now (row_element (concat c.args.pattern.rows.now) c.loop-i.i))
    (drop c.loop-i.at c.args.reference.now) ≡ t
test-told c told =
    let a = c.args in
    let at = c.loop-i.at in
    ap (λ (x : Element). test_of (scan_element a.pattern.values.now x) (drop at a.reference.now)) (sym (c.row_element.ensures ∙ concat_row a.pattern.rows.now a.pattern.ready.whole c.loop-i.i c.loop-i-test.true))
    ∙ ap (test_of (scan_element a.pattern.values.now c.row_element.result)) (sym (stretch_end a.reference.now at _ refl))
    ∙ sym c.test_element.ensures
    ∙ told

pub test_element-requires : goal.test_element-requires
test_element-requires c =
    let p = c.args.pattern in
    subst (RowGood p.values.now) (sym (c.row_element.ensures ∙ concat_row p.rows.now p.ready.whole c.loop-i.i c.loop-i-test.true)) (p.ready.good.good c.loop-i.i c.loop-i-test.true)

pub loop-i-preserved : goal.loop-i-preserved
loop-i-preserved c =
    let s = c.loop-i in
    let h = test-told (goal.at.loop-i-preserved c).After-test_element (c.in-Ok-Some.is ∙ ap Ok c.in-Ok-Some.field-0-is) in
    group_piece s.invariant c.loop-i-test.true (c.args.pattern.ready.good.good s.i c.loop-i-test.true) h

pub overflow_add-at-in-Ok-Some : goal.overflow_add-at-in-Ok-Some
overflow_add-at-in-Ok-Some c =
    let a = c.args in
    let s = c.loop-i in
    let h = test-told (goal.at.overflow_add-at-in-Ok-Some c).After-test_element (c.in-Ok-Some.is ∙ ap Ok c.in-Ok-Some.field-0-is) in
    let size = piece_size a.pattern.values.now (drop s.at a.reference.now) _ _ (a.pattern.ready.good.good s.i c.loop-i-test.true) h in
    omega (arith, size.1, length-drop s.at a.reference.now, s.invariant.inside, c.requires.group_ready.short)

pub returns-in-Ok-None : goal.returns-in-Ok-None
unfolding GroupSays
returns-in-Ok-None c =
    let a = c.args in
    let s = c.loop-i in
    let h = test-told (goal.at.returns-in-Ok-None c).After-test_element (c.in-Ok-None.is ∙ ap Ok c.in-Ok-None.field-0-is) in
    record { reached = s.invariant; filler = λ more. filler_free a.pattern.values.now (drop s.at a.reference.now) _ h }

pub returns-in-Err : goal.returns-in-Err
unfolding GroupSays
returns-in-Err c =
    let s = c.loop-i in
    let h = test-told (goal.at.returns-in-Err c).After-test_element c.in-Err.is in
    record {
      few = omega (arith, c.args.pattern.ready.good.few);
      same = group_failed s.invariant c.loop-i-test.true c.in-Err.failure h;
    }

pub returns : goal.returns
unfolding GroupSays
returns c =
    let a = c.args in
    let s = c.loop-i in
    let end : s.i ≡ length a.pattern.rows.now = omega (arith, c.loop-i-test.false, s.invariant.high) in
    let reached = rw end at s.invariant in
    record { reached = reached; filler = λ more. absurd (omega (arith, more)) }
