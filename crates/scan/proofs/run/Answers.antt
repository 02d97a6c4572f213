-- `scan::run` scans group by group. The invariant: what is left of the slide, behind what is settled, is the whole scan's outcome.
use Rattle.scan.proofs.Running.{run-begins, run_skips, run_over, run_on, run-done, run_last, run-next, run_less}
use Rattle.scan.specs.Steps.{WholeGroup, FailedGroup, tried_as, GroupSays, SkipSays}
use Rattle.scan.specs.Rows.{scan_row_at, row_element, WholeRows, RowGood}
use Rattle.base.specs.ListLaws.{stretch_end}
use Rattle.scan.proofs.Rows.{group_known}
use Rattle.scan.specs.declared.Element.{Element}
use Rattle.scan.specs.Steps.{test_of}
use Rattle.scan.specs.Rows.{scan_element}
use lib.ListN.{length, get_or, drop}
use mathlib.Core.List.{List, []}
use Rattle.std.specs.List.{concat}
use Rattle.scan.proofs.Answers.{scan-found, scan_failed}
use Rattle.scan.proofs.Chunks.{concat_row}
use mathlib.Core.Path.{◌≡◌, refl, sym, ◌∙◌, ap, subst}
use Rattle.scan.proofs.Running.{Running}
use Prim.Native.Nat.{ℕ, ◌+◌, ◌<◌}
use native.Mathlib.Omega.{arith}
use Rattle.scan.proofs.run.Goals.{After-pass_places-k, In-Err, In-Ok, then-eq-via-then-eq, then-eq-via-else-eq+then-place-reference}
use Rattle.std.proofs.Common.{inl, inr, rules}
use Rattle.scan.proofs.run.Goals as goal

-- the element read
read : (rows : List (List ℕ)) {g : ℕ} {e : Element} → e ≡ scan_row_at (get_or rows g []) 0 → WholeRows rows → g < length rows
    → e ≡ row_element (concat rows) g
read rows {g} told whole inside = told ∙ concat_row rows whole g inside

-- the run after the places passed over
skipped : (c : After-pass_places-k)
    → Running c.args.reference.now c.args.pattern.values.now
    (concat c.args.pattern.rows.now) (length c.args.pattern.rows.now)
    c.loop-failed.answer c.loop-failed.g c.loop-failed.from
    (c.loop-failed.place + c.pass_places-k.result) (c.loop-failed.trials + c.pass_places-k.result)
skipped c =
    run_skips c.loop-failed.invariant (read c.args.pattern.rows.now c.row_element-e.ensures c.args.pattern.ready.whole c.loop-failed.invariant.more) (subst (λ (l : List ℕ). SkipSays l (scan_element c.args.pattern.values.now c.row_element-e.result) c.pass_places-k.result)
    (stretch_end c.args.reference.now c.loop-failed.place _ refl) c.pass_places-k.ensures)

-- it failed
failed : (c : In-Err) → FailedGroup c.args.reference.now c.args.pattern.values.now (concat c.args.pattern.rows.now) (length c.args.pattern.rows.now) c.loop-failed.g
    (c.loop-failed.place + c.pass_places-k.result) c.in-Err.failed.trials (tried_as c.in-Err.failed.failure c.in-Err.failed.trials)
unfolding GroupSays
failed c = rw c.in-Err.is at c.test_group.ensures

-- the whole group passed
whole : (c : In-Ok)
    → WholeGroup c.args.reference.now c.args.pattern.values.now
    (concat c.args.pattern.rows.now) (length c.args.pattern.rows.now)
    c.loop-failed.g (c.loop-failed.place + c.pass_places-k.result)
    c.in-Ok.j c.in-Ok.end
unfolding GroupSays
whole c =
    let told = c.in-Ok.is in
    rw told at c.test_group.ensures

pub loop-failed-init : goal.loop-failed-init
loop-failed-init c =
    let p = c.requires in
    run-begins p.bounds.0 c.args.pattern.ready.good.few p.bounds.1 p.answer_value

pub pass_places-k-requires : goal.pass_places-k-requires
pass_places-k-requires c =
    let a = c.args in
    let s = c.loop-failed in
    subst (RowGood a.pattern.values.now) (sym (read a.pattern.rows.now c.row_element-e.ensures a.pattern.ready.whole s.invariant.more))
    (a.pattern.ready.good.good s.g s.invariant.more)

pub stands-known-requires : goal.stands-known-requires
stands-known-requires c =
    let a = c.args in
    let s = c.loop-failed in
    subst (RowGood a.pattern.values.now) (sym (read a.pattern.rows.now c.row_element-e.ensures a.pattern.ready.whole s.invariant.more))
    (a.pattern.ready.good.good s.g s.invariant.more)

pub test_group-requires : goal.test_group-requires
test_group-requires c =
    let a = c.args in
    let s = c.loop-failed in
    let k = c.pass_places-k.result in
    let p = c.requires in
    let r = skipped (goal.at.test_group-requires c).After-pass_places-k in
    record {
      group_ready = record {
        short = p.bounds.0;
        reached =
            group_known a.reference.now a.pattern.values.now (concat a.pattern.rows.now) (length a.pattern.rows.now) s.g (s.place + k) c.stands-known.result r.more r.inside
            (a.pattern.ready.good.good s.g r.more)
            (λ h.
            ap (λ (x : Element). test_of (scan_element a.pattern.values.now x) (drop (s.place + k) a.reference.now)) (sym (read a.pattern.rows.now c.row_element-e.ensures a.pattern.ready.whole r.more))
            ∙ ap (test_of (scan_element a.pattern.values.now c.row_element-e.result)) (sym (stretch_end a.reference.now (s.place + k) _ refl))
            ∙ c.stands-known.ensures h);
      };
    }

pub overflow_add-trials-in-Err : goal.overflow_add-trials-in-Err
overflow_add-trials-in-Err c =
    let r = skipped (goal.at.overflow_add-trials-in-Err c).After-pass_places-k in
    let f = failed (goal.at.overflow_add-trials-in-Err c).In-Err in
    omega (arith, r.bound, r.inside, r.short, r.more, r.most, f.few)

pub fail-requires : goal.fail-requires
fail-requires c =
    let r = skipped (goal.at.fail-requires c).After-pass_places-k in
    let f = failed (goal.at.fail-requires c).In-Err in
    omega (arith, r.bound, r.inside, r.short, r.more, r.most, f.few)

pub returns-then-eq : goal.returns-then-eq
returns-then-eq c =
    let a = c.args in
    let r = skipped (goal.at.returns-then-eq c).After-pass_places-k in
    let f = failed (goal.at.returns-then-eq c).In-Err in
    c.fail.ensures
    ∙ scan_failed a.reference.now a.pattern.values.now _ _ _
    (elim c.then-eq.branch [
      | then-eq-via-then-eq w ↦ run_over r c.in-Err.failed.failure f (inl (search (rules, w.if-eq.ensures)))
      | then-eq-via-else-eq+then-place-reference w ↦ run_over r c.in-Err.failed.failure f (inr w.if-place-reference.true)
    ])

pub loop-failed-preserved-in-Err : goal.loop-failed-preserved-in-Err
unfolding tried_as
loop-failed-preserved-in-Err c =
    let r = skipped (goal.at.loop-failed-preserved-in-Err c).After-pass_places-k in
    let f = failed (goal.at.loop-failed-preserved-in-Err c).In-Err in
    run_on r c.in-Err.failed.failure f (λ e. search (rules, c.if-eq.ensures, e)) (omega (arith, r.inside, c.if-place-reference.false))

pub overflow_sub-trials : goal.overflow_sub-trials
overflow_sub-trials c =
    let r = skipped (goal.at.overflow_sub-trials c).After-pass_places-k in
    let w = (whole (goal.at.overflow_sub-trials c).In-Ok).reached in
    omega arith

pub overflow_add-trials-in-Ok : goal.overflow_add-trials-in-Ok
overflow_add-trials-in-Ok c =
    let r = skipped (goal.at.overflow_add-trials-in-Ok c).After-pass_places-k in
    let w = (whole (goal.at.overflow_add-trials-in-Ok c).In-Ok).reached in
    omega arith

pub returns-then-j-pattern : goal.returns-then-j-pattern
returns-then-j-pattern c =
    let a = c.args in
    let r = skipped (goal.at.returns-then-j-pattern c).After-pass_places-k in
    let w = whole (goal.at.returns-then-j-pattern c).In-Ok in
    c.finish.ensures ∙ scan-found a.reference.now a.pattern.values.now _ _ _ _ (run-done r w c.if-j-pattern.true)

pub overflow_add-g : goal.overflow_add-g
overflow_add-g c =
    let r = skipped (goal.at.overflow_add-g c).After-pass_places-k in
    let w = (whole (goal.at.overflow_add-g c).In-Ok).reached in
    omega arith

pub overflow_sub-answer-then-g-pattern : goal.overflow_sub-answer-then-g-pattern
overflow_sub-answer-then-g-pattern c =
    let r = skipped (goal.at.overflow_sub-answer-then-g-pattern c).After-pass_places-k in
    let w = (whole (goal.at.overflow_sub-answer-then-g-pattern c).In-Ok).reached in
    omega arith

pub returns-then-g-pattern : goal.returns-then-g-pattern
returns-then-g-pattern c =
    let a = c.args in
    let r = skipped (goal.at.returns-then-g-pattern c).After-pass_places-k in
    let w = whole (goal.at.returns-then-g-pattern c).In-Ok in
    c.finish-then-g-pattern.ensures ∙ scan-found a.reference.now a.pattern.values.now _ _ _ _ (run_last r w c.if-g-pattern.true)

pub loop-failed-smaller : goal.loop-failed-smaller
loop-failed-smaller c =
    let a = c.args in
    let s = c.loop-failed in
    let w = (whole (goal.at.loop-failed-smaller c).In-Ok).reached in
    run_less (length a.reference.now) (length a.pattern.rows.now) s.place s.g c.in-Ok.end c.in-Ok.j (omega (arith, w.forth)) w.inside w.low
    (omega (arith, w.high, c.if-g-pattern.false, c.if-j-pattern.false))

pub loop-failed-preserved : goal.loop-failed-preserved
loop-failed-preserved c =
    let r = skipped (goal.at.loop-failed-preserved c).After-pass_places-k in
    let w = (whole (goal.at.loop-failed-preserved c).In-Ok).reached in
    run-next r (whole (goal.at.loop-failed-preserved c).In-Ok) (omega (arith, w.high, c.if-g-pattern.false, c.if-j-pattern.false))
