-- `verifier::steps::step_end` meets its contract.
use mathlib.Core.Bool.{cond, ◌&&◌}
use mathlib.Core.Path.{◌≡◌, sym, ◌∙◌}
use Rattle.std.specs.Prelude.{None}
use Rattle.encoding.specs.Table.{steps_at}
use Rattle.verifier.specs.Asked.{right_meaning, row_rule_asks}
use Rattle.verifier.specs.Conjunctions.{three}
use Rattle.verifier.specs.Tests.{cells_end, places_behind_step}
use Rattle.verifier.specs.Turns.{step_other, step_told, stretches_inside}
use Rattle.verifier.proofs.steps.step_end.Goals.{After-stretches_hold}
use Rattle.verifier.proofs.steps.step_end.Goals as goal

pub returns-in_err-rule-clause-is : goal.returns-in_err-rule-clause-is
unfolding steps_at
returns-in_err-rule-clause-is c =
    let a = c.args in
    c.from_residual.ensures ∙ step_other a.n a.t.now a.k a.p c.row_at-r.ensures.same c.in_err-rule.ensures

-- the places behind the step, by the tests of its row
told : (c : After-stretches_hold)
    → (let a = c.args in
    places_behind_step a.n a.t.now a.k a.p
    ≡ cond ((c.row_holds.result && c.start_holds.result) && c.stretches_hold.result)
    (cells_end a.n a.t.now a.p (right_meaning c.in_ok-rule.rule.right) c.row_at-r.result.left.place c.stretches_of-s.result) None)
unfolding steps_at row_rule_asks
told c =
    let a = c.args in
    step_told a.n a.t.now a.k a.p c.row_at-r.ensures.same (row_rule_asks c.in_ok-rule.rule) c.in_ok-rule.ensures c.stretches_of-s.ensures.0
    c.row_holds.ensures c.start_holds.ensures c.stretches_hold.ensures

pub cells_end-requires : goal.cells_end-requires
cells_end-requires c =
    let stretches = c.stretches_hold in
    let start = c.start_holds in
    let tests = three c.row_holds.result start.result stretches.result c.if-row_holds-start_holds.true in
    let inside =
    stretches_inside c.args.n c.args.p (right_meaning c.in_ok-rule.rule.right) c.stretches_of-s.result c.requires.3 c.requires.2
    (sym stretches.ensures ∙ tests.2) in
    (c.requires.0, inside)

pub returns-then-row_holds-start_holds-clause-is : goal.returns-then-row_holds-start_holds-clause-is
returns-then-row_holds-start_holds-clause-is c =
    c.cells_end.ensures.is ∙ sym (rw c.if-row_holds-start_holds.true at (told (goal.at.returns-then-row_holds-start_holds-clause-is c).After-stretches_hold))

pub returns-clause-is : goal.returns-clause-is
returns-clause-is c = sym (rw c.if-row_holds-start_holds.false at (told (goal.at.returns-clause-is c).After-stretches_hold))
