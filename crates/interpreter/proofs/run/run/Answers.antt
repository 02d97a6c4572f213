-- `run::run` meets its contract: no step asked for, buffers that are unfit, or a run on buffers that aren't.
use Rattle.std.proofs.Common.{rules}
use mathlib.Core.Path.{◌≡◌, refl, sym, ap, ◌∙◌}
use Prim.Native.Nat.{◌<◌}
use native.Mathlib.Omega.{arith}
use Rattle.calls.specs.Calls.{buffers}
use Rattle.interpreter.specs.Endings.{checked_number, refusal_number, refusal_some}
use Rattle.interpreter.specs.Laws.{unfit_answers, fit_given}
use Rattle.interpreter.specs.PromiseLaws.{run-kept}
use Rattle.interpreter.specs.RunLaws.{steps_none, unfit_run}
use Rattle.interpreter.proofs.run.run.Goals as goal

pub returns-then-count-eq0 : goal.returns-then-count-eq0
returns-then-count-eq0 c =
    let a = c.args in
    let none : a.count ≡ 0 = omega (arith, c.if-count-eq0.true) in
    run-kept (λ more. absurd (omega (arith, none)))
    (steps_none a.table.now a.input.now (buffers a.store.now a.state.now a.output.now) a.count none)

pub repeat-requires : goal.repeat-requires
repeat-requires c =
    let a = c.args in
    let fit = c.check_fit in
    fit_given a.table.now a.input.now (buffers a.store.now a.state.now a.output.now) (sym (ap checked_number c.in-Ok.is) ∙ fit.ensures)
    (search rules)

pub returns-in-Ok : goal.returns-in-Ok
returns-in-Ok c = run-kept (λ _. (search rules)) c.repeat.ensures.run_answers

pub returns-in-Err : goal.returns-in-Err
returns-in-Err c =
    let a = c.args in
    let b = buffers a.store.now a.state.now a.output.now in
    let fit = c.check_fit in
    let refusal = c.in-Err.refusal in
    let is = sym (ap checked_number c.in-Err.is) ∙ fit.ensures in
    let some : 0 < a.count = omega (arith, c.if-count-eq0.false) in
    run-kept (λ _. (search rules))
    (unfit_run a.table.now a.input.now b refusal
    (unfit_answers a.table.now a.input.now b (refusal_number refusal) is (refusal_some refusal) refl refl) a.count some)
