-- `strigol_step` meets its contract: buffers that are unfit are turned down, others are given to the machine.
use Rattle.std.proofs.Common.{rules}
use mathlib.Core.Path.{refl, sym, ap, ◌∙◌}
use Rattle.calls.specs.Calls.{buffers}
use Rattle.interpreter.specs.Endings.{checked_number, refusal_number, refusal_some}
use Rattle.interpreter.specs.Laws.{unfit_answers, fit_given}
use Rattle.interpreter.specs.PromiseLaws.{step_kept}
use Rattle.interpreter.proofs.strigol_step.Goals as goal

pub repeat-requires : goal.repeat-requires
repeat-requires c =
    let a = c.args in
    let fit = c.check_fit in
    fit_given a.table.now a.input.now (buffers a.store.now a.state.now a.output.now) (sym (ap checked_number c.in-Ok.is) ∙ fit.ensures)
    (search rules)

pub returns-in-Ok : goal.returns-in-Ok
returns-in-Ok c = rw c.number.ensures (step_kept (search rules) (c.repeat.ensures.step_answers refl))

pub returns-in-Err : goal.returns-in-Err
returns-in-Err c =
    let a = c.args in
    let b = buffers a.store.now a.state.now a.output.now in
    let fit = c.check_fit in
    let why = c.in-Err.refusal in
    step_kept (search rules)
    (unfit_answers a.table.now a.input.now b (refusal_number why) (sym (ap checked_number c.in-Err.is) ∙ fit.ensures) (refusal_some why)
    c.turn_down.ensures.0 c.turn_down.ensures.1)
