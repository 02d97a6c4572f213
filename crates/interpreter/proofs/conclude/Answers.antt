-- `conclude` meets its contract.
use mathlib.Core.Path.{sym, ap, ◌∙◌}
use Rattle.interpreter.specs.Clauses.{concluded_result, concluded_state, concluded_answer}
use Rattle.interpreter.proofs.conclude.Goals as goal

pub returns-in-Ok : goal.returns-in-Ok
returns-in-Ok c =
    let told = sym c.in-Ok.is in
    let a = c.args in
    record {
      given_is = ap concluded_result told;
      state_is = ap (λ d. concluded_state d a.state.now) told;
      answer_is = ap (λ d. concluded_answer d a.answer.now) told;
    }

pub returns-in-Err : goal.returns-in-Err
returns-in-Err c =
    let told = sym c.in-Err.is in
    let a = c.args in
    record {
      given_is = ap concluded_result told;
      state_is = c.stop.ensures ∙ ap (λ d. concluded_state d a.state.now) told;
      answer_is = ap (λ d. concluded_answer d a.answer.now) told;
    }
