-- A step and a run that answer and leave what their definitions do keep the calls' promises, demand 3 included. Assumes nothing.
use Rattle.std.specs.Prelude.{List, ◌≡◌, ℕ, ◌<◌, length}
use Rattle.base.specs.Current.{current}
use Rattle.calls.specs.Calls.{Buffers, result_numbers, returned, run_call, step_call}
use Rattle.calls.specs.PromiseLaws.{run_promise, step_promise}
use Rattle.calls.specs.Promises.{RunPromise, StepPromise, run_back, step_back}
use Rattle.interpreter.specs.Clauses.{StepAnswers, RunAnswers}
use Rattle.interpreter.specs.Endings.{ran_back}
use Rattle.interpreter.specs.declared.run.Ran.{Ran}

module _ {table input : List ℕ} {b left : Buffers} where
  pub step_kept : {number : ℕ} {answer : List ℕ} → length b.state ≡ 64 → StepAnswers (step_call current table input b) number answer left
      → StepPromise current table input b (step_back number answer left)
  step_kept size a = step_promise size (λ i. step_back (a.number_is i) (a.answer_is i) (a.left_is i))

  pub run-kept : {count : ℕ} {ran : Ran} → (0 < count → length b.state ≡ 64)
      → RunAnswers (run_call current table input count b) ran left → RunPromise current table input count b (ran_back ran left)
  unfolding returned
  run-kept size a =
      run_promise size
      (λ i. run_back (a.number_is i) (result_numbers (a.outcome_is i) (a.number_is i) (a.steps_are i) (a.notes_are i)) (a.left_is i))
