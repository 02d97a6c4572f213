-- The ways in which a step call and a run of calls go: what holds each way holds of the call. Assumes nothing.
use Rattle.std.specs.Prelude.{List, ◌≡◌, ℕ, ltb, eqb, length, get_or}
use Rattle.std.proofs.Common.{eqb-true}
use Rattle.std.proofs.lemmas.Bool.{eqb-false}
use Rattle.base.specs.Choice.{cond_cases}
use Rattle.base.specs.Edition.{Edition}
use Rattle.machine.specs.Run.{FINISHED, STOPPED, REFUSED}
use Rattle.machine.specs.Step.{step}
use Rattle.scanning.specs.Call.{no_answer}
use Rattle.values.specs.Result.{stops_step}
use Rattle.encoding.specs.TableReading.{program_in}
use Rattle.calls.specs.Calls.{Buffers, StepCalled, given_in, step_refusal, step_done, step_call, RunCalled, run_ended, run_with_step, run_behind}
use Rattle.calls.specs.GivenLaws.{Unrefused, unrefused}

module _ (e : Edition) (table input : List ℕ) (b : Buffers) where
  -- a step is refused, and all stays, or is carried out
  pub by_refusal : (P : StepCalled → Type 0)
      → (let n = step_refusal e table input b in ¬ (n ≡ 0) → P (record { number = n; answer = no_answer; left = b }))
      → (Unrefused e table input b → P (step_done e table input b (step e (program_in table) (length b.output) (given_in e table input b))))
      → P (step_call e table input b)
  unfolding step_call
  by_refusal P f g =
      let n = step_refusal e table input b in
      cond_cases P (eqb n 0) (λ q. g (unrefused e table input b (eqb-true n 0 q))) (λ q. f (eqb-false n 0 q))

-- the run behind a step: the step stopped, was refused or finished, or the rest of the run follows
pub by_ending : (P : RunCalled → Type 0) (s : StepCalled) (rest : RunCalled) → P (run_with_step s (run_ended STOPPED s.number s.left))
    → P (run_ended REFUSED s.number s.left) → P (run_with_step s (run_ended FINISHED 0 s.left)) → P (run_with_step s rest)
    → P (run_behind s rest)
unfolding run_behind
by_ending P s rest stops refused ends further =
    cond_cases P (stops_step s.number) (λ _. stops)
    (λ _. cond_cases P (ltb 0 s.number) (λ _. refused)
    (λ _. cond_cases P (eqb (get_or s.left.state 0 0) 1) (λ _. ends) (λ _. further)))
