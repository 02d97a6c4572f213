-- Document 01, "Run": lists of steps, and a run of k steps. Assumes nothing.
use Rattle.std.specs.Prelude.{cond, ℕ, zero, suc, ◌+◌, ltb}
use Rattle.base.specs.Edition.{Edition}
use Rattle.syntax.specs.Program.{Program}
use Rattle.values.specs.Result.{stops_step}
use Rattle.machine.specs.State.{Status, running, finished, stopped, State}
use Rattle.machine.specs.Step.{Stepped, step}

module _ (e : Edition) (p : Program) (lent : ℕ) where
  -- R8 "Each step takes all that the last one returned and left": the state behind k steps
  unfoldable pub state_after : ℕ → State → State
  state_after zero c = c
  state_after (suc k) c = state_after k (step e p lent c).state

-- how a run ended (L15 has document 01's words), with which number, after how many steps done, with how many notes
pub data Outcome : Type 0 where
  FINISHED STOPPED SPENT REFUSED : Outcome

pub record Ran : Type 0 where
  pub outcome : Outcome
  pub number : ℕ
  pub steps : ℕ
  pub notes : ℕ
  pub state : State

-- R6 "A finishing or stopping step counts as done, one turned down doesn't."
unfoldable pub step_counted : ℕ → ℕ → Ran → Ran
step_counted steps notes r =
    record {
      outcome = r.outcome;
      number = r.number;
      steps = steps + r.steps;
      notes = notes + r.notes;
      state = r.state;
    }

unfoldable pub ended_with : Outcome → ℕ → State → Ran
ended_with o n c = record { outcome = o; number = n; steps = 0; notes = 0; state = c }

-- a step by how it ended: it stopped (17 to 21), it was turned down (15, 16), it finished, or the run goes on; a step with number 0
-- never leaves the status stopped
unfoldable pub going_on : Stepped → Ran → Ran
going_on s rest =
    cond (stops_step s.answer.number) (step_counted 1 0 (ended_with STOPPED s.answer.number s.state))
    (cond (ltb 0 s.answer.number) (ended_with REFUSED s.answer.number s.state)
    (step_counted 1 s.answer.notes (by_status s.state.status)))
  where
    by_status : Status → Ran
    by_status running = rest
    by_status finished = ended_with FINISHED 0 s.state
    by_status stopped = ended_with STOPPED 0 s.state

-- R5 "A run of k steps repeats the step until one finishes, stops or is turned down, else k are done ("spent")."
unfoldable pub run : Edition → Program → (lent k : ℕ) → State → Ran
run e p lent zero c = ended_with SPENT 0 c
run e p lent (suc k) c =
    let s = step e p lent c in
    let rest = run e p lent k s.state in
    going_on s rest
