-- A run of calls on buffers that hold a machine is the run of the machine; any run leaves what the steps that it tried leave, and tries no more
-- than its count; with a store too small it is turned down. Assumes nothing.
use Rattle.std.proofs.lemmas.Bool.{false≢true}
use Rattle.std.specs.Prelude.{Bool, List, ltb, eqb, length}
use Rattle.std.proofs.Math.Bool.{true, false, cond}
use Rattle.std.proofs.Common.{inl, inr, ◌∙◌}
use Rattle.std.proofs.Math.Option.{Option, none, some}
use Rattle.std.proofs.Math.Path.{◌≡◌, refl, sym, ap, ap₂, subst, subst₂}
use Prim.Native.Nat.{ℕ, zero, suc, ◌+◌, ◌≤◌, ◌<◌}
use native.Mathlib.Omega.{arith}
use Rattle.std.proofs.Math.ListN.{get_or}
use borrow.Author.Tests.{eqb-true, eqb-false, lt-ltb}
use Rattle.base.specs.Choice.{test_cases, cond_cases}
use Rattle.base.specs.Edition.{Edition}
use Rattle.syntax.specs.Program.{Statement}
use Rattle.syntax.specs.Program.{Program}
use Rattle.machine.specs.Ends.{Ending, stops}
use Rattle.machine.specs.Run.{FINISHED, Ran, step_counted, ended_with, going_on, run, STOPPED, REFUSED}
use Rattle.machine.specs.State.{Status, running, finished, stopped, Memory, State}
use Rattle.machine.specs.StepEnds.{step-turned, still_running, Alive, execution_alive, undone_answer}
use Rattle.machine.specs.Step.{Done, Stepped, step, statement_at, turned_down_by, concluded, execution}
use Rattle.scanning.specs.Call.{split_numbers, answer_numbers, no_answer}
use Rattle.scanning.specs.Splits.{Split}
use Rattle.scanning.specs.Trials.{Scanned}
use Rattle.values.specs.Conversion.{longest_string}
use Rattle.values.specs.Result.{Result, done, stop, stops_step}
use Rattle.values.specs.ResultLaws.{stops_some}
use Rattle.encoding.specs.Buffers.{store_size, status_of, state_in}
use Rattle.calls.specs.Calls.{Buffers, StepCalled, step_done, step_call, buffers_after, RunCalled, run_ended, run_with_step, run_behind, run_call}
use Rattle.calls.specs.Calls.{outcome_number, result_numbers, returned}
use Rattle.calls.specs.Cases.{by_ending}
use Rattle.calls.specs.Demands.{steps_tried}
use Rattle.calls.specs.Holding.{Holding}
use Rattle.calls.specs.Invariant.{StateSound, returns_enough, next_sound, step_sound}
use Rattle.encoding.specs.Numerals.{bias}
use Rattle.encoding.specs.ProgramLaws.{Runs}
use Rattle.calls.specs.StepLaws.{Tabled, small_called, call_held, step-holds}

-- how a run of calls went is how a run of the machine went, and the buffers left hold the machine left
pub record RunSame (e : Edition) (p : Program) (lent : ℕ) (input : List ℕ) (r : Ran) (k : RunCalled) : Type 0 where
  pub outcome : k.outcome ≡ r.outcome
  pub number : k.number ≡ r.number
  pub steps : k.steps ≡ r.steps
  pub notes : k.notes ≡ r.notes
  pub holds : Holding e p lent input r.state k.left

-- 1 is the number of a run that finished, and no other is
one_finished : (n : ℕ) → eqb n 1 ≡ true → status_of n ≡ finished
unfolding status_of
one_finished n q = ap status_of (eqb-true n 1 q)

other_unfinished : (n : ℕ) → eqb n 1 ≡ false → ¬ (status_of n ≡ finished)
unfolding status_of
other_unfinished n q h = neither (eqb n 0) (ap (λ t. cond (eqb n 0) running (cond t finished stopped)) (sym q) ∙ h)
  where
    neither : (t : Bool) → ¬ (cond t running stopped ≡ finished)
    neither true g = let z : ◌≡◌ {A = ℕ} 0 1 = cc in omega arith
    neither false g = let z : ◌≡◌ {A = ℕ} 0 1 = cc in omega arith

-- a run behind a step: of the machine, by its state's parts, and of the calls, with the same number and notes
module _ (e : Edition) (p : Program) (lent : ℕ) (input : List ℕ) (notes : ℕ) (scanned : Scanned) (next : ℕ) (returns : List ℕ) (m : Memory)
    (left out answer : List ℕ) (b : Buffers) (same : get_or answer 3 0 ≡ notes) (r : Ran) (k : RunCalled)
    (rest : RunSame e p lent input r k) where
  with-status : Status → State
  with-status x = record { status = x; next = next; returns = returns; memory = m; input = left; output = out }

  -- a step that was done
  went_on : (x : Status) → ¬ (x ≡ stopped) → Holding e p lent input (with-status x) b
      → RunSame e p lent input (going_on (record { answer = record { number = 0; notes = notes; scanned = scanned }; state = with-status x }) r)
      (run_behind (record { number = 0; answer = answer; left = b }) k)
  unfolding going_on run_behind stops_step step_counted run_with_step ended_with run_ended with-status state_in
  went_on running alive h =
      let called : StepCalled = record { number = 0; answer = answer; left = b } in
      let n = get_or b.state 0 0 in
      let told : status_of n ≡ running = ap (λ c. c.status) h.given in
      cond_cases (RunSame e p lent input (step_counted 1 notes r)) (eqb n 1)
      (λ q. absurd (let f = one_finished n q in let z : ◌≡◌ {A = ℕ} 0 1 = cc in omega arith))
      (λ q.
      record {
        outcome = rest.outcome;
        number = rest.number;
        steps = ap (λ j. 1 + j) rest.steps;
        notes = ap₂ ◌+◌ same rest.notes;
        holds = rest.holds;
      })
  went_on finished alive h =
      let n = get_or b.state 0 0 in
      let told : status_of n ≡ finished = ap (λ c. c.status) h.given in
      cond_cases (RunSame e p lent input (step_counted 1 notes (ended_with FINISHED 0 (with-status finished)))) (eqb n 1)
      (λ q. record { outcome = refl; number = refl; steps = refl; notes = ap (λ j. j + 0) same; holds = h })
      (λ q. absurd (other_unfinished n q told))
  went_on stopped alive h = absurd (alive refl)

-- a step that is not done ends both runs
ended : (e : Edition) (p : Program) (lent : ℕ) (input : List ℕ) (n : ℕ) (z : State) (y : StepCalled) → Holding e p lent input z y.left
    → get_or y.answer 3 0 ≡ 0 → (r : Ran) (k : RunCalled) (stops met : Bool) → met ≡ true
    → RunSame e p lent input (cond stops (step_counted 1 0 (ended_with STOPPED n z)) (cond met (ended_with REFUSED n z) r))
    (cond stops (run_with_step y (run_ended STOPPED n y.left)) (cond met (run_ended REFUSED n y.left) k))
unfolding step_counted run_with_step ended_with run_ended
ended e p lent input n z y h no-notes r k true met is =
    record { outcome = refl; number = refl; steps = refl; notes = ap (λ j. j + 0) no-notes; holds = h }
ended e p lent input n z y h no-notes r k false true is = record { outcome = refl; number = refl; steps = refl; notes = refl; holds = h }
ended e p lent input n z y h no-notes r k false false is = absurd (false≢true is)

-- the notes among an answer's numbers
notes_at : (notes : ℕ) (s : Option Split) (trials : ℕ) → get_or (split_numbers s trials notes) 3 0 ≡ notes
unfolding split_numbers
notes_at notes none trials = refl
notes_at notes (some a) trials = refl

-- numbers fit their places, a string's length is a number, p is a program that runs, and the table holds it
module _ (e : Edition) (limit : e.limit < bias) (wide : longest_string ≤ e.limit) (p : Program) (runs : Runs e p)
    (table input : List ℕ) (t : Tabled e p table) (lent : ℕ) where
  -- a step that is done has not stopped
  concluded_alive : {P : Done → Type 0} (c : State) (x : Statement) (w : Result Done) → execution e lent x c ≡ w → Ending P w
      → ¬ (c.status ≡ stopped) → (concluded c w).answer.number ≡ 0 → ¬ ((concluded c w).state.status ≡ stopped)
  unfolding concluded
  concluded_alive c x (done d n) is ended alive none-met halted = either (execution_alive e lent x c d n is)
    where
      either : Alive c d.state → ⊥
      either (inl same) = alive (sym same ∙ halted)
      either (inr ended) = let z : ◌≡◌ {A = ℕ} 0 1 = cc in omega arith
  concluded_alive c x (stop k) is (stops h) alive none-met halted = stops_some h none-met

  -- nor has a step with no number
  step_alive : (c : State) → StateSound e p lent input c → (step e p lent c).answer.number ≡ 0 → ¬ ((step e p lent c).state.status ≡ stopped)
  unfolding step
  step_alive c s =
      let n = turned_down_by p c in
      let x = statement_at p c.next in
      cond_cases (λ (k : Stepped). k.answer.number ≡ 0 → ¬ (k.state.status ≡ stopped)) (eqb n 0)
      (λ q.
      let goes = eqb-true n 0 q in
      concluded_alive c x (execution e lent x c) refl (next_sound e wide p runs lent input c s (returns_enough p c goes)) (still_running p c goes))
      (λ q none-met. absurd (eqb-false n 0 q none-met))

  -- buffers b that hold a machine c
  module _ (c : State) (b : Buffers) (h : Holding e p lent input c b) where
    -- the number and the notes of the call are those of the step
    pub call_numbers : ((step_call e table input b).number ≡ (step e p lent c).answer.number)
        × (get_or (step_call e table input b).answer 3 0 ≡ (step e p lent c).answer.notes)
    unfolding step_done step answer_numbers no_answer split_numbers
    call_numbers =
        let a = (step e p lent c).answer in
        test_cases
        (λ _. ((step_call e table input b).number ≡ a.number) × (get_or (step_call e table input b).answer 3 0 ≡ a.notes))
        (eqb (turned_down_by p c) 0)
        (λ q.
        let called = call_held e p table input t lent c b h true q in
        (ap (λ k. k.number) called, ap (λ k. get_or k.answer 3 0) called ∙ notes_at a.notes a.scanned.split a.scanned.trials))
        (λ q.
        let called = call_held e p table input t lent c b h false q in
        let turned = step-turned e p lent c q in (
          ap (λ k. k.number) called ∙ ap (λ s. s.answer.number) (sym turned),
          ap (λ k. get_or k.answer 3 0) called ∙ ap (λ s. s.answer.notes) (sym turned),
        ))

    -- the runs behind the step, r of the machine and k of the calls
    module _ (r : Ran) (k : RunCalled) (s : StateSound e p lent input c) (rest : RunSame e p lent input r k) where
      machine : Stepped
      machine = step e p lent c

      called : StepCalled
      called = step_call e table input b

      -- what the step left
      left : Holding e p lent input machine.state called.left
      unfolding machine called
      left = step-holds e p table input t limit wide runs lent c b s h

      -- behind a step that is done
      done-same : machine.answer.number ≡ 0 → RunSame e p lent input (going_on machine r) (run_behind called k)
      unfolding machine called with-status
      done-same none-met =
          let a = machine.answer in
          let z = machine.state in
          let numbers : called.number ≡ 0 = call_numbers.0 ∙ none-met in
          subst₂ (λ (x : Stepped) (y : StepCalled). RunSame e p lent input (going_on x r) (run_behind y k))
          (λ i. record { answer = record { number = sym none-met i; notes = a.notes; scanned = a.scanned }; state = z })
          (λ i. record { number = sym numbers i; answer = called.answer; left = called.left })
          (went_on e p lent input a.notes a.scanned z.next z.returns z.memory z.input z.output called.answer
          called.left call_numbers.1 r k rest z.status (step_alive c s none-met) left)

      -- behind one that is not
      undone_same : ¬ (machine.answer.number ≡ 0) → RunSame e p lent input (going_on machine r) (run_behind called k)
      unfolding machine called going_on run_behind
      undone_same some-met =
          let n = machine.answer.number in
          let behind : StepCalled = record { number = n; answer = called.answer; left = called.left } in
          let no-notes = call_numbers.1 ∙ (undone_answer e p lent c some-met).0 in
          subst (λ (y : StepCalled). RunSame e p lent input (going_on machine r) (run_behind y k))
          (λ i. record { number = sym call_numbers.0 i; answer = called.answer; left = called.left })
          (ended e p lent input n machine.state behind left no-notes _ _ (stops_step n) (ltb 0 n) (lt-ltb 0 n (omega (arith, some-met))))

  -- a run of calls is the run of the machine
  pub run-same : (k : ℕ) (c : State) (b : Buffers) → StateSound e p lent input c → Holding e p lent input c b
      → RunSame e p lent input (run e p lent k c) (run_call e table input k b)
  unfolding run run_call ended_with run_ended machine called
  run-same zero c b s h = record { outcome = refl; number = refl; steps = refl; notes = refl; holds = h }
  run-same (suc k) c b s h =
      let rest = run-same k (step e p lent c).state (step_call e table input b).left (step_sound e wide p runs lent input c s)
      (step-holds e p table input t limit wide runs lent c b s h) in
      let r = run e p lent k (step e p lent c).state in
      let q = run_call e table input k (step_call e table input b).left in
      test_cases (λ _. RunSame e p lent input (going_on (step e p lent c) r) (run_behind (step_call e table input b) q))
      (eqb (step e p lent c).answer.number 0) (λ e₁. done-same c b h r q s rest (eqb-true _ 0 e₁))
      (λ e₁. undone_same c b h r q s rest (eqb-false _ 0 e₁))

-- the run behind a step that goes on leaves what the steps that it tried leave, if the rest does
later_left : (e : Edition) (table input : List ℕ) (b : Buffers) (rest : RunCalled)
    → (let s = step_call e table input b in
    rest.left ≡ buffers_after e table input (steps_tried (returned rest)) s.left
    → (run_with_step s rest).left ≡ buffers_after e table input (steps_tried (returned (run_with_step s rest))) b)
unfolding run_with_step returned result_numbers steps_tried outcome_number buffers_after
later_left e table input b rest h =
    let turned : ℕ = cond (eqb (outcome_number rest.outcome) 3) 1 0 in
    let one_more : suc (rest.steps + turned) ≡ 1 + rest.steps + turned = omega arith in
    h ∙ ap (λ (k : ℕ). buffers_after e table input k b) one_more

-- a run leaves what the steps that it tried leave
pub run-left : (e : Edition) (table input : List ℕ) (count : ℕ) (b : Buffers)
    → (run_call e table input count b).left ≡ buffers_after e table input (steps_tried (returned (run_call e table input count b))) b
unfolding run_call run_with_step run_ended returned result_numbers steps_tried outcome_number buffers_after
run-left e table input zero b = refl
run-left e table input (suc k) b =
    let s = step_call e table input b in
    by_ending (λ r. r.left ≡ buffers_after e table input (steps_tried (returned r)) b) s (run_call e table input k s.left) refl refl refl
    (later_left e table input b (run_call e table input k s.left) (run-left e table input k s.left))

-- a run tries no more steps than its count
pub run_tried : (e : Edition) (table input : List ℕ) (count : ℕ) (b : Buffers) → steps_tried (returned (run_call e table input count b)) ≤ count
unfolding run_call run_with_step run_ended returned result_numbers steps_tried outcome_number
run_tried e table input zero b = omega arith
run_tried e table input (suc k) b =
    let s = step_call e table input b in
    by_ending (λ r. steps_tried (returned r) ≤ suc k) s (run_call e table input k s.left) (omega arith) (omega arith) (omega arith)
    (omega (arith, run_tried e table input k s.left))

-- with a store too small a run is turned down
pub small_run : (e : Edition) (p : Program) (table input : List ℕ) → Tabled e p table → (b : Buffers) → length b.store < store_size → (k : ℕ)
    → run_call e table input (suc k) b ≡ run_ended REFUSED 14 b
unfolding run_call run_behind stops_step
small_run e p table input t b small k =
    ap (λ (s : StepCalled). run_behind s (run_call e table input k s.left)) (small_called e p table input t b small)
