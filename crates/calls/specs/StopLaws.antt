-- A step that is stopped leaves store and output byte for byte, and of the state changes the status alone; one that is refused leaves all. So
-- does the last step of a run. Assumes nothing.
use Rattle.std.specs.Prelude.{Bool, not, ◌≡◌, ltb}
use Rattle.std.proofs.Math.Bool.{true, false, cond}
use Rattle.std.proofs.Common.{true≢false, sym, ◌∙◌, take-append-drop, drop-cons, eqb-true}
use mathlib.Core.List.{List, ◌∷◌, ◌++◌, reverse, reverse-reverse}
use Rattle.std.proofs.Math.Path.{refl, ap, ap₂}
use Prim.Native.Nat.{ℕ, zero, suc, ◌+◌, ◌-◌, ◌≤◌, ◌<◌}
use native.Mathlib.Omega.{arith}
use Rattle.std.proofs.Math.Dec.{eqb}
use Rattle.std.proofs.Math.ListN.{length, take, drop, get_or, length-drop}
use Rattle.std.proofs.Math.Seq.{length-take-le}
use Rattle.base.specs.Choice.{test_cases}
use Rattle.base.specs.Edition.{Edition}
use Rattle.base.specs.ListLaws.{stretch_behind}
use Rattle.encoding.specs.NumeralLaws.{numbers-same}
use Rattle.machine.specs.State.{Status, stopped, State, with_status, most_numbers}
use Rattle.machine.specs.StepEnds.{stopped_step, step_stops, turned_down_unstopped, undone_answer}
use Rattle.machine.specs.Step.{most_returns, no_scan, turned_down_by, step}
use Rattle.scanning.specs.Call.{answer_numbers, no_answer, split_numbers}
use Rattle.values.specs.Conversion.{longest_string}
use Rattle.values.specs.Result.{stops_step}
use Rattle.values.specs.ResultLaws.{stops_some}
use Rattle.encoding.specs.BufferLaws.{good_image, keeps_good}
use Rattle.encoding.specs.Buffers.{store_keeps, state_size, returns_at, numbers_at, status_number, returns_in, numbers_in}
use Rattle.encoding.specs.Buffers.{state_keeps, state_in, store_left, state_left, output_left}
use Rattle.calls.specs.Cases.{by_refusal, by_ending}
use Rattle.calls.specs.Calls.{Buffers, left_of, given_in, out_of_range, step_refusal, step_done, step_call, buffers_after}
use Rattle.calls.specs.Calls.{RunCalled, RunReturned, outcome_number, result_numbers, returned, run_ended, run_with_step, run_call}
use Rattle.calls.specs.Demands.{steps_tried}
use Rattle.calls.specs.GivenLaws.{StateInRange, state_in_range, returns-count, given_sound, given_holds, Unrefused, unrefused}
use Rattle.calls.specs.Holding.{Holding}
use Rattle.calls.specs.Invariant.{next_sound, returns_enough}
use Rattle.encoding.specs.Numerals.{bias}
use Rattle.encoding.specs.ProgramLaws.{program_runs}
use Rattle.calls.specs.Promises.{Keeps}
use Rattle.encoding.specs.Rules.{keeps_rules}
use Rattle.calls.specs.StepLaws.{Tabled, step-holds}
use Rattle.encoding.specs.TableLaws.{keeps_image}
use Rattle.encoding.specs.TableReading.{program_in}

-- the buffers with another state
abbrev pub with_state : List ℕ → Buffers → Buffers
with_state s b = record { store = b.store; state = s; output = b.output }

-- the five numbers in front, and the rest
pub five_front : (l : List ℕ) → 5 ≤ length l → drop 1 l ≡ get_or l 1 0 ∷ (get_or l 2 0 ∷ (get_or l 3 0 ∷ (get_or l 4 0 ∷ drop 5 l)))
five_front l h = rw (drop-cons l 1 0 (omega arith), drop-cons l 2 0 (omega arith), drop-cons l 3 0 (omega arith), drop-cons l 4 0 (omega arith))

-- the returns held and not, the numbers and the rest
pub behind_five : (l : List ℕ) (n : ℕ) → n ≤ 16
    → take n (drop 5 l) ++ (take (16 - n) (drop (5 + n) l) ++ (take 32 (drop 21 l) ++ drop 53 l)) ≡ drop 5 l
behind_five l n few =
    let all-places : 5 + n + (16 - n) ≡ 21 = omega arith in
    rw (stretch_behind l 21 32 53 refl, stretch_behind l (5 + n) (16 - n) 21 all-places, stretch_behind l 5 n (5 + n) refl)

-- an output whose first n bytes a machine has written is left as it is
pub output_whole : (output : List ℕ) (n : ℕ) (m : State) → n ≤ length output → m.output ≡ take n output → output_left output m ≡ output
unfolding output_left
output_whole output n m h e =
    ap (λ (o : List ℕ). o ++ drop (length o) output) e ∙ rw (length-take-le n output h) (take-append-drop n output)

-- buffers with a state in range
module _ (e : Edition) (steps : ℕ) (store state input output : List ℕ) (size : length state ≡ state_size)
    (facts : StateInRange e steps (length input) (length output) state) where
  held : State
  held = state_in store state input output

  state_same : (x : Status) → state_left state input (with_status x held) ≡ status_number x ∷ drop 1 state
  unfolding state_left with_status held state_in returns_in numbers_in returns_at numbers_at most_returns most_numbers
  state_same x =
      let n = get_or state 2 0 in
      let behind = drop 5 state in
      let few : n ≤ 16 = facts.count in
      let returns : length (reverse (take n behind)) ≡ n = returns-count state (omega arith) in
      let place : length input - length (drop (get_or state 3 0) input) ≡ get_or state 3 0 =
      simp length-drop (omega (arith, facts.place)) in
      let written : length (take (get_or state 4 0) output) ≡ get_or state 4 0 = length-take-le (get_or state 4 0) output facts.written in
      let numbers = take 32 (drop 21 state) in
      let whole : (n place written : ℕ) (rs ns : List ℕ) → List ℕ =
      λ n place written rs ns.
      status_number x
      ∷ (get_or state 1 0 ∷ (n ∷ (place ∷ (written ∷ (rs ++ (take (16 - n) (drop (5 + n) state) ++ (ns ++ drop 53 state))))))) in
      let read : state_left state input (with_status x held) ≡ whole n (get_or state 3 0) (get_or state 4 0) (take n behind) numbers =
      λ i. whole (returns i) (place i) (written i) (reverse-reverse (take n behind) i) (numbers-same numbers i) in
      read ∙ ap (λ l. status_number x ∷ (get_or state 1 0 ∷ (n ∷ (get_or state 3 0 ∷ (get_or state 4 0 ∷ l))))) (behind_five state n few)
      ∙ ap (λ (l : List ℕ). status_number x ∷ l) (sym (five_front state (omega arith)))

-- what is left of buffers in range and another status is the buffers with that status
pub left-same : (e : Edition) (steps : ℕ) (input : List ℕ) (b : Buffers) (x : Status) → length b.state ≡ state_size
    → store_keeps b.store ≡ true → state_keeps e steps (length input) (length b.output) b.state ≡ true
    → left_of input b (with_status x (state_in b.store b.state input b.output)) ≡ with_state (status_number x ∷ drop 1 b.state) b
unfolding store_left with_status state_in held
left-same e steps input b x size good range =
    let facts = state_in_range e steps (length input) (length b.output) b.state range in
    let stores = good_image b.store (keeps_good b.store good) in
    let states = state_same e steps b.store b.state input b.output size facts x in
    let outputs = output_whole b.output (get_or b.state 4 0) (with_status x (state_in b.store b.state input b.output)) facts.written refl in
    λ i. record { store = stores i; state = states i; output = outputs i }

-- what refuses a step doesn't stop it
pub refusal_unstopped : (small rules store bad : Bool) (n : ℕ) → stops_step n ≡ false
    → stops_step (cond small 2 (cond (not rules) 13 (cond (not store) 14 (cond bad 15 n)))) ≡ false
unfolding stops_step
refusal_unstopped true rules store bad n h = refl
refusal_unstopped false false store bad n h = refl
refusal_unstopped false true false bad n h = refl
refusal_unstopped false true true true n h = refl
refusal_unstopped false true true false n h = h

module _ (e : Edition) (table input : List ℕ) (b : Buffers) where
  refused_unstopped : stops_step (step_refusal e table input b) ≡ false
  unfolding step_refusal
  refused_unstopped =
      refusal_unstopped (ltb (length table) e.table_size) (keeps_rules e table) (store_keeps b.store) (out_of_range e table input b)
      (turned_down_by (program_in table) (given_in e table input b)) (turned_down_unstopped (program_in table) (given_in e table input b))

  -- the state left is stopped, and nothing else is changed
  abbrev Stopped : Buffers → Type 0
  Stopped left = left ≡ with_state (status_number stopped ∷ drop 1 b.state) b

  done_stopped : length b.state ≡ state_size → Unrefused e table input b
      → (let s = step e (program_in table) (length b.output) (given_in e table input b) in
      ¬ (s.answer.number ≡ 0) → Stopped (left_of input b s.state))
  unfolding given_in
  done_stopped size u h =
      ap (left_of input b) (stopped_step e (program_in table) (length b.output) (given_in e table input b) u.goes h)
      ∙ left-same e (length (program_in table).steps) input b stopped size u.store_good u.state_good

  -- numbers fit their places, a string's length is a number, and the state has its size
  module _ (limit : e.limit < bias) (wide : longest_string ≤ e.limit) (size : length b.state ≡ state_size) where
    -- a step that is carried out has no number but one that stops
    carried_stops : (u : Unrefused e table input b)
        → (let s = step e (program_in table) (length b.output) (given_in e table input b) in
        ¬ (s.answer.number ≡ 0) → stops_step s.answer.number ≡ true)
    unfolding given_in
    carried_stops u =
        let p = program_in table in
        let c = given_in e table input b in
        let sound = given_sound e p input b size u.store_good u.state_good in
        let runs = program_runs e p (keeps_image e table u.tabled.keeps).0 in
        step_stops e p (length b.output) c u.goes
        (next_sound e wide p runs (length b.output) input c sound (returns_enough p c u.goes))

    -- demand 1 "a refused or stopped step leaves store, numbers, input place and output as before it"
    pub step_keeps : Keeps b (step_call e table input b).number (step_call e table input b).left
    unfolding step_done
    step_keeps =
        by_refusal e table input b (λ s. Keeps b s.number s.left)
        (λ q.
        record {
          store = λ _. refl;
          state = λ _. refl;
          output = λ _. refl;
          handed_back = λ _ _. refl;
          marked = λ stops. absurd (true≢false (sym stops ∙ refused_unstopped));
        })
        (λ u.
        record {
          store = λ h. ap (λ x. x.store) (done_stopped size u h);
          state = λ h. ap (λ x. drop 1 x.state) (done_stopped size u h);
          output = λ h. ap (λ x. x.output) (done_stopped size u h);
          handed_back = λ some turned. absurd (true≢false (sym (carried_stops u (λ z. omega arith)) ∙ turned));
          marked = λ stops. ap (λ x. get_or x.state 0 0) (done_stopped size u (stops_some stops));
        })

    -- V12, V13: such a step answers nothing
    pub step_silent : ¬ ((step_call e table input b).number ≡ 0) → (step_call e table input b).answer ≡ no_answer
    unfolding step_done answer_numbers no_answer no_scan split_numbers
    step_silent =
        by_refusal e table input b (λ s. ¬ (s.number ≡ 0) → s.answer ≡ no_answer) (λ q h. refl)
        (λ u h.
        let a = undone_answer e (program_in table) (length b.output) (given_in e table input b) h in
        ap₂ answer_numbers a.0 a.1)

    -- buffers that pass the tests: what is left holds the machine left
    pub passed_holds : Tabled e (program_in table) table → store_keeps b.store ≡ true
        → state_keeps e (length (program_in table).steps) (length input) (length b.output) b.state ≡ true
        → (let lent = length b.output in
        Holding e (program_in table) lent input (step e (program_in table) lent (given_in e table input b)).state (step_call e table input b).left)
    unfolding given_in
    passed_holds t good range =
        let p = program_in table in
        let runs = program_runs e p (keeps_image e table t.keeps).0 in
        step-holds e p table input t limit wide runs (length b.output) (given_in e table input b) b
        (given_sound e p input b size good range) (given_holds e p input b size good range)

    -- the state left has its size
    pub step_size : length (step_call e table input b).left.state ≡ state_size
    unfolding step_call
    step_size =
        test_cases (λ _. length (step_call e table input b).left.state ≡ state_size) (eqb (step_refusal e table input b) 0)
        (λ q.
        let u = unrefused e table input b (eqb-true (step_refusal e table input b) 0 q) in
        (passed_holds u.tabled u.store_good u.state_good).state_length)
        (λ q. ap (λ (x : Buffers). length x.state) (refused_left q) ∙ size)
      where
        refused_left : eqb (step_refusal e table input b) 0 ≡ false → (step_call e table input b).left ≡ b
        refused_left q = rw q

-- a run whose last step was refused or stopped: that step was given what the k before it left
abbrev pub LastKeeps : (e : Edition) (table input : List ℕ) → Buffers → RunReturned → Type 0
LastKeeps e table input b back =
    (k : ℕ) × (steps_tried back ≡ suc k) × Keeps (buffers_after e table input k b) back.number back.left

-- the last step of the run behind a step that goes on is that of the rest
later_keeps : (e : Edition) (table input : List ℕ) (b : Buffers) (rest : RunCalled)
    → (let s = step_call e table input b in
    (¬ (rest.number ≡ 0) → LastKeeps e table input s.left (returned rest))
    → ¬ ((run_with_step s rest).number ≡ 0) → LastKeeps e table input b (returned (run_with_step s rest)))
unfolding run_with_step returned result_numbers steps_tried outcome_number buffers_after
later_keeps e table input b rest h n =
    let last = h n in
    let turned : ℕ = cond (eqb (outcome_number rest.outcome) 3) 1 0 in
    let before : rest.steps + turned ≡ suc last.0 = last.1 in
    let one_more : 1 + rest.steps + turned ≡ suc (suc last.0) = omega arith in
    (suc last.0, one_more, last.2)

-- of every run
pub run_keeps : (e : Edition) (table input : List ℕ) → e.limit < bias → longest_string ≤ e.limit → (count : ℕ) (b : Buffers)
    → (0 < count → length b.state ≡ state_size) → (let r = run_call e table input count b in ¬ (r.number ≡ 0) → LastKeeps e table input b (returned r))
unfolding run_call run_with_step run_ended returned result_numbers steps_tried outcome_number buffers_after
run_keeps e table input limit wide zero b size n = absurd (n refl)
run_keeps e table input limit wide (suc k) b size n =
    let s = step_call e table input b in
    let now = size (omega arith) in
    let kept = step_keeps e table input b limit wide now in
    by_ending (λ r. ¬ (r.number ≡ 0) → LastKeeps e table input b (returned r)) s (run_call e table input k s.left) (λ _. (0, refl, kept))
    (λ _. (0, refl, kept)) (λ some. absurd (some refl))
    (later_keeps e table input b (run_call e table input k s.left)
    (run_keeps e table input limit wide k s.left (λ _. step_size e table input b limit wide now))) n
