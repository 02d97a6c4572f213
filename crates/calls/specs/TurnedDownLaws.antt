-- A run of an accepted deck from a fresh start, with a large enough store, is never turned down: each call is done or stops, and once the
-- run is over it gets 16. (Returns held never pass the chain of routines.) Assumes nothing; every edition whose sizes fit is covered.
use Rattle.std.specs.Prelude.{true, ◌⊎◌, ◌≡◌, eqb, get_or}
use Rattle.std.proofs.Math.Bool.{cond}
use mathlib.Core.List.{List, [], ◌∷◌, ◌++◌}
use Rattle.std.proofs.Math.Logic.{inl, inr}
use Rattle.std.proofs.Math.Path.{refl, sym, ap, subst}
use Rattle.std.proofs.Common.{◌∙◌, arith}
use Prim.Native.Nat.{ℕ, zero, suc, ◌+◌, ◌≤◌, ◌<◌}
use Rattle.std.proofs.Math.ListN.{length}
use Rattle.base.specs.Choice.{cond_cases}
use Rattle.base.specs.Edition.{Edition}
use Rattle.validation.specs.Chains.{Executes}
use Rattle.validation.specs.ScopeLaws.{HasScopes, accepted_scoped}
use Rattle.syntax.specs.Placed.{Each}
use Rattle.syntax.specs.Program.{Program}
use Rattle.machine.specs.Ends.{Ending, ends, stops}
use Rattle.machine.specs.Nesting.{NestedIn, fresh_nested, step_nested, nested_turned}
use Rattle.machine.specs.Run.{REFUSED, Ran, state_after, step_counted, ended_with, going_on, run}
use Rattle.machine.specs.State.{Status, running, finished, stopped, is_running, Memory, State, fresh}
use Rattle.machine.specs.Step.{Done, execution, statement_at, turned_down_by, Stepped, concluded, step}
use Rattle.machine.specs.StepEnds.{step-turned}
use Rattle.scanning.specs.Trials.{Scanned}
use Rattle.values.specs.Conversion.{longest_string}
use Rattle.values.specs.Result.{stops_step, Result, done, stop}
use Rattle.encoding.specs.Buffers.{store_size, status_of, state_in}
use Rattle.calls.specs.Calls.{read_call, Buffers, StepCalled, step_call, buffers_after, RunReturned, outcome_number, result_numbers}
use Rattle.calls.specs.Calls.{returned, run_ended, run_call}
use Rattle.calls.specs.Demands.{Observed, observed_step, observed_run, steps_tried, Linked, History}
use Rattle.calls.specs.DemandLaws.{Behind, behind-step, behind-steps, behind-start, read_loaded, history_loaded, history_linked}
use Rattle.calls.specs.Invariant.{StateSound, returns_enough, next_sound, step_sound}
use Rattle.encoding.specs.Numerals.{bias}
use Rattle.encoding.specs.ProgramLaws.{Runs}
use Rattle.calls.specs.RunLaws.{call_numbers, run-same, run-left}
use Rattle.calls.specs.StartLaws.{started_with}
use Rattle.calls.specs.StepLaws.{Tabled}
use Rattle.encoding.specs.Table.{literals_at}

-- a call is done, or it is stopped by a number that stops a step
abbrev pub DoneOrStopped : ℕ → Type 0
DoneOrStopped n = (n ≡ 0) ⊎ (stops_step n ≡ true)

-- the number of a step or run in a state with this status: Q16 where the run is over, else none that turns it down
unfoldable pub StepGoesOn : Status → ℕ → Type 0
StepGoesOn running n = DoneOrStopped n
StepGoesOn finished n = n ≡ 16
StepGoesOn stopped n = n ≡ 16

-- a call as it was observed: a run of no steps is done at once, and one in a run that goes on is not REFUSED
unfoldable pub CallGoes : Observed → Type 0
CallGoes (observed_step b back) = StepGoesOn (status_of (get_or b.state 0 0)) back.number
CallGoes (observed_run zero b back) = back.number ≡ 0
CallGoes (observed_run (suc k) b back) =
    StepGoesOn (status_of (get_or b.state 0 0)) back.number
    × (status_of (get_or b.state 0 0) ≡ running → ¬ (get_or back.result 0 0 ≡ outcome_number REFUSED))

-- a run that is not turned down
pub record RunsOn (r : Ran) : Type 0 where
  pub unrefused : ¬ (outcome_number r.outcome ≡ outcome_number REFUSED)
  pub number : DoneOrStopped r.number

-- how a statement's work is concluded
concluded_goes : {P : Done → Type 0} (c : State) (w : Result Done) → Ending P w → DoneOrStopped (concluded c w).answer.number
unfolding concluded
concluded_goes c (done d n) (ends h) = inl refl
concluded_goes c (stop n) (stops h) = inr h

-- a run behind a step that is done or stopped, where the rest of the run is not turned down if it goes on
module _ (notes : ℕ) (scanned : Scanned) (next : ℕ) (returns : List ℕ) (m : Memory) (left out : List ℕ) (rest : Ran) where
  stepped : ℕ → Status → Stepped
  stepped n x =
      record {
        answer = record { number = n; notes = notes; scanned = scanned };
        state = record { status = x; next = next; returns = returns; memory = m; input = left; output = out };
      }

  done-behind : (x : Status) → (x ≡ running → RunsOn rest) → RunsOn (going_on (stepped 0 x) rest)
  unfolding going_on step_counted ended_with stepped outcome_number stops_step
  done-behind running h = record { unrefused = (h refl).unrefused; number = (h refl).number }
  done-behind finished h = record { unrefused = λ q. omega arith; number = inl refl }
  done-behind stopped h = record { unrefused = λ q. omega arith; number = inl refl }

  step-behind : (n : ℕ) (x : Status) → DoneOrStopped n → (x ≡ running → RunsOn rest) → RunsOn (going_on (stepped n x) rest)
  unfolding going_on step_counted ended_with stepped outcome_number
  step-behind n x (inl none) h = subst (λ (n : ℕ). RunsOn (going_on (stepped n x) rest)) (sym none) (done-behind x h)
  step-behind n x (inr halts) h = rw halts (record { unrefused = λ q. omega arith; number = inr halts })

-- a run behind a step that 16 turned down
refused_behind : (s : Stepped) (rest : Ran) → s.answer.number ≡ 16 → (going_on s rest).number ≡ 16
unfolding going_on ended_with stops_step
refused_behind s rest h = rw h

-- numbers fit their places, a string's length is a number, and p is a program that runs, with the scopes of its steps
module _ (e : Edition) (limit : e.limit < bias) (wide : longest_string ≤ e.limit) (p : Program) (runs : Runs e p) (scopes : HasScopes p)
    (input : List ℕ) (lent : ℕ) where
  -- what the machine holds is nested in these scopes
  abbrev Nests : State → Type 0
  Nests = NestedIn scopes.scope (Executes scopes.uses)

  -- before the first step, and behind each
  fresh_nests : Nests (fresh input)
  fresh_nests = fresh_nested scopes.scope (Executes scopes.uses) p scopes.scoped input

  step_nests : (c : State) → Nests c → Nests (step e p lent c).state
  step_nests c h = step_nested scopes.scope (Executes scopes.uses) p scopes.scoped e lent c h

  steps_nest : (k : ℕ) (c : State) → Nests c → Nests (state_after e p lent k c)
  unfolding state_after
  steps_nest zero c h = h
  steps_nest (suc k) c h = steps_nest k (step e p lent c).state (step_nests c h)

  -- Q15 never, Q16 once the run is over
  turned_down : (c : State) → Nests c → turned_down_by p c ≡ cond (is_running c.status) 0 16
  turned_down c h = nested_turned scopes.scope (Executes scopes.uses) p scopes.scoped c h

  -- a step in a run that is over
  step_over : (c : State) → turned_down_by p c ≡ 16 → (step e p lent c).answer.number ≡ 16
  step_over c h = ap (λ s. s.answer.number) (step-turned e p lent c (ap (λ n. eqb n 0) h)) ∙ h

  -- the number of a step
  step_goes : (c : State) → StateSound e p lent input c → Nests c → (x : Status) → c.status ≡ x → StepGoesOn x (step e p lent c).answer.number
  unfolding StepGoesOn is_running step
  step_goes c s h running is =
      let goes : turned_down_by p c ≡ 0 = turned_down c h ∙ ap (λ x. cond (is_running x) 0 16) is in
      let ended = next_sound e wide p runs lent input c s (returns_enough p c goes) in
      cond_cases (λ (x : Stepped). DoneOrStopped x.answer.number) (eqb (turned_down_by p c) 0)
      (λ _. concluded_goes c (execution e lent (statement_at p c.next) c) ended) (λ _. inl goes)
  step_goes c s h finished is = step_over c (turned_down c h ∙ ap (λ x. cond (is_running x) 0 16) is)
  step_goes c s h stopped is = step_over c (turned_down c h ∙ ap (λ x. cond (is_running x) 0 16) is)

  -- a run that goes on
  run_goes : (k : ℕ) (c : State) → StateSound e p lent input c → Nests c → c.status ≡ running → RunsOn (run e p lent k c)
  unfolding run ended_with StepGoesOn stepped outcome_number
  run_goes zero c s h is = record { unrefused = λ q. omega arith; number = inl refl }
  run_goes (suc k) c s h is =
      let next = (step e p lent c).state in
      let a = (step e p lent c).answer in
      step-behind a.notes a.scanned next.next next.returns next.memory next.input next.output (run e p lent k next)
      a.number next.status (step_goes c s h running is)
      (λ still. run_goes k next (step_sound e wide p runs lent input c s) (step_nests c h) still)

  -- the number of a run of some steps
  run_number : (k : ℕ) (c : State) → StateSound e p lent input c → Nests c → (x : Status) → c.status ≡ x
      → StepGoesOn x (run e p lent (suc k) c).number
  unfolding StepGoesOn run is_running
  run_number k c s h running is = (run_goes (suc k) c s h is).number
  run_number k c s h finished is = refused_behind (step e p lent c) _ (step_goes c s h finished is)
  run_number k c s h stopped is = refused_behind (step e p lent c) _ (step_goes c s h stopped is)

  -- the table holds the program, and the buffers b the machine c
  module _ (table : List ℕ) (t : Tabled e p table) where
    abbrev Before : State → Buffers → Type 0
    Before = Behind e limit wide p runs table input t lent

    given_status : (c : State) (b : Buffers) → Before c b → c.status ≡ status_of (get_or b.state 0 0)
    unfolding state_in
    given_status c b h = sym (ap (λ x. x.status) h.holds.given)

    step_call_goes : (c : State) (b : Buffers) → Before c b → Nests c → CallGoes (observed_step b (step_call e table input b))
    unfolding CallGoes
    step_call_goes c b h n =
        subst (StepGoesOn (status_of (get_or b.state 0 0))) (sym (call_numbers e limit wide p runs table input t lent c b h.holds).0)
        (step_goes c h.sound n _ (given_status c b h))

    run_call_goes : (count : ℕ) (c : State) (b : Buffers) → Before c b → Nests c
        → CallGoes (observed_run count b (returned (run_call e table input count b)))
    unfolding CallGoes returned result_numbers run run_call run_ended
    run_call_goes zero c b h n = refl
    run_call_goes (suc k) c b h n =
        let same = run-same e limit wide p runs table input t lent (suc k) c b h.sound h.holds in
        let status = given_status c b h in (
          subst (StepGoesOn (status_of (get_or b.state 0 0))) (sym same.number) (run_number k c h.sound n _ status),
          λ is refused. (run_goes (suc k) c h.sound n (status ∙ is)).unrefused (sym (ap outcome_number same.outcome) ∙ refused),
        )

    -- all calls of a list
    list_goes : (calls : List Observed) (c : State) (b z : Buffers) → Before c b → Nests c → Linked e table input b calls z
        → Each CallGoes calls
    unfolding Linked Each returned
    list_goes [] c b z h n linked = tt
    list_goes (observed_step given back ∷ calls) c b z h n linked =
        let here = subst (Before c) (sym linked.0) h in
        let next = behind-step e limit wide p runs table input t lent c given here in (
          subst (λ (x : StepCalled). CallGoes (observed_step given x)) (sym linked.1) (step_call_goes c given here n),
          list_goes calls (step e p lent c).state back.left z
              (subst (Before (step e p lent c).state) (sym (ap (λ x. x.left) linked.1)) next) (step_nests c n) linked.2,
        )
    list_goes (observed_run count given back ∷ calls) c b z h n linked =
        let here = subst (Before c) (sym linked.0) h in
        let tried = steps_tried back in
        let left_is : back.left ≡ buffers_after e table input tried given =
        subst (λ (x : RunReturned). x.left ≡ buffers_after e table input (steps_tried x) given) (sym linked.1)
        (run-left e table input count given) in
        let next = behind-steps e limit wide p runs table input t lent tried c given here in (
          subst (λ (x : RunReturned). CallGoes (observed_run count given x)) (sym linked.1) (run_call_goes count c given here n),
          list_goes calls (state_after e p lent tried c) back.left z
              (subst (Before (state_after e p lent tried c)) (sym left_is) next) (steps_nest tried c n) linked.2,
        )

-- numbers fit their places, and tables and string lengths their sizes
module _ (e : Edition) (limit : e.limit < bias) (wide : longest_string ≤ e.limit) (size : literals_at + 4096 ≤ e.table_size) where
  -- "A run of an accepted deck from a fresh start, with a large enough store, is never turned down: no 15, no REFUSED.": whatever the input,
  -- the output lent and the count of steps
  pub run_never_refused : (deck table store input output : List ℕ) (count : ℕ) → (read_call e deck table).number ≡ 0
      → store_size ≤ length store
      → (let r = run_call e (read_call e deck table).table input count (started_with store output) in
      (¬ (r.outcome ≡ REFUSED)) × DoneOrStopped r.number)
  unfolding fresh
  run_never_refused deck table store input output count read large =
      let l = read_loaded e limit wide size deck table read in
      let p = l.program in
      let lent = length output in
      let scopes = accepted_scoped e deck p l.accepts in
      let start = behind-start e limit wide p l.runs (read_call e deck table).table input l.tabled lent store output refl large in
      let goes = run_goes e limit wide p l.runs scopes input lent count (fresh input) start.sound
      (fresh_nests e limit wide p l.runs scopes input lent) refl in
      let same = run-same e limit wide p l.runs (read_call e deck table).table input l.tabled lent count (fresh input)
      (started_with store output) start.sound start.holds in
      (λ refused. goes.unrefused (ap outcome_number (sym same.outcome ∙ refused)), subst DoneOrStopped (sym same.number) goes.number)

  -- nor is a step of it, before the run is over; then 16 turns it down
  pub step_never_refused : (deck table store input output : List ℕ) (k : ℕ) → (read_call e deck table).number ≡ 0 → store_size ≤ length store
      → (let b = buffers_after e (read_call e deck table).table input k (started_with store output) in
      StepGoesOn (status_of (get_or b.state 0 0)) (step_call e (read_call e deck table).table input b).number)
  unfolding CallGoes
  step_never_refused deck table store input output k read large =
      let l = read_loaded e limit wide size deck table read in
      let p = l.program in
      let lent = length output in
      let table' = (read_call e deck table).table in
      let scopes = accepted_scoped e deck p l.accepts in
      let start = behind-start e limit wide p l.runs table' input l.tabled lent store output refl large in
      step_call_goes e limit wide p l.runs scopes input lent table' l.tabled (state_after e p lent k (fresh input))
      (buffers_after e table' input k (started_with store output))
      (behind-steps e limit wide p l.runs table' input l.tabled lent k (fresh input) (started_with store output) start)
      (steps_nest e limit wide p l.runs scopes input lent k (fresh input) (fresh_nests e limit wide p l.runs scopes input lent))

  -- nor is any call of a list from a fresh start
  pub calls_never_refused : (table input : List ℕ) (b : Buffers) (h : History e table input b) (call : Observed) (left : Buffers)
      → Linked e table input b (call ∷ []) left → store_size ≤ length h.store → Each CallGoes (h.calls ++ (call ∷ []))
  unfolding started_with
  calls_never_refused table input b h call left kept large =
      let l = history_loaded e limit wide size table input b h in
      let p = l.program in
      let lent = length h.output in
      let scopes = accepted_scoped e h.deck p l.accepts in
      let first : Buffers = record { store = h.start.store; state = h.start.state; output = h.output } in
      let started : first ≡ started_with h.store h.output =
      ap (λ x. record { store = x.store; state = x.state; output = h.output }) h.started in
      let start = behind-start e limit wide p l.runs table input l.tabled lent h.store h.output refl large in
      list_goes e limit wide p l.runs scopes input lent table l.tabled (h.calls ++ (call ∷ [])) (fresh input) first left
      (subst (Behind e limit wide p l.runs table input l.tabled lent (fresh input)) (sym started) start)
      (fresh_nests e limit wide p l.runs scopes input lent)
      (history_linked e limit wide size table input b h call left kept)
