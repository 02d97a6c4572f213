-- The laws of a run: the buffers that a step leaves may be given to the next, and each step brings the run's result nearer. Assumes nothing.
use Rattle.std.specs.Prelude.{true, false, Result, Ok, Err, List, ◌≡◌, refl, ℕ, suc, ◌+◌, ◌*◌, ◌-◌, ◌≤◌, ◌<◌, eqb, length, replicate}
use Rattle.std.proofs.Common.{sym, ◌∙◌, subst}
use Rattle.std.proofs.Math.Path.{ap}
use native.Mathlib.Omega.{arith}
use Rattle.std.proofs.Math.ListN.{get_or}
use borrow.Author.Tests.{le-ltb, lt-ltb}
use Rattle.base.specs.Current.{current}
use Rattle.encoding.specs.Buffers.{state_keeps}
use Rattle.calls.specs.Calls.{Buffers, StepCalled, RunCalled, step_call, run_call, run_behind, run_ended, run_with_step}
use Rattle.encoding.specs.Conditions.{current-limit, current_wide}
use Rattle.calls.specs.StopLaws.{passed_holds}
use Rattle.encoding.specs.TableReading.{program_in}
use Rattle.values.specs.Result.{stops_step}
use Rattle.values.specs.ResultLaws.{zero_unstopped}
use Rattle.values.specs.Stops.{stop_number, stop_number_stops}
use Rattle.interpreter.specs.declared.Halt.{Halt}
use Rattle.interpreter.specs.declared.Halt.TheVariants as halts
use Rattle.interpreter.specs.declared.Refusal.{Refusal}
use Rattle.values.specs.declared.Stop.{Stop}
use Rattle.interpreter.specs.Endings.{halted, refusal_number, refusal_some, refusal_unstops, step_number, step_notes}
use Rattle.interpreter.specs.declared.run.Outcome.TheVariants.{Finished, Stopped, Spent, Refused}
use Rattle.interpreter.specs.Clauses.{StepAnswers, StepTaken, Given, RunAnswers}
use Rattle.interpreter.specs.Laws.{tabled}

-- the buffers that a step leaves may be given to the next
pub given_next : {table input : List ℕ} {b : Buffers} → Given table input b → Given table input (step_call current table input b).left
unfolding current
given_next {table} {input} {b} g =
    let left = passed_holds current table input b current-limit current_wide g.size (tabled g) g.store_good_lem g.range in
    record {
      bytes = g.bytes;
      keeps = g.keeps;
      store_good_lem = left.store_good;
      size = left.state_length;
      range =
          ap (λ (n : ℕ). state_keeps current (length (program_in table).steps) (length input) n (step_call current table input b).left.state) left.output_length
          ∙ left.state_good;
    }

-- a run with steps and notes made before it
abbrev pub added : ℕ → ℕ → RunCalled → RunCalled
added steps notes r =
    record {
      outcome = r.outcome;
      number = r.number;
      steps = steps + r.steps;
      notes = notes + r.notes;
      left = r.left;
    }

-- nothing was made before it
added_none : (r : RunCalled) → r ≡ added 0 0 r
added_none r =
    let steps : r.steps ≡ 0 + r.steps = omega arith in
    let notes : r.notes ≡ 0 + r.notes = omega arith in
    λ i. record { outcome = r.outcome; number = r.number; steps = steps i; notes = notes i; left = r.left }

-- a step that was made or not, and what it gave
module _ (table input : List ℕ) (b : Buffers) {number : ℕ} {answer : List ℕ} {left : Buffers}
    (a : StepAnswers (step_call current table input b) number answer left) (steps notes k : ℕ) where
  -- the run that begins with it
  abbrev whole : RunCalled
  whole = added steps notes (run_call current table input (suc k) b)

  -- the step by what it gave
  called : step_call current table input b ≡ record { number = number; answer = answer; left = left }
  called = λ i. record { number = sym a.number_is i; answer = sym a.answer_is i; left = sym a.left_is i }

  begun : whole
      ≡ added steps notes (run_behind (record { number = number; answer = answer; left = left }) (run_call current table input k left))
  unfolding run_call
  begun = ap (λ (s : StepCalled). added steps notes (run_behind s (run_call current table input k s.left))) called

  -- it was stopped
  pub run_stopped : (s : Stop) → number ≡ stop_number s
      → RunAnswers (added steps notes (run_call current table input (suc k) b))
      (record { outcome = Stopped s; steps = steps + 1; notes = notes + get_or answer 3 0 }) left
  unfolding run_behind run_with_step run_ended
  run_stopped s e =
      let notes-only : notes + get_or answer 3 0 ≡ notes + (get_or answer 3 0 + 0) = omega arith in
      rw (begun, ap stops_step e ∙ stop_number_stops s)
      (record { outcome_is = refl; number_is = sym e; steps_are = refl; notes_are = notes-only; left_is = refl })

  -- it was turned down
  pub run_refused : (refusal : Refusal) → number ≡ refusal_number refusal
      → RunAnswers (added steps notes (run_call current table input (suc k) b))
      (record { outcome = Refused refusal; steps = steps; notes = notes }) left
  unfolding run_behind run_ended
  run_refused refusal e =
      let same-steps : steps ≡ steps + 0 = omega arith in
      let same-notes : notes ≡ notes + 0 = omega arith in
      rw (begun, ap stops_step e ∙ refusal_unstops refusal, lt-ltb 0 number (omega (arith, refusal_some refusal)))
      (record { outcome_is = refl; number_is = sym e; steps_are = same-steps; notes_are = same-notes; left_is = refl })

  -- it finished
  pub run_finished : number ≡ 0 → eqb (get_or left.state 0 0) 1 ≡ true
      → RunAnswers (added steps notes (run_call current table input (suc k) b))
      (record { outcome = Finished; steps = steps + 1; notes = notes + get_or answer 3 0 }) left
  unfolding run_behind run_with_step run_ended
  run_finished none ends =
      let notes-only : notes + get_or answer 3 0 ≡ notes + (get_or answer 3 0 + 0) = omega arith in
      rw (begun, zero_unstopped none, le-ltb 0 number (omega arith), ends)
      (record { outcome_is = refl; number_is = refl; steps_are = refl; notes_are = notes-only; left_is = refl })

  -- the run goes on
  pub run_goes : number ≡ 0 → eqb (get_or left.state 0 0) 1 ≡ false
      → added steps notes (run_call current table input (suc k) b)
      ≡ added (steps + 1) (notes + get_or answer 3 0) (run_call current table input k left)
  unfolding run_behind run_with_step
  run_goes none more =
      let rest = run_call current table input k left in
      let count : steps + (1 + rest.steps) ≡ steps + 1 + rest.steps = omega arith in
      let all-notes : notes + (get_or answer 3 0 + rest.notes) ≡ notes + get_or answer 3 0 + rest.notes = omega arith in
      begun
      ∙ rw (zero_unstopped none, le-ltb 0 number (omega arith), more)
      (λ i. record { outcome = rest.outcome; number = rest.number; steps = count i; notes = all-notes i; left = left_of_lem rest })
    where
      left_of_lem : RunCalled → Buffers
      left_of_lem r = r.left

-- all steps are made
run_spent : (table input : List ℕ) (b : Buffers) (steps notes : ℕ)
    → RunAnswers (added steps notes (run_call current table input 0 b)) (record { outcome = Spent; steps = steps; notes = notes }) b
unfolding run_call run_ended
run_spent table input b steps notes =
    let same-steps : steps ≡ steps + 0 = omega arith in
    let same-notes : notes ≡ notes + 0 = omega arith in
    record { outcome_is = refl; number_is = refl; steps_are = same-steps; notes_are = same-notes; left_is = refl }

-- what is left of a run once some steps are made: count steps on the buffers first, and so many made, with notes, up to the buffers b
pub record Repeats (table input : List ℕ) (first : Buffers) (count steps notes : ℕ) (b : Buffers) : Type 0 where
  pub most : steps ≤ count
  pub few : notes ≤ steps * 4_294_967_295
  pub given : Given table input b
  pub run : run_call current table input count first ≡ added steps notes (run_call current table input (count - steps) b)

pub repeats_none : (table input : List ℕ) (b : Buffers) (count : ℕ) → Given table input b → Repeats table input b count 0 0 b
repeats_none table input b count g =
    let all_left : count ≡ count - 0 = omega arith in
    record {
      most = omega arith;
      few = omega arith;
      given = g;
      run = added_none (run_call current table input count b) ∙ ap (λ (n : ℕ). added 0 0 (run_call current table input n b)) all_left;
    }

-- of a run of one step: before it the buffers are those that were given, behind it the answer is the step's
pub record Alone (table input : List ℕ) (first : Buffers) (steps : ℕ) (answer : List ℕ) (b : Buffers) : Type 0 where
  pub none : steps ≡ 0 → b ≡ first
  pub one : steps ≡ 1 → StepAnswers (step_call current table input first) 0 answer b

pub alone_none : (table input : List ℕ) (b : Buffers) (answer : List ℕ) → Alone table input b 0 answer b
alone_none table input b answer = record { none = λ _. refl; one = λ e. absurd (omega (arith, e)) }

module _ {table input : List ℕ} {first : Buffers} {steps : ℕ} {answer : List ℕ} {b : Buffers} (r : Alone table input first steps answer b) where
  -- the step that is made next
  module _ {number : ℕ} {answer' : List ℕ} {left : Buffers} (a : StepAnswers (step_call current table input b) number answer' left) where
    first-answers : steps ≡ 0 → {n : ℕ} → n ≡ number → StepAnswers (step_call current table input first) n answer' left
    first-answers e {n} is =
        subst (λ (c : Buffers). StepAnswers (step_call current table input c) n answer' left) (r.none e)
        (record { number_is = is ∙ a.number_is; answer_is = a.answer_is; left_is = a.left_is })

    pub alone_ends : {count : ℕ} → steps < count → {n : ℕ} → n ≡ number → count ≡ 1
        → StepAnswers (step_call current table input first) n answer' left
    alone_ends below is one = first-answers (omega (arith, below, one)) is

    pub alone_more : number ≡ 0 → Alone table input first (steps + 1) answer' left
    alone_more zero =
        record {
          none = λ e. absurd (omega (arith, e));
          one = λ e. first-answers (omega (arith, e)) (sym zero);
        }

  -- no step is left
  pub alone_spent : {count : ℕ} → steps ≤ count → (steps < count → ⊥) → {n : ℕ} → n ≡ 0 → count ≡ 1
      → StepAnswers (step_call current table input first) n answer b
  alone_spent most above is one =
      let a = r.one (omega (arith, most, above, one)) in
      record { number_is = is ∙ a.number_is; answer_is = a.answer_is; left_is = a.left_is }

-- a step more
module _ {table input : List ℕ} {first : Buffers} {count steps notes : ℕ} {b : Buffers} (r : Repeats table input first count steps notes b)
    {given : Result ℕ Halt} {answer : List ℕ} {left : Buffers} (a : StepTaken (step_call current table input b) given answer left)
    (below : steps < count) where
  next-run : run_call current table input count first ≡ added steps notes (run_call current table input (suc (count - (steps + 1))) b)
  next-run =
      let one_less : count - steps ≡ suc (count - (steps + 1)) = omega arith in
      r.run ∙ ap (λ (n : ℕ). added steps notes (run_call current table input n b)) one_less

  abbrev whole-run : RunCalled
  whole-run = added steps notes (run_call current table input (suc (count - (steps + 1))) b)

  -- the step, by what it gave
  numbered : {n : ℕ} → step_number given ≡ n → StepAnswers (step_call current table input b) n answer left
  numbered e = subst (λ (n : ℕ). StepAnswers (step_call current table input b) n answer left) e a.answers

  pub repeats_halted : (h : Halt) → given ≡ Err h → RunAnswers (run_call current table input count first) (halted h steps notes) left
  repeats_halted (halts.Stopped s) e =
      let none : notes + get_or answer 3 0 ≡ notes = omega (arith, a.notes_are ∙ ap step_notes e) in
      rw next-run
      (subst (λ (n : ℕ). RunAnswers whole-run (record { outcome = Stopped s; steps = steps + 1; notes = n }) left) none
      (run_stopped table input b (numbered (ap step_number e)) steps notes (count - (steps + 1)) s refl))
  repeats_halted (halts.Refused refusal) e =
      rw next-run
      (run_refused table input b (numbered (ap step_number e)) steps notes (count - (steps + 1)) refusal refl)

  pub repeats_finished : {more : ℕ} → given ≡ Ok more → eqb (get_or left.state 0 0) 1 ≡ true
      → RunAnswers (run_call current table input count first)
      (record { outcome = Finished; steps = steps + 1; notes = notes + more }) left
  repeats_finished {more} e ends =
      rw next-run
      (subst (λ (n : ℕ). RunAnswers whole-run (record { outcome = Finished; steps = steps + 1; notes = notes + n }) left)
      (a.notes_are ∙ ap step_notes e)
      (run_finished table input b a.answers steps notes (count - (steps + 1)) (ap step_number e) ends))

  pub repeats_more : {more : ℕ} → given ≡ Ok more → eqb (get_or left.state 0 0) 1 ≡ false → more < 4_294_967_296
      → Repeats table input first count (steps + 1) (notes + more) left
  repeats_more {more} e goes small =
      let told : get_or answer 3 0 ≡ more = a.notes_are ∙ ap step_notes e in
      record {
        most = omega arith;
        few = omega (arith, r.few);
        given = subst (Given table input) (sym a.answers.left_is) (given_next r.given);
        run =
            next-run
            ∙ run_goes table input b a.answers steps notes (count - (steps + 1)) (ap step_number e) goes
            ∙ ap (λ (n : ℕ). added (steps + 1) (notes + n) (run_call current table input (count - (steps + 1)) left)) told;
      }

pub repeats_spent : {table input : List ℕ} {first : Buffers} {count steps notes : ℕ} {b : Buffers}
    → Repeats table input first count steps notes b → count ≤ steps
    → RunAnswers (run_call current table input count first) (record { outcome = Spent; steps = steps; notes = notes }) b
repeats_spent {table} {input} {first} {count} {steps} {notes} {b} r h =
    let none_left : count - steps ≡ 0 = omega arith in
    rw (r.run, none_left) (run_spent table input b steps notes)

-- so it has made as many steps as it was asked for
pub repeats_all : {table input : List ℕ} {first : Buffers} {count steps notes : ℕ} {b : Buffers}
    → Repeats table input first count steps notes b → steps ≡ count
    → RunAnswers (run_call current table input count first) (record { outcome = Spent; steps = count; notes = notes }) b
repeats_all {table} {input} {first} {count} {notes = notes} {b = b} r all =
    subst (λ (n : ℕ). RunAnswers (run_call current table input count first) (record { outcome = Spent; steps = n; notes = notes }) b) all
    (repeats_spent r (omega (arith, all)))

-- the first step is refused before it is made
pub unfit_run : (table input : List ℕ) (b : Buffers) (refusal : Refusal)
    → StepAnswers (step_call current table input b) (refusal_number refusal) (replicate 24 0) b → (count : ℕ) → 0 < count
    → RunAnswers (run_call current table input count b) (record { outcome = Refused refusal; steps = 0; notes = 0 }) b
unfit_run table input b refusal a count some =
    let one_less : count ≡ suc (count - 1) = omega arith in
    rw (one_less, added_none (run_call current table input (suc (count - 1)) b)) (run_refused table input b a 0 0 (count - 1) refusal refl)

-- no step is asked for
pub steps_none : (table input : List ℕ) (b : Buffers) (count : ℕ) → count ≡ 0
    → RunAnswers (run_call current table input count b) (record { outcome = Spent; steps = 0; notes = 0 }) b
steps_none table input b count e = rw (e, added_none (run_call current table input 0 b)) (run_spent table input b 0 0)
