-- What the calls promise: each is an equation with its definition, and what a customer is to know of it, for whatever is lent. (The scan
-- call's promise is in scanning's Call.) Assumes nothing.
use Rattle.std.specs.Prelude.{true, false, List, ◌≡◌, ℕ, suc, ◌≤◌, ◌<◌, drop, get_or}
use Rattle.base.specs.Edition.{Edition}
use Rattle.validation.specs.Deck.{accepted, judge}
use Rattle.machine.specs.Costs.{StepWithin}
use Rattle.machine.specs.State.{stopped}
use Rattle.scanning.specs.Call.{no_answer, trials_in}
use Rattle.scanning.specs.Costs.{TrialsWithin}
use Rattle.values.specs.Result.{stops_step}
use Rattle.encoding.specs.Buffers.{status_number}
use Rattle.calls.specs.Calls.{ReadCalled, read_call, StartCalled, start_call, Buffers, StepCalled, step_call, buffers_after}
use Rattle.calls.specs.Calls.{RunReturned, returned, run_call}
use Rattle.calls.specs.Costs.{steps_size, size_given, trials_after}
use Rattle.calls.specs.Demands.{Demand3, History, observed_run, observed_step, steps_tried}
use Rattle.encoding.specs.Rules.{keeps_rules}
use Rattle.encoding.specs.TableReading.{program_in}

-- what came back from a call, by its parts
abbrev pub read_back : (number card : ℕ) (table : List ℕ) → ReadCalled
read_back number card table = record { number = number; card = card; table = table }

abbrev pub start_back : (number : ℕ) (store state : List ℕ) → StartCalled
start_back number store state = record { number = number; store = store; state = state }

abbrev pub step_back : (number : ℕ) (answer : List ℕ) (left : Buffers) → StepCalled
step_back number answer left = record { number = number; answer = answer; left = left }

abbrev pub run_back : (number : ℕ) (result : List ℕ) (left : Buffers) → RunReturned
run_back number result left = record { number = number; result = result; left = left }

-- R14 "the promise says which program it holds", Q13: the deck is accepted, the table keeps its rules, and the deck's program is in it
pub record HoldsProgram (e : Edition) (deck table : List ℕ) : Type 0 where
  pub accepts : judge e deck ≡ accepted (program_in table)
  pub keeps : keeps_rules e table ≡ true

-- the deck call, given a deck and a table
pub record ReadPromise (e : Edition) (deck table : List ℕ) (back : ReadCalled) : Type 0 where
  pub does : back ≡ read_call e deck table
  pub holds : back.number ≡ 0 → HoldsProgram e deck back.table

-- the starting call, given a store
pub record StartPromise (store : List ℕ) (back : StartCalled) : Type 0 where
  pub does : back ≡ start_call store

-- Demand 1 "a refused or stopped step leaves store, numbers, input place and output as before it": of a step given b, by its number
pub record Keeps (b : Buffers) (number : ℕ) (left : Buffers) : Type 0 where
  pub store : ¬ (number ≡ 0) → left.store ≡ b.store
  -- all numbers of the state but the status
  pub state : ¬ (number ≡ 0) → drop 1 left.state ≡ drop 1 b.state
  pub output : ¬ (number ≡ 0) → left.output ≡ b.output
  -- D5 "A step turned down by 2 or 13 to 16 hands its state back unchanged"; Q17 "17 to 21 mark the state stopped, no more"
  pub handed_back : 0 < number → stops_step number ≡ false → left ≡ b
  pub marked : stops_step number ≡ true → get_or left.state 0 0 ≡ status_number stopped

-- the step call, given the buffers b
pub record StepPromise (e : Edition) (table input : List ℕ) (b : Buffers) (back : StepCalled) : Type 0 where
  -- demands 1 and 2: the number, all numbers of the answer, and every byte and number left
  pub does : back ≡ step_call e table input b
  pub keeps : Keeps b back.number back.left
  -- V12 "0 if stopped or turned down", V13 "no split and 0 trials"
  pub silent : ¬ (back.number ≡ 0) → back.answer ≡ no_answer
  -- demand 3, of every list of calls from a fresh start that ends with this one
  pub list : (h : History e table input b) → Demand3 e table input h (observed_step b back)
  -- W8.2 "the trials carried in the answer never exceed m × (n + 1), for success and failure alike, forward and back": m and n of the scan that the
  -- step is given; 0 where it holds none. (Stopped or turned down it has 0 as well: silent.)
  pub trials : StepWithin (size_given e table input b) (trials_in back.answer)
  -- W8.2 of whatever it is given: at most 20 × 1,025, so k steps one by one have at most k × 20 × 1,025
  pub most : TrialsWithin (steps_size 1) (trials_in back.answer)

-- the run call, given a count of steps and the buffers b
pub record RunPromise (e : Edition) (table input : List ℕ) (count : ℕ) (b : Buffers) (back : RunReturned) : Type 0 where
  pub does : back ≡ returned (run_call e table input count b)
  -- of the step that was refused or stopped: the last of those tried, given what the k before it left
  pub keeps : ¬ (back.number ≡ 0)
      → (k : ℕ) × (steps_tried back ≡ suc k) × Keeps (buffers_after e table input k b) back.number back.left
  pub list : (h : History e table input b) → Demand3 e table input h (observed_run count b back)
  -- it tries no more steps than its count
  pub tried : steps_tried back ≤ count
  -- W8.2 of these steps together, k of them: at most k × 20 × 1,025 trials. A run's result has no trials; they are those of the answers that the
  -- definition of a step gives.
  pub trials : TrialsWithin (steps_size (steps_tried back)) (trials_after e table input (steps_tried back) b)
