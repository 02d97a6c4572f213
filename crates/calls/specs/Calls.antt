-- Document 01, "What is turned down, and its number": what each open call answers and leaves in every buffer, for all inputs. Refusals
-- come first, the lowest number first. (The scan call is in scanning's Call.) Assumes nothing.
use Rattle.std.specs.Prelude.{Bool, cond, not, List, [], ◌∷◌, ◌++◌, ℕ, zero, suc, ◌+◌, ltb, eqb, length, drop, get_or, replicate}
use Rattle.base.specs.Edition.{Edition}
use Rattle.base.specs.Limits.{longest_deck}
use Rattle.validation.specs.Deck.{Judgement, accepted, refused, judge}
use Rattle.machine.specs.Run.{Outcome, FINISHED, STOPPED, SPENT, REFUSED}
use Rattle.machine.specs.State.{State}
use Rattle.machine.specs.Step.{Stepped, step, turned_down_by}
use Rattle.scanning.specs.Call.{answer_numbers, no_answer}
use Rattle.values.specs.Result.{stops_step}
use Rattle.encoding.specs.Buffers.{store_size, store_keeps, state_keeps, state_in, store_left, state_left, output_left, first_state}
use Rattle.encoding.specs.Rules.{keeps_rules}
use Rattle.encoding.specs.Table.{image}
use Rattle.encoding.specs.TableReading.{program_in}

-- the deck call: number, card, and the table left
pub record ReadCalled : Type 0 where
  pub number : ℕ
  pub card : ℕ
  pub table : List ℕ

-- R14 "bytes past the fixed size stay"; Q2 "(3 to 12 zero those bytes.)"
unfoldable pub read_judged : Edition → List ℕ → Judgement → ReadCalled
read_judged e table (accepted p) = record { number = 0; card = 0; table = image e p ++ drop e.table_size table }
read_judged e table (refused n card) =
    record { number = n; card = card; table = replicate e.table_size 0 ++ drop e.table_size table }

-- the deck call, by how its two sizes and its deck come out
abbrev pub read_by : Edition → List ℕ → (long short : Bool) → Judgement → ReadCalled
read_by e table long short j =
    cond long (record { number = 1; card = 0; table = table })
    (cond short (record { number = 2; card = 0; table = table })
    (read_judged e table j))

unfoldable pub read_call : Edition → (deck table : List ℕ) → ReadCalled
read_call e deck table = read_by e table (ltb longest_deck (length deck)) (ltb (length table) e.table_size) (judge e deck)

-- the starting call: number, and the store and state left
pub record StartCalled : Type 0 where
  pub number : ℕ
  pub store : List ℕ
  pub state : List ℕ

-- R13 "Starting looks only at the store's size, zeroes these 32,832 bytes and gives the state before the first step; a store too small
-- stays and gets 14 with that state."
unfoldable pub start_call : (store : List ℕ) → StartCalled
start_call store =
    cond (ltb (length store) store_size)
    (record { number = 14; store = store; state = first_state })
    (record { number = 0; store = replicate store_size 0 ++ drop store_size store; state = first_state })

-- what steps write: the store, the state, the output
pub record Buffers : Type 0 where
  pub store : List ℕ
  pub state : List ℕ
  pub output : List ℕ

abbrev pub buffers : (store state output : List ℕ) → Buffers
buffers store state output = record { store = store; state = state; output = output }

-- what is left in buffers of a machine
abbrev pub left_of : List ℕ → Buffers → State → Buffers
left_of input b c =
    record {
      store = store_left b.store c;
      state = state_left b.state input c;
      output = output_left b.output c;
    }

-- the step call: number, the numbers of the answer, and the buffers left
pub record StepCalled : Type 0 where
  pub number : ℕ
  pub answer : List ℕ
  pub left : Buffers

module _ (e : Edition) (table input : List ℕ) where
  -- what the machine holds when a step is given these buffers
  unfoldable pub given_in : Buffers → State
  given_in b = state_in b.store b.state input b.output

  unfoldable pub out_of_range : Buffers → Bool
  out_of_range b = not (state_keeps e (length (program_in table).steps) (length input) (length b.output) b.state)

  -- 2 and 13 to 16, the lowest first, or 0
  unfoldable pub step_refusal : Buffers → ℕ
  step_refusal b =
      cond (ltb (length table) e.table_size) 2
      (cond (not (keeps_rules e table)) 13
      (cond (not (store_keeps b.store)) 14
      (cond (out_of_range b) 15
      (turned_down_by (program_in table) (given_in b)))))

  unfoldable pub step_done : Buffers → Stepped → StepCalled
  step_done b s =
      record {
        number = s.answer.number;
        answer = answer_numbers s.answer.notes s.answer.scanned;
        left = left_of input b s.state;
      }

  -- D5 "A step turned down by 2 or 13 to 16 hands its state back unchanged"
  unfoldable pub step_call : Buffers → StepCalled
  step_call b =
      cond (eqb (step_refusal b) 0)
      (step_done b (step e (program_in table) (length b.output) (given_in b)))
      (record { number = step_refusal b; answer = no_answer; left = b })

  -- R8 the buffers behind k steps, each given all that the last one left
  unfoldable pub buffers_after : ℕ → Buffers → Buffers
  buffers_after zero b = b
  buffers_after (suc k) b = buffers_after k (step_call b).left

-- the run call: how it ended, the number, the steps done, their notes, and the buffers left
pub record RunCalled : Type 0 where
  pub outcome : Outcome
  pub number : ℕ
  pub steps : ℕ
  pub notes : ℕ
  pub left : Buffers

unfoldable pub outcome_number : Outcome → ℕ
outcome_number FINISHED = 0
outcome_number STOPPED = 1
outcome_number SPENT = 2
outcome_number REFUSED = 3

-- the result's numbers
unfoldable pub result_numbers : Outcome → (number steps notes : ℕ) → List ℕ
result_numbers o number steps notes = outcome_number o ∷ (number ∷ (steps ∷ (notes ∷ [])))

-- what the call gives back: its number, the numbers of its result, and the buffers left
pub record RunReturned : Type 0 where
  pub number : ℕ
  pub result : List ℕ
  pub left : Buffers

unfoldable pub returned : RunCalled → RunReturned
returned r =
    record {
      number = r.number;
      result = result_numbers r.outcome r.number r.steps r.notes;
      left = r.left;
    }

unfoldable pub run_ended : Outcome → ℕ → Buffers → RunCalled
run_ended o n b = record { outcome = o; number = n; steps = 0; notes = 0; left = b }

-- R6 "A finishing or stopping step counts as done, one turned down doesn't."; the answer has its notes at place 3 (scanning/Call: split_numbers)
unfoldable pub run_with_step : StepCalled → RunCalled → RunCalled
run_with_step s r =
    record {
      outcome = r.outcome;
      number = r.number;
      steps = 1 + r.steps;
      notes = get_or s.answer 3 0 + r.notes;
      left = r.left;
    }

-- A run behind a step, from how the step ended and what the rest of the run would come to: 17 to 21 stopped it; any other number but 0, so 2 or
-- 13 to 16, turned it down; with 0 the state's first number tells its status, and 1 is finished (encoding/Buffers: status_number).
unfoldable pub run_behind : StepCalled → RunCalled → RunCalled
run_behind s rest =
    cond (stops_step s.number) (run_with_step s (run_ended STOPPED s.number s.left))
    (cond (ltb 0 s.number) (run_ended REFUSED s.number s.left)
    (cond (eqb (get_or s.left.state 0 0) 1) (run_with_step s (run_ended FINISHED 0 s.left))
    (run_with_step s rest)))

-- R5 "A run of k steps repeats the step until one finishes, stops or is turned down, else k are done ("spent")."
unfoldable pub run_call : Edition → (table input : List ℕ) → ℕ → Buffers → RunCalled
run_call e table input zero b = run_ended SPENT 0 b
run_call e table input (suc k) b =
    let s = step_call e table input b in
    let rest = run_call e table input k s.left in
    run_behind s rest
