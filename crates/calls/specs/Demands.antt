-- The customer's third demand as one statement about lists of calls, each with what it was given and what came back. (Demands 1 and 2 are the
-- calls' equations, in Calls, and what a refused or stopped step keeps, in Promises.) Assumes nothing.
use Rattle.std.specs.Prelude.{cond, List, [], ◌∷◌, ◌++◌, map, ◌⊎◌, ◌≡◌, ℕ, zero, suc, ◌+◌, ◌≤◌, ◌<◌, eqb, length, drop, get_or}
use Rattle.std.proofs.Math.Option.{Option, none, some}
use Rattle.base.specs.Edition.{Edition}
use Rattle.validation.specs.Deck.{accepted, judge}
use Rattle.syntax.specs.Program as Program
use Rattle.syntax.specs.Program.{Part, PatternElement, value, free_filler, fixed_filler, Direction, Branch, Program}
use Rattle.machine.specs.Run.{REFUSED, SPENT, state_after, run}
use Rattle.machine.specs.Scanning.{Searched, searched_in, turned, Valued, pattern_in, without_fillers, naming, replacing}
use Rattle.machine.specs.State.{Memory, State, string_at, fresh}
use Rattle.machine.specs.Step.{statement_at, step}
use Rattle.scanning.specs.Call.{answer_numbers, no_answer, split_in}
use Rattle.scanning.specs.Splits.{Split, AnswersFirstFit}
use Rattle.values.specs.Result.{done}
use Rattle.encoding.specs.Buffers.{store_size}
use Rattle.calls.specs.Calls.{read_call, StartCalled, start_call, Buffers, StepCalled, given_in, step_call, buffers_after}
use Rattle.calls.specs.Calls.{RunReturned, outcome_number, result_numbers, returned, run_ended, run_call}
use Rattle.encoding.specs.Rules.{place_of}
use Rattle.encoding.specs.TableReading.{program_in}

-- "The fillers and the reference that it leaves are those that document 01's naming and replacement make from the first fit": left is the
-- memory that naming and replacement make of m, the memory given; after a failure, m with its fillers made null
unfoldable pub LeftBy : Edition → Memory → Direction → List PatternElement → Option (List Program.Element) → Searched → List Valued
    → Option Split → Memory → Type 0
LeftBy e m d xs r x vs none left = left ≡ without_fillers xs m
LeftBy e m d xs r x vs (some s) left =
    (notes : ℕ)
    × (replacing e d x s r (naming vs (drop s.start (turned d x.reference)) s.lengths (without_fillers xs m)) ≡ done left notes)

-- A SCAN or BACKSCAN step that is neither stopped nor turned down, with the answer and the memory it left: the reference and the
-- pattern that the paper makes of the memory given; it "fails exactly when no split fits. Otherwise it answers the first fit"; and what is left.
pub record ScanClaim (e : Edition) (m : Memory) (d : Direction) (p : Part) (xs : List PatternElement) (r : Option (List Program.Element)) (answer : List ℕ) (left : Memory) : Type 0 where
  pub searched : Searched
  pub searched_notes : ℕ
  pub is_searched : searched_in m d p ≡ done searched searched_notes
  pub valued : List Valued
  pub valued_notes : ℕ
  pub is_valued : pattern_in e m xs ≡ done valued valued_notes
  pub first_fit : AnswersFirstFit (map (λ v. v.element) valued) (turned d searched.reference) (split_in (length valued) answer)
  pub leaves : LeftBy e m d xs r searched valued (split_in (length valued) answer) left

-- the string of this place is a filler of the pattern
unfoldable pub IsFiller : ℕ → List PatternElement → Type 0
IsFiller s [] = ⊥
IsFiller s (value x ∷ xs) = IsFiller s xs
IsFiller s (free_filler t ∷ xs) = (s ≡ t) ⊎ IsFiller s xs
IsFiller s (fixed_filler t n ∷ xs) = (s ≡ t) ⊎ IsFiller s xs

-- "after a failure the fillers are null and the reference is as before": of a scan of q by the pattern xs, given the memory m
pub record Fails (m : Memory) (q : Part) (xs : List PatternElement) (left : Memory) : Type 0 where
  pub fillers : (s : ℕ) → IsFiller s xs → string_at left s ≡ []
  pub reference : string_at left (place_of q) ≡ string_at m (place_of q)

-- A call as it was observed: what it was given, and what came back.
pub data Observed : Type 0 where
  observed_step : (given : Buffers) (back : StepCalled) → Observed
  observed_run : (count : ℕ) (given : Buffers) (back : RunReturned) → Observed

-- how many steps a run tried: those done and, R6 "one turned down doesn't" count as done, the one that was turned down
unfoldable pub steps_tried : RunReturned → ℕ
steps_tried back = get_or back.result 2 0 + cond (eqb (get_or back.result 0 0) (outcome_number REFUSED)) 1 0

-- The program p, a deck's or what a sound table holds, that table, the input, and the length of the output lent.
module _ (e : Edition) (p : Program) (table input : List ℕ) (lent : ℕ) where
  -- What a step is to satisfy: c is what the paper makes of deck, input and output before it, b what the step was given, back its number, its
  -- answer and what it left.
  pub record StepClaim (c : State) (b : Buffers) (back : StepCalled) : Type 0 where
    -- it is done, stopped or turned down as the paper's machine is, with its number and its answer
    pub number : back.number ≡ (step e p lent c).answer.number
    pub answer : (let a = (step e p lent c).answer in back.answer ≡ answer_numbers a.notes a.scanned)
    -- R9 "The statement that each step not turned down carries out, and the strings and numbers it is given, are those that this paper makes of
    -- the deck, the input and the output lent."
    pub statement : statement_at (program_in table) (get_or b.state 1 0) ≡ statement_at p c.next
    pub given : given_in e table input b ≡ c
    -- each SCAN and BACKSCAN step that is neither stopped nor turned down
    pub scans : (d : Direction) (q : Part) (xs : List PatternElement) (r : Option (List Program.Element)) (f : Branch)
        → statement_at p c.next ≡ Program.scan d q xs r f
        → back.number ≡ 0
        → ScanClaim e c.memory d q xs r back.answer (given_in e table input back.left).memory
    -- each such step that answers no split
    pub failure : (d : Direction) (q : Part) (xs : List PatternElement) (r : Option (List Program.Element)) (f : Branch)
        → statement_at p c.next ≡ Program.scan d q xs r f
        → back.number ≡ 0
        → get_or back.answer 0 0 ≡ 0
        → Fails c.memory q xs (given_in e table input back.left).memory
    -- what it leaves is what the paper's machine leaves, and the state tells how much is put
    pub leaves : given_in e table input back.left ≡ (step e p lent c).state
    pub written : get_or back.left.state 4 0 ≡ length (step e p lent c).state.output

  -- What a run of count steps is to satisfy, likewise. A run tells nothing of a single step, so numbers, answers and what is left in between are
  -- those that the definition of a step gives.
  pub record RunClaim (count : ℕ) (c : State) (b : Buffers) (back : RunReturned) : Type 0 where
    pub number : back.number ≡ get_or back.result 1 0
    -- outcome, number, steps done and notes are those of the paper's run
    pub result : (let r = run e p lent count c in back.result ≡ result_numbers r.outcome r.number r.steps r.notes)
    -- each step that it tried is as claimed, given all that the one before left
    pub steps : (k : ℕ) → k < steps_tried back
        → (let given = buffers_after e table input k b in StepClaim (state_after e p lent k c) given (step_call e table input given))
    -- what it leaves is what they leave, and what the paper's machine leaves behind its run
    pub left_is : back.left ≡ buffers_after e table input (steps_tried back) b
    pub leaves : given_in e table input back.left ≡ (run e p lent count c).state
    pub written : get_or back.left.state 4 0 ≡ length (run e p lent count c).state.output

  -- R10 "It is one claim about the list": of all calls, the paper's machine going on from one to the next by the steps that were tried
  unfoldable pub ListClaim : List Observed → State → Type 0
  ListClaim [] c = Unit {0}
  ListClaim (observed_step b back ∷ calls) c = StepClaim c b back × ListClaim calls (step e p lent c).state
  ListClaim (observed_run count b back ∷ calls) c = RunClaim count c b back × ListClaim calls (state_after e p lent (steps_tried back) c)

-- R13 "a store too small stays and gets 14": then every step is turned down by 14, and so is every run, but for one of no steps; all stays
unfoldable pub AllRefused : List Observed → Type 0
AllRefused [] = Unit {0}
AllRefused (observed_step b back ∷ calls) = (back ≡ record { number = 14; answer = no_answer; left = b }) × AllRefused calls
AllRefused (observed_run zero b back ∷ calls) = (back ≡ returned (run_ended SPENT 0 b)) × AllRefused calls
AllRefused (observed_run (suc k) b back ∷ calls) = (back ≡ returned (run_ended REFUSED 14 b)) × AllRefused calls

-- One table and one input for all calls.
module _ (e : Edition) (table input : List ℕ) where
  -- R8 each call was given just what the last one left, the first one b, and z is left in the end; and each kept the equation of its promise
  unfoldable pub Linked : Buffers → List Observed → Buffers → Type 0
  Linked b [] z = b ≡ z
  Linked b (observed_step given back ∷ calls) z =
      (given ≡ b) × (back ≡ step_call e table input given) × Linked back.left calls z
  Linked b (observed_run count given back ∷ calls) z =
      (given ≡ b) × (back ≡ returned (run_call e table input count given)) × Linked back.left calls z

  -- R7 to R10 of a table alone, however it came to be: of a list of calls behind starting, with this store lent for it, and with this output. It
  -- is one claim, about the program that the table holds; with a store too small, no step is made.
  pub record TableClaim (store output : List ℕ) (calls : List Observed) : Type 0 where
    pub claim : store_size ≤ length store → ListClaim e (program_in table) table input (length output) calls (fresh input)
    pub small : length store < store_size → AllRefused calls

  -- Whatever happened before a call that is given the buffers b, "from a fresh start": a deck read, a start, and any list of calls.
  pub record History (b : Buffers) : Type 0 where
    -- R7 "the table of an accepted deck": the deck call, given a deck and some table, gave 0 and left this table
    pub deck : List ℕ
    pub before : List ℕ
    pub card : ℕ
    pub read : record { number = 0; card = card; table = table } ≡ read_call e deck before
    -- R7 "the state and store from starting"
    pub store : List ℕ
    pub start : StartCalled
    pub started : start ≡ start_call store
    -- R7 "one output lent", and all that came behind
    pub output : List ℕ
    pub calls : List Observed
    pub linked : Linked (record { store = start.store; state = start.state; output = output }) calls b

  -- Demand 3: "Take any accepted deck, any input and any output lent. For every list of steps from a fresh start, stopped and turned-down
  -- ones included": of the list of all calls up to this one. The deck is an accepted one, with the program of which the claim speaks. With a
  -- store lent for starting that was too small, no step is made.
  pub record Demand3 {b : Buffers} (h : History b) (call : Observed) : Type 0 where
    pub program : Program
    pub accepts : judge e h.deck ≡ accepted program
    pub claim : store_size ≤ length h.store
        → ListClaim e program table input (length h.output) (h.calls ++ (call ∷ [])) (fresh input)
    pub small : length h.store < store_size → AllRefused (h.calls ++ (call ∷ []))
