-- What the functions of a step ask for and leave. Assumes nothing.
use Rattle.std.specs.Prelude as std
use Rattle.std.specs.Prelude.{true, false, cond, not, List, Ok, Err, reverse, ◌≡◌, ℕ, ◌≤◌, ◌<◌, ltb, length, get_or, set, replicate}
use Rattle.base.specs.Current.{current, table_size}
use Rattle.encoding.specs.Buffers.{returns_in, store_keeps, state_keeps}
use Rattle.calls.specs.Calls.{Buffers, left_of, StepCalled, RunCalled}
use Rattle.encoding.specs.Numerals.{numeral_at}
use Rattle.encoding.specs.Rules.{keeps_rules}
use Rattle.encoding.specs.TableReading.{program_in}
use Rattle.execution.specs.Executing.{StatementStanding, Unmoved, machine_in}
use Rattle.syntax.specs.Program as Program
use Rattle.machine.specs.State.{State}
use Rattle.machine.specs.Step.{Done, execution, lacks_return, statement_at}
use Rattle.decoder.specs.Holds.{StatementHolds}
use Rattle.decoder.specs.Meaning.{statement_meaning}
use Rattle.decoder.specs.declared.Scan.{Scan}
use Rattle.decoder.specs.declared.Statement.{Statement}
use Rattle.decoder.specs.declared.Statement.TheVariants as statements
use Rattle.scanning.specs.Call.{answer_numbers}
use Rattle.scanning.specs.Trials.{Scanned}
use Rattle.effects.specs.Leaving.{Completion}
use Rattle.values.specs.Result.{Result, done}
use Rattle.values.specs.Stops.{stop_number}
use Rattle.interpreter.specs.Endings.{outcome_meaning, ended_number, step_number, step_notes}
use Rattle.interpreter.specs.declared.Halt.{Halt}
use Rattle.interpreter.specs.declared.Halt.TheVariants as halts
use Rattle.interpreter.specs.declared.run.Ran.{Ran}

-- a table that keeps its rules, a good store and a state in range: only the machine itself turns the step down
pub record Given (table input : List ℕ) (b : Buffers) : Type 0 where
  pub bytes : table_size ≤ length table
  pub keeps : keeps_rules current table ≡ true
  pub store_good_lem : store_keeps b.store ≡ true
  pub size : length b.state ≡ 64
  pub range : state_keeps current (length (program_in table).steps) (length input) (length b.output) b.state ≡ true

-- a return is held for RETURN, and there is room for that of EXECUTE
abbrev pub ReturnsEnough : Statement → ℕ → Type 0
ReturnsEnough (statements.SetNumber i s) held = Unit {0}
ReturnsEnough (statements.SetString p s) held = Unit {0}
ReturnsEnough (statements.Goto k) held = Unit {0}
ReturnsEnough statements.Finish held = Unit {0}
ReturnsEnough (statements.IfNull s b) held = Unit {0}
ReturnsEnough (statements.IfNumeric p b) held = Unit {0}
ReturnsEnough (statements.If x b) held = Unit {0}
ReturnsEnough (statements.Scan x) held = Unit {0}
ReturnsEnough (statements.Read p b) held = Unit {0}
ReturnsEnough (statements.Write s) held = Unit {0}
ReturnsEnough (statements.Execute k) held = held < 16
ReturnsEnough statements.Return held = 0 < held

-- the statement of the next step
abbrev pub next_statement : (table state : List ℕ) → Program.Statement
next_statement table state = statement_at (program_in table) (get_or state 1 0)

-- a step that the machine doesn't turn down
pub record Allowed (table input : List ℕ) (b : Buffers) : Type 0 where
  pub given : Given table input b
  pub running : get_or b.state 0 0 ≡ 0
  pub enough : lacks_return (next_statement table b.state) (reverse (returns_in b.state)) ≡ false

-- the statement of one as it was read
pub record StepGoing (table input : List ℕ) (b : Buffers) (x : Statement) : Type 0 where
  pub given : Given table input b
  pub running : get_or b.state 0 0 ≡ 0
  pub means : statement_meaning table x ≡ next_statement table b.state
  pub holds : StatementHolds table (numeral_at 2 table 2) x
  pub returns : ReturnsEnough x (get_or b.state 2 0)

-- work done: the buffers left are what is left of the machine, and the answer has all that was found but the notes
pub record Worked (input : List ℕ) (b left : Buffers) (answer : List ℕ) (notes : ℕ) (w : Result Done) : Type 0 where
  pub machine : State
  pub scanned : Scanned
  pub work : w ≡ done (record { state = machine; scanned = scanned }) notes
  pub left_is : left ≡ left_of input b machine
  pub answer_is : set answer 3 notes ≡ answer_numbers notes scanned

-- what a statement's work comes to; what stops it changes nothing but the answer
abbrev pub Works : Completion → (input : List ℕ) (b left : Buffers) (answer : List ℕ) → Result Done → Type 0
Works (Ok notes) input b left answer w = Worked input b left answer notes w
Works (Err s) input b left answer w = Unmoved b left (stop_number s) w

-- the work of a statement on the machine that the buffers hold
abbrev pub work_of : (input : List ℕ) → Buffers → Program.Statement → Result Done
work_of input b x = execution current (length b.output) x (machine_in input b)

pub record WorksOn (r : Completion) (input : List ℕ) (b left : Buffers) (x : Program.Statement) (answer : List ℕ) : Type 0 where
  pub works : Works r input b left answer (work_of input b x)

-- a scan carried out on buffers that a step may be given
abbrev pub DoesScan : Scan → (table : List ℕ) → Completion → (b left : Buffers) → (input answer : List ℕ) → Type 0
DoesScan s table r b left input answer =
    (p : Program.Program) → StatementStanding p input b → WorksOn r input b left (statement_meaning table (statements.Scan s)) answer

-- what a step gives by its statement's work, the state and the answer behind it
abbrev pub concluded_result : Completion → std.Result ℕ Halt
concluded_result (Ok notes) = Ok notes
concluded_result (Err s) = Err (halts.Stopped s)

abbrev pub concluded_state : Completion → List ℕ → List ℕ
concluded_state (Ok notes) state = state
concluded_state (Err s) state = set state 0 2

abbrev pub concluded_answer : Completion → List ℕ → List ℕ
concluded_answer (Ok notes) answer = set answer 3 notes
concluded_answer (Err s) answer = replicate 24 0

pub record Concludes (r : Completion) (given : std.Result ℕ Halt) (state state_left answer answer_left : List ℕ) : Type 0 where
  pub given_is : given ≡ concluded_result r
  pub state_is : state_left ≡ concluded_state r state
  pub answer_is : answer_left ≡ concluded_answer r answer

-- number, answer and buffers left are those of a step
pub record StepAnswers (s : StepCalled) (number : ℕ) (answer : List ℕ) (left : Buffers) : Type 0 where
  pub number_is : number ≡ s.number
  pub answer_is : answer ≡ s.answer
  pub left_is : left ≡ s.left

-- a step that was made or not, with its notes
pub record StepTaken (s : StepCalled) (r : std.Result ℕ Halt) (answer : List ℕ) (left : Buffers) : Type 0 where
  pub answers : StepAnswers s (step_number r) answer left
  pub notes_are : get_or answer 3 0 ≡ step_notes r

-- outcome, number, steps done, their notes and buffers left are those of a run
pub record RunAnswers (r : RunCalled) (ran : Ran) (left : Buffers) : Type 0 where
  pub outcome_is : outcome_meaning ran.outcome ≡ r.outcome
  pub number_is : ended_number ran.outcome ≡ r.number
  pub steps_are : ran.steps ≡ r.steps
  pub notes_are : ran.notes ≡ r.notes
  pub left_is : left ≡ r.left

-- 2, 13, 14, and 15 where a state is out of range, the lowest first, or 0
abbrev pub unfit_number : (table store state : List ℕ) (input output : ℕ) → ℕ
unfit_number table store state input output =
    cond (ltb (length table) table_size) 2
    (cond (not (keeps_rules current table)) 13
    (cond (not (store_keeps store)) 14
    (cond (not (state_keeps current (length (program_in table).steps) input output state)) 15
    0)))
