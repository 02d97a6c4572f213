-- What carrying out a statement that doesn't scan leaves in the buffers. Assumes nothing.
use Rattle.std.specs.Prelude.{Ok, Err, true, List, ◌≡◌, ℕ, ◌+◌, length, get_or, set}
use Rattle.base.specs.Current.{current}
use Rattle.encoding.specs.Buffers.{store_keeps, state_keeps, state_in}
use Rattle.calls.specs.Calls.{Buffers, left_of}
use Rattle.syntax.specs.Program.{Program, Statement}
use Rattle.machine.specs.State.{State}
use Rattle.machine.specs.Step.{Done, no_scan, execution}
use Rattle.effects.specs.Leaving.{Completion}
use Rattle.values.specs.Result.{Result, done, stop}
use Rattle.values.specs.Stops.{stop_number}

-- buffers that a step may be given, of a machine that runs the program p and hasn't ended
pub record StatementStanding (p : Program) (input : List ℕ) (b : Buffers) : Type 0 where
  pub store_good_lem : store_keeps b.store ≡ true
  pub size : length b.state ≡ 64
  pub range : state_keeps current (length p.steps) (length input) (length b.output) b.state ≡ true
  pub running : get_or b.state 0 0 ≡ 0

-- the machine that they hold
abbrev pub machine_in : List ℕ → Buffers → State
machine_in input b = state_in b.store b.state input b.output

-- work done without a scan: the buffers left are what is left of the machine
pub record Moved (input : List ℕ) (b left : Buffers) (notes : ℕ) (w : Result Done) : Type 0 where
  pub machine : State
  pub work : w ≡ done (record { state = machine; scanned = no_scan }) notes
  pub left_is : left ≡ left_of input b machine

-- work that is stopped: nothing is changed
pub record Unmoved (b left : Buffers) (k : ℕ) (w : Result Done) : Type 0 where
  pub work : w ≡ stop k
  pub same : left ≡ b

abbrev pub Executes : Completion → (input : List ℕ) (b left : Buffers) → Result Done → Type 0
Executes (Ok notes) input b left w = Moved input b left notes w
Executes (Err s) input b left w = Unmoved b left (stop_number s) w

-- a statement carried out on buffers that a step may be given
abbrev pub Does : Statement → Completion → (b left : Buffers) → (input : List ℕ) → Type 0
Does x r b left input =
    (p : Program) → StatementStanding p input b → Executes r input b left (execution current (length b.output) x (machine_in input b))

-- the state moved on to the step behind, if a statement's work is done
abbrev pub moved_on : Completion → List ℕ → List ℕ
moved_on (Ok notes) state = set state 1 (get_or state 1 0 + 1)
moved_on (Err s) state = state
