-- What READ leaves. Assumes nothing.
use Rattle.std.specs.Prelude as std
use Rattle.std.specs.Prelude.{Ok, Err, Bool, List, ◌≡◌, ℕ, ◌≤◌, ◌<◌, length, drop, get_or, set}
use Rattle.encoding.specs.BufferLaws.{StoreGood}
use Rattle.evaluator.specs.Memory.{memory_in}
use Rattle.syntax.specs.Program.{Branch, Part}
use Rattle.machine.specs.State.{State, going_to, with_input}
use Rattle.machine.specs.Step.{no_scan, Done, chosen, take_record, cut_noted, reading}
use Rattle.values.specs.Result.{Result, done, stop}
use Rattle.values.specs.Stops.{stop_number}
use Rattle.values.specs.declared.Noted.{Noted}
use Rattle.values.specs.declared.Stop.{Stop}
use Rattle.effects.specs.Leaving.{StoreStays}

-- a record to be read, at the place of the input that the state has
pub record Reading (store state input : List ℕ) (place : ℕ) : Type 0 where
  pub good : StoreGood store
  pub size : length state ≡ 64
  pub known : place < 32
  pub inside : get_or state 3 0 ≤ length input

-- the machine goes one way, with the string and the input place left
abbrev pub onward : Bool → (left state_left input : List ℕ) → Branch → State → State
onward takes left state_left input b c =
    with_input (drop (get_or state_left 3 0) input) (going_to (chosen takes b) (memory_in left state_left) c)

-- a machine that has what the buffers have
pub record MachineHas (store state input : List ℕ) (c : State) : Type 0 where
  pub memory : c.memory ≡ memory_in store state
  pub input_left : c.input ≡ drop (get_or state 3 0) input

-- work on a machine that goes this way, with so many notes; only the store's strings and the input place change
pub record Goes (r : Noted Bool) (store left state state_left input : List ℕ) (w : Branch → State → Result Done) : Type 0 where
  pub stays : StoreStays store left
  pub to : ℕ
  pub state_is : state_left ≡ set state 3 to
  pub inside : to ≤ length input
  pub work : (b : Branch) (c : State) → MachineHas store state input c
      → w b c ≡ done (record { state = onward r.value left state_left input b c; scanned = no_scan }) r.notes

-- nothing changes, and the work stops
pub record Halts (store left state state_left input : List ℕ) (k : ℕ) (p : Part) : Type 0 where
  pub same : left ≡ store
  pub state_same : state_left ≡ state
  pub work : (b : Branch) (c : State) → MachineHas store state input c → reading p b c ≡ stop k

-- whether a record was taken, with a note if it was cut
abbrev pub NextRecord : Noted Bool → (store left state state_left input : List ℕ) → (place most : ℕ) → Type 0
NextRecord r store left state state_left input place most =
    Goes r store left state state_left input (λ b c. cut_noted (take_record place most b c))

-- READ goes as its record does, to its success or its failure; or what stops it
abbrev pub RecordRead : std.Result (Noted Bool) Stop → (store left state state_left input : List ℕ) → Part → Type 0
RecordRead (Ok r) store left state state_left input p = Goes r store left state state_left input (reading p)
RecordRead (Err s) store left state state_left input p = Halts store left state state_left input (stop_number s) p
