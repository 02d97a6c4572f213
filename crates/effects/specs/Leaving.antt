-- What statements ask for and leave in the buffers, as the machine's definitions have it. Assumes nothing.
use Rattle.std.specs.Prelude as std
use Rattle.std.specs.Prelude.{Bool, true, false, Option, Some, None, nat_abs, List, ◌≡◌, ℕ, ◌≤◌, ◌<◌, ℤ, length, take, drop, Ok, Err}
use Rattle.encoding.specs.BufferLaws.{StoreGood}
use Rattle.encoding.specs.Buffers.{strings_in, store_size}
use Rattle.store.specs.Clauses.{string_of, string_replaced}
use Rattle.syntax.specs.Program.{Branch}
use Rattle.machine.specs.Scanning.{storing}
use Rattle.machine.specs.State.{Memory, State, going_to, with_input, with_output}
use Rattle.machine.specs.Step.{chosen, take_record, put_record}
use Rattle.values.specs.Numbers.{is_negative}
use Rattle.values.specs.Result.{Result, done, stop, with_notes}
use Rattle.values.specs.Stops.{stop_number}
use Rattle.values.specs.declared.Stop.{Stop}
use Rattle.values.specs.declared.Stop.TheVariants.{NegativeLength}

-- what a statement's work comes to in code: done, with so many notes, or what stops it
abbrev pub Completion : Type 0
Completion = std.Result ℕ Stop

-- the memory of a store's strings and these numbers
abbrev pub memory_of : List ℕ → List ℤ → Memory
memory_of store numbers = record { strings = strings_in store; numbers = numbers }

-- a good store is left good, and what lies behind its cells stays
pub record StoreStays (store left : List ℕ) : Type 0 where
  pub good : StoreGood left
  pub size : length left ≡ length store
  pub rest : drop store_size left ≡ drop store_size store

-- what a statement's work on a memory comes to, and the store that it leaves; where it stops, the store is as it was
abbrev pub LeavesStore : Completion → (store left : List ℕ) → List ℤ → Result Memory → Type 0
LeavesStore (Ok notes) store left numbers w = StoreStays store left × (w ≡ done (memory_of left numbers) notes)
LeavesStore (Err s) store left numbers w = (left ≡ store) × (w ≡ stop (stop_number s))

-- how many bytes a length asks for, or that it is negative
abbrev pub Asks : std.Result ℕ Stop → ℤ → Type 0
Asks (Err s) z = (is_negative z ≡ true) × (s ≡ NegativeLength)
Asks (Ok n) z = (is_negative z ≡ false) × (n ≡ nat_abs z)

-- a record to be read
pub record Taking (store : List ℕ) (place : ℕ) (input : List ℕ) (from : ℕ) : Type 0 where
  pub good : StoreGood store
  pub known : place < 32
  pub inside : from ≤ length input

-- the machine goes on by one of its branches, and reads on at a place of the input; so many bytes of the record are dropped
pub record ReadsOn (takes : Bool) (store left input : List ℕ) (place most from to dropped : ℕ) : Type 0 where
  pub stays : StoreStays store left
  pub inside : to ≤ length input
  pub work : (b : Branch) (c : State) → c.memory.strings ≡ strings_in store → c.input ≡ drop from input
      → take_record place most b c
      ≡ record {
        state = with_input (drop to input) (going_to (chosen takes b) (memory_of left c.memory.numbers) c);
        dropped = dropped;
      }

-- a record read, with the place behind it and how many of its bytes are dropped; or none, and then nothing changes and none is dropped
abbrev pub RecordTaken : (store left input : List ℕ) → (place most from : ℕ) → Option ℕ → (dropped : ℕ) → Type 0
RecordTaken store left input place most from None dropped =
    (left ≡ store) × (dropped ≡ 0) × ReadsOn false store left input place most from from dropped
RecordTaken store left input place most from (Some to) dropped = (from < to) × ReadsOn true store left input place most from to dropped

-- a record put: the machine's output is what stands before the place behind it
pub record Wrote (bytes left : List ℕ) (at to : ℕ) (v : List ℕ) : Type 0 where
  pub size : length left ≡ length bytes
  pub order : at ≤ to
  pub inside : to ≤ length bytes
  pub rest : drop to left ≡ drop to bytes
  pub work : (c : State) → c.output ≡ take at bytes → put_record (length bytes) v c ≡ done (with_output (take to left) c) 0

-- no room for it: nothing is put
pub record Full (bytes left : List ℕ) (at k : ℕ) (v : List ℕ) : Type 0 where
  pub same : left ≡ bytes
  pub work : (c : State) → c.output ≡ take at bytes → put_record (length bytes) v c ≡ stop k

-- how long the output is behind a record put into it, or what stops the run
abbrev pub RecordPuts : std.Result ℕ Stop → (bytes left : List ℕ) → ℕ → List ℕ → Type 0
RecordPuts (Ok to) bytes left at v = Wrote bytes left at to v
RecordPuts (Err s) bytes left at v = Full bytes left at (stop_number s) v

-- a stretch of a string to be set, from a value's buffer
pub record Setting (store : List ℕ) (place from to : ℕ) (v : List ℕ) : Type 0 where
  pub good : StoreGood store
  pub known : place < 32
  pub order : from ≤ to
  pub within : to ≤ length (string_of store place)
  pub room : length v ≡ 1024

-- a buffer spells a value of n bytes: it has the first 1,024 of them
pub record BufferSpells (v : List ℕ) (n : ℕ) (value : List ℕ) : Type 0 where
  pub size : length value ≡ n
  pub bytes : take n v ≡ take 1024 value

-- whatever value the buffer spells, the string is stored with it
abbrev pub Sets : Completion → (store left : List ℕ) → (place from to : ℕ) → List ℕ → (n notes : ℕ) → Type 0
Sets r store left place from to v n notes =
    (value : List ℕ) (numbers : List ℤ) → BufferSpells v n value
    → LeavesStore r store left numbers
    (with_notes notes (storing place (string_replaced (string_of store place) from to value) (memory_of store numbers)))
