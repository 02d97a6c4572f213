-- What the statements leave that value an expression and keep it. Assumes nothing.
use Rattle.std.specs.Prelude.{Ok, Err, cond, List, ◌≡◌, ℕ, ◌+◌, ◌≤◌, ◌<◌, ltb, ℤ, length, take, drop, get_or, set}
use Rattle.base.specs.Current.{current, table_size}
use Rattle.encoding.specs.Buffers.{numbers_in}
use Rattle.encoding.specs.Numerals.{biased}
use Rattle.store.specs.Clauses.{string_of, string_replaced}
use Rattle.evaluator.specs.Memory.{MemoryReady, memory_in}
use Rattle.machine.specs.Expressions.{string_in}
use Rattle.machine.specs.Scanning.{storing}
use Rattle.machine.specs.State.{Memory, State, with_output}
use Rattle.machine.specs.Step.{put_record, shortened}
use Rattle.decoder.specs.Holds.{ItemsHold, ElementsHold}
use Rattle.decoder.specs.Meaning.{elements_meaning}
use Rattle.decoder.specs.declared.Stretch.{Stretch}
use Rattle.values.specs.Result.{Result, done, stop, with_notes, ◌>>=◌}
use Rattle.values.specs.Stops.{stop_number}
use Rattle.effects.specs.Leaving.{Completion, LeavesStore, BufferSpells}

-- a numeric expression of a table that can be valued in these buffers
pub record Valuable (table store state : List ℕ) (s : Stretch) : Type 0 where
  pub bytes : table_size ≤ length table
  pub ready : MemoryReady store state
  pub items : ItemsHold table s

-- a string expression of a table that can be valued in these buffers
pub record ValueSpellable (table store state : List ℕ) (s : Stretch) : Type 0 where
  pub bytes : table_size ≤ length table
  pub ready : MemoryReady store state
  pub elements : ElementsHold table s

-- a number of the work's value, with its notes
pub record Assigned (state left : List ℕ) (place notes : ℕ) (w : Result ℤ) : Type 0 where
  pub value : ℤ
  pub work : w ≡ done value notes
  pub left_is : left ≡ set state (21 + place) (biased value)

abbrev pub Assigns : Completion → (state left : List ℕ) → ℕ → Result ℤ → Type 0
Assigns (Ok notes) state left place w = Assigned state left place notes w
Assigns (Err s) state left place w = (left ≡ state) × (w ≡ stop (stop_number s))

-- a stretch of a string
pub record Between (store : List ℕ) (place from to : ℕ) : Type 0 where
  pub known : place < 32
  pub order : from ≤ to
  pub within : to ≤ length (string_of store place)

-- an expression's value stored in place of it
abbrev pub stored_between : (table store state : List ℕ) → (place from to : ℕ) → Stretch → Result Memory
stored_between table store state place from to s =
    string_in current (memory_in store state) (elements_meaning table s)
    >>= λ v. storing place (string_replaced (string_of store place) from to v) (memory_in store state)

-- what the work leaves in the store
pub record ValueStored (r : Completion) (store left state : List ℕ) (w : Result Memory) : Type 0 where
  pub leaves : LeavesStore r store left (numbers_in state) w

-- the note that the tail of a record put is dropped
unfoldable pub tail_notes : ℕ → ℕ
tail_notes n = cond (ltb 1024 n) 1 0

-- a state that knows how long the output is
pub record StateWritable (state output : List ℕ) : Type 0 where
  pub size : length state ≡ 64
  pub written : get_or state 4 0 ≤ length output

pub record Writing (state output v : List ℕ) (notes : ℕ) : Type 0 where
  pub writable : StateWritable state output
  pub room : length v ≡ 1024
  pub few : notes ≤ 20

-- a record put: the machine's output is what the state left says
pub record RecordPut (state state_left output left : List ℕ) (notes : ℕ) (w : State → Result State) : Type 0 where
  pub reaches : ℕ
  pub state_is : state_left ≡ set state 4 reaches
  pub size : length left ≡ length output
  pub order : get_or state 4 0 ≤ reaches
  pub inside : reaches ≤ length output
  pub rest : drop reaches left ≡ drop reaches output
  pub work : (c : State) → c.output ≡ take (get_or state 4 0) output → w c ≡ done (with_output (take reaches left) c) notes

-- what stops it leaves state and output as they were
pub record Unput (state state_left output left : List ℕ) (k : ℕ) (w : State → Result State) : Type 0 where
  pub state_same : state_left ≡ state
  pub same : left ≡ output
  pub work : (c : State) → c.output ≡ take (get_or state 4 0) output → w c ≡ stop k

abbrev pub RecordPutBy : Completion → (state state_left output left : List ℕ) → (State → Result State) → Type 0
RecordPutBy (Ok notes) state state_left output left w = RecordPut state state_left output left notes w
RecordPutBy (Err s) state state_left output left w = Unput state state_left output left (stop_number s) w

-- the record of whatever value the buffer spells
abbrev pub ValueRecorded : Completion → (state state_left output left v : List ℕ) → (n notes : ℕ) → Type 0
ValueRecorded r state state_left output left v n notes =
    (value : List ℕ) → BufferSpells v n value
    → RecordPutBy r state state_left output left (λ c. with_notes notes (shortened value >>= λ w. put_record (length output) w c))

-- WRITE and PRINT: an expression's value, shortened and put
abbrev pub Writes : Completion → (table store : List ℕ) → Stretch → (state state_left output left : List ℕ) → Type 0
Writes r table store s state state_left output left =
    RecordPutBy r state state_left output left
    (λ c. string_in current (memory_in store state) (elements_meaning table s) >>= λ v. shortened v >>= λ w. put_record (length output) w c)
