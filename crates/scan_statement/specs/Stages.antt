-- A scan once its reference is known, and once its pattern's values are: what is left of the work, what it asks for and leaves.
-- Assumes nothing.
use Rattle.std.specs.Prelude as Prelude
use Rattle.std.specs.Prelude.{Some, None, List, ◌≡◌, ℕ, ◌+◌, ◌-◌, ◌≤◌, length, get_or}
use Rattle.std.proofs.Math.Option.{Option}
use Rattle.base.specs.Current.{current, table_size}
use Rattle.base.specs.Lists.{total}
use Rattle.encoding.specs.BufferLaws.{StoreGood}
use Rattle.store.specs.Clauses.{string_of}
use Rattle.evaluator.specs.Memory.{MemoryReady, memory_in}
use Rattle.syntax.specs.Program as Program
use Rattle.machine.specs.Scanning.{ScanLeft, Valued, leaving, pattern_in, without_fillers}
use Rattle.machine.specs.State.{Memory}
use Rattle.decoder.specs.Holds.{PatternsHold, ReplacementHolds, searched_place}
use Rattle.decoder.specs.Meaning.{patterns_meaning}
use Rattle.encoding.specs.Meaning.{direction_meaning}
use Rattle.encoding.specs.declared.cells.Direction.{Direction}
use Rattle.decoder.specs.declared.Scan.{Scan}
use Rattle.decoder.specs.declared.Stretch.{Stretch}
use Rattle.effects.specs.Fillers.{Copied, lengths_in}
use Rattle.effects.specs.References.{searched_at, turned_reference}
use Rattle.effects.specs.Replacing.{stored_turned}
use Rattle.effects.specs.ReplacingLaws.{found_from, found_to}
use Rattle.effects.specs.Valued.{Between}
use Rattle.effects.specs.declared.Span.{Span}
use Rattle.values.specs.Result.{Result, pure, ◌>>=◌}
use Rattle.scan_statement.specs.Patterns.{AllPut}
use Rattle.scan_statement.specs.Scans.{Scannable}
use Rattle.scan_statement.specs.Searches.{scan_of}

module _ (table store state : List ℕ) (d : Direction) (at : Span) (pattern : Stretch) (r : Option (List Program.Element)) where
  -- what is left of a scan with these values of its pattern
  abbrev pub valued_rest : List Valued → Result ScanLeft
  valued_rest vs =
      leaving current (direction_meaning d) (searched_at at.place at.from at.to (string_of store at.place)) vs r
      (without_fillers (patterns_meaning table pattern) (memory_in store state))
      (scan_of vs (turned_reference store (direction_meaning d) at)) (scan_of vs (turned_reference store (direction_meaning d) at)).split

  -- and what is left of it with this reference
  abbrev pub searched_rest : Result ScanLeft
  searched_rest = pattern_in current (memory_in store state) (patterns_meaning table pattern) >>= valued_rest

-- an answer whose lengths can be added up
pub record LengthsCounted (answer : List ℕ) (count : ℕ) : Type 0 where
  pub few : count ≤ 20
  pub short : total (λ l. l) (lengths_in answer count) ≤ 1024

-- a scan whose pattern's values stand in rows
pub record Findable (table store state : List ℕ) (d : Direction) (at : Span) (pattern : Stretch) (values rows names : List ℕ)
    (notes : ℕ) : Type 0 where
  pub bytes : table_size ≤ length table
  pub ready : MemoryReady store state
  pub between : Between store at.place at.from at.to
  pub fillers : PatternsHold table at.place pattern
  pub put : AllPut table values rows names pattern notes (pattern_in current (memory_in store state) (patterns_meaning table pattern))

-- the fillers of a scan with a replacement are kept
pub record Saved (x : Prelude.Option Stretch) (table : List ℕ) (pattern : Stretch) (store kept left : List ℕ) : Type 0 where
  pub good : StoreGood left
  pub copied : (by : Stretch) → x ≡ Some by → Copied table pattern store kept left

-- so many bytes of the reference from a start on give way to the value of a replacement, if there is one
abbrev pub replaced_by : (table store state : List ℕ) → Program.Direction → Span → (start sum : ℕ) → Prelude.Option Stretch → Result Memory
replaced_by table store state way at start sum None = pure (memory_in store state)
replaced_by table store state way at start sum (Some by) =
    stored_turned table store state way at.place (found_from way at.from (at.to - at.from) start sum)
    (found_to way at.from (at.to - at.from) start sum) by

-- how long the pieces of an answer's split are together
abbrev pub pieces_in : List ℕ → (count : ℕ) → ℕ
pieces_in answer count = total (λ l. l) (lengths_in answer count)

-- the pieces of an answer's split give way to it
abbrev pub replaced_pieces : (table store state : List ℕ) → Scan → Span → List ℕ → Result Memory
replaced_pieces table store state s at answer =
    replaced_by table store state (direction_meaning s.direction) at (get_or answer 1 0) (pieces_in answer s.pattern.count) s.replacement

pub record Replaceable (table store state : List ℕ) (s : Scan) (at : Span) (answer : List ℕ) : Type 0 where
  pub bytes : table_size ≤ length table
  pub ready : MemoryReady store state
  pub replacement : ReplacementHolds table s.replacement
  pub between : Between store at.place at.from at.to
  pub counting : LengthsCounted answer s.pattern.count
  pub inside : get_or answer 1 0 + pieces_in answer s.pattern.count ≤ at.to - at.from

-- a scan whose reference is the bytes of a span
pub record Referred (table store state : List ℕ) (s : Scan) (at : Span) : Type 0 where
  pub scannable : Scannable table store state s
  pub names : at.place ≡ searched_place s.part
  pub between : Between store at.place at.from at.to
