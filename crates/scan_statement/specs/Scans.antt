-- What a SCAN or BACKSCAN asks for and leaves in the buffers, as the machine's definitions have it. Assumes nothing.
use Rattle.std.specs.Prelude as std
use Rattle.std.specs.Prelude.{Bool, true, false, List, Ok, Err, ◌≡◌, ℕ, ◌≤◌, length}
use Rattle.std.proofs.Math.Option.{Option, none, some}
use Rattle.base.specs.Current.{current, table_size}
use Rattle.evaluator.specs.Memory.{MemoryReady, memory_in}
use Rattle.machine.specs.Scanning.{ScanLeft, scanning_in}
use Rattle.decoder.specs.Holds.{PartHolds, PatternsHold, ReplacementHolds, ScanHolds, searched_place}
use Rattle.decoder.specs.Meaning.{part_meaning, patterns_meaning, replacement_meaning}
use Rattle.encoding.specs.Meaning.{direction_meaning}
use Rattle.decoder.specs.declared.Scan.{Scan}
use Rattle.scanning.specs.Call.{answer_numbers}
use Rattle.scanning.specs.Splits.{Split}
use Rattle.scanning.specs.Trials as Trials
use Rattle.effects.specs.Leaving.{StoreStays}
use Rattle.values.specs.Result.{Result, done, stop}
use Rattle.values.specs.Stops.{stop_number}
use Rattle.values.specs.declared.Noted.{Noted}
use Rattle.values.specs.declared.Stop.{Stop}

-- a scan of a table that can be carried out
pub record Scannable (table store state : List ℕ) (s : Scan) : Type 0 where
  pub bytes : table_size ≤ length table
  pub ready : MemoryReady store state
  pub part : PartHolds s.part
  pub pattern : PatternsHold table (searched_place s.part) s.pattern
  pub replacement : ReplacementHolds table s.replacement

-- so is one of a table that keeps the rules
pub holds_scannable : {table store state : List ℕ} {steps : ℕ} {s : Scan} → table_size ≤ length table → MemoryReady store state
    → ScanHolds table steps s → Scannable table store state s
holds_scannable bytes ready h =
    record {
      bytes = bytes;
      ready = ready;
      part = h.part;
      pattern = h.pattern;
      replacement = h.replacement;
    }

-- the work of the statement in the memory of these buffers
abbrev pub scanning_of : (table store state : List ℕ) → Scan → Result ScanLeft
scanning_of table store state s =
    scanning_in current (memory_in store state) (direction_meaning s.direction) (part_meaning s.part) (patterns_meaning table s.pattern)
    (replacement_meaning table s.replacement)

-- the work is done: the store holds the memory left, and the answer's numbers are all those of the scan but the notes
pub record Ended (store left state answer : List ℕ) (notes : ℕ) (w : Result ScanLeft) : Type 0 where
  pub stays : StoreStays store left
  pub scanned : Trials.Scanned
  pub work : w ≡ done (record { memory = memory_in left state; scanned = scanned }) notes
  pub answer_is : answer ≡ answer_numbers 0 scanned

abbrev pub is_split : Option Split → Bool
is_split (some split) = true
is_split none = false

-- with a split or without one
pub record SplitEnds (is : Bool) (store left state answer : List ℕ) (notes : ℕ) (w : Result ScanLeft) : Type 0 where
  pub ended : Ended store left state answer notes w
  pub found : is_split ended.scanned.split ≡ is

-- whether there is a split, with the notes, or what stops the work
abbrev pub Scanned : Type 0
Scanned = std.Result (Noted Bool) Stop

-- what the work comes to; where it stops, the store is as it was
abbrev pub ScanDone : Scanned → (store left state answer : List ℕ) → Result ScanLeft → Type 0
ScanDone (Ok split) store left state answer w = SplitEnds split.value store left state answer split.notes w
ScanDone (Err s) store left state answer w = (left ≡ store) × (w ≡ stop (stop_number s))

-- a scan carried out
pub record ScanLeaves (r : Scanned) (store left state answer : List ℕ) (w : Result ScanLeft) : Type 0 where
  pub scans : ScanDone r store left state answer w
