-- The scan between a pattern's values and its replacement: the scan, the fillers made null, the pieces named. Assumes nothing.
use Rattle.std.specs.Prelude.{Bool, true, false, List, map, ◌≡◌, ℕ, ◌+◌, ◌<◌, ◌≤◌, ℤ, length, drop, get_or}
use Rattle.std.proofs.Math.Option.{none, some}
use Rattle.base.specs.Current.{table_size}
use Rattle.base.specs.Lists.{total}
use Rattle.encoding.specs.BufferLaws.{StoreGood}
use Rattle.store.specs.Clauses.{string_of}
use Rattle.machine.specs.Scanning.{Valued, without_fillers, naming}
use Rattle.decoder.specs.Meaning.{patterns_meaning}
use Rattle.decoder.specs.declared.Stretch.{Stretch}
use Rattle.encoding.specs.Meaning.{direction_meaning}
use Rattle.encoding.specs.declared.cells.Direction.{Direction}
use Rattle.scan.specs.Rows.{GoodRows}
use Rattle.scanning.specs.Call.{answer_numbers}
use Rattle.scanning.specs.Splits.{Split}
use Rattle.scanning.specs.Trials as Trials
use Rattle.scanning.specs.Trials.{scan}
use Rattle.effects.specs.Fillers.{Nulled, Patterned, PiecesNamed, SpanNameable, is_filler, lengths_in}
use Rattle.effects.specs.Leaving.{memory_of, StoreStays}
use Rattle.effects.specs.OtherLaws.{Unnamed}
use Rattle.effects.specs.References.{turned_reference}
use Rattle.effects.specs.Valued.{Between}
use Rattle.effects.specs.declared.Span.{Span}
use Rattle.scan_statement.specs.Patterns.{Rowed}

-- the answer of the scan by a pattern with its values
abbrev pub scan_of : List Valued → List ℕ → Trials.Scanned
scan_of vs reference = scan (map (λ v. v.element) vs) reference

-- rows that can be searched for, with a store for the fillers
pub record RowsSearchable (table store : List ℕ) (s : Stretch) (reference values rows : List ℕ) : Type 0 where
  pub bytes : table_size ≤ length table
  pub inside : s.from + s.count ≤ 1024
  pub good : StoreGood store
  pub short : length reference ≤ 1024
  pub lines : GoodRows values rows s.count

-- the bytes of a span that can be searched for such rows: no filler, and no place in names, is that of the string which has them
pub record SpanSearchable (table store : List ℕ) (d : Direction) (at : Span) (s : Stretch) (values rows names : List ℕ) : Type 0 where
  pub rows_are : RowsSearchable table store s (turned_reference store (direction_meaning d) at) values rows
  pub between : Between store at.place at.from at.to
  pub clear : is_filler at.place (patterns_meaning table s) ≡ false
  pub apart : (i : ℕ) → i < s.count → get_or names i 0 ≡ at.place → ⊥

-- an answer whose pieces can be named, if it has a split
pub record AnswerNameable (table store : List ℕ) (d : Direction) (at : Span) (s : Stretch) (copy names answer : List ℕ) : Type 0 where
  pub fillers : Patterned table store s
  pub clear : is_filler at.place (patterns_meaning table s) ≡ false
  pub pieces : (get_or answer 0 0 ≡ 0 → ⊥) → SpanNameable store (direction_meaning d) at copy names answer s.count

-- its pieces are named, in a store whose fillers were made null
pub record AnswerPieces (table store left : List ℕ) (d : Direction) (at : Span) (s : Stretch) (names answer : List ℕ) : Type 0 where
  pub found : get_or answer 0 0 ≡ 0 → ⊥
  pub nulled : List ℕ
  pub null : Nulled table s store nulled
  pub pieces : PiecesNamed nulled left (turned_reference store (direction_meaning d) at) names answer s.count

-- or the fillers stay null, since it has no split
pub record AnswerNone (table store left : List ℕ) (s : Stretch) (answer : List ℕ) : Type 0 where
  pub none-found : get_or answer 0 0 ≡ 0
  pub null : Nulled table s store left

-- which of the two, by whether there is a split
abbrev pub NamedBy : Bool → (table store left : List ℕ) → Direction → Span → Stretch → (names answer : List ℕ) → Type 0
NamedBy true table store left d at s names answer = AnswerPieces table store left d at s names answer
NamedBy false table store left d at s names answer = AnswerNone table store left s answer

-- what naming comes to
pub record AnswerNamed (is : Bool) (table store left : List ℕ) (d : Direction) (at : Span) (s : Stretch) (names answer : List ℕ) : Type 0 where
  pub by : NamedBy is table store left d at s names answer

-- the pieces of a split are named, and every string that is no filler is as it was
pub record PiecesFound (table store left : List ℕ) (s : Stretch) (reference answer : List ℕ) (vs : List Valued) : Type 0 where
  pub split : Split
  pub found : (scan_of vs reference).split ≡ some split
  pub size : length answer ≡ 24
  pub start : get_or answer 1 0 ≡ split.start
  pub lengths : lengths_in answer s.count ≡ split.lengths
  pub pieces : split.start + total (λ l. l) split.lengths ≤ length reference
  pub work : (numbers : List ℤ)
      → naming vs (drop split.start reference) split.lengths (without_fillers (patterns_meaning table s) (memory_of store numbers))
      ≡ memory_of left numbers
  pub others : (i : ℕ) → is_filler i (patterns_meaning table s) ≡ false → Unnamed i vs → string_of left i ≡ string_of store i

-- no split: the fillers are null
pub record Missed (table store left : List ℕ) (s : Stretch) (reference : List ℕ) (vs : List Valued) : Type 0 where
  pub failed : (scan_of vs reference).split ≡ none
  pub work : (numbers : List ℤ) → without_fillers (patterns_meaning table s) (memory_of store numbers) ≡ memory_of left numbers

abbrev pub FoundBy : Bool → (table store left : List ℕ) → Stretch → (reference answer : List ℕ) → List Valued → Type 0
FoundBy true table store left s reference answer vs = PiecesFound table store left s reference answer vs
FoundBy false table store left s reference answer vs = Missed table store left s reference vs

-- what the search comes to, for a pattern with these values
pub record SplitFound (is : Bool) (table store left : List ℕ) (s : Stretch) (reference answer : List ℕ) (vs : List Valued) : Type 0 where
  pub numbers : answer ≡ answer_numbers 0 (scan_of vs reference)
  pub by : FoundBy is table store left s reference answer vs

pub record SplitSearched (is : Bool) (table store left : List ℕ) (s : Stretch) (reference values rows names answer : List ℕ) : Type 0 where
  pub stays : StoreStays store left
  pub finds : (vs : List Valued) → Rowed values rows names s.count vs → SplitFound is table store left s reference answer vs
