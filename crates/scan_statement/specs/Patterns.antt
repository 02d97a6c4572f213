-- A pattern's values as rows for the scan: what a row more leaves, and what all of them stand for. Assumes nothing.
use Rattle.std.specs.Prelude.{cond, false, List, Ok, Err, map, ◌≡◌, ℕ, ◌+◌, ◌*◌, ◌≤◌, ◌<◌, ltb, length, take, set}
use Rattle.base.specs.Current.{table_size}
use Rattle.encoding.specs.Splices.{splice}
use Rattle.numbers.specs.Numbers.{IntInRange}
use Rattle.numbers.specs.declared.Int.{Int}
use Rattle.machine.specs.Scanning.{Valued, fixed_at}
use Rattle.decoder.specs.Holds.{ElementHolds, PatternHolds, PatternsHold}
use Rattle.decoder.specs.Meaning.{patterns_meaning}
use Rattle.decoder.specs.declared.Element as Table
use Rattle.decoder.specs.declared.PatternElement.{PatternElement}
use Rattle.decoder.specs.declared.Stretch.{Stretch}
use Rattle.scan.specs.declared.Element as Lines
use Rattle.scan.specs.Rows.{scan_element, pattern_of, RowGood, GoodRows}
use Rattle.scanning.specs.Splits.{Element, string, fixed, free}
use Rattle.effects.specs.Fillers.{is_filler, named_string, PlacesNamed}
use Rattle.effects.specs.Leaving.{BufferSpells, Completion}
use Rattle.values.specs.Result.{Result, done, stop}
use Rattle.values.specs.Stops.{stop_number}
use Rattle.scan_statement.specs.Putting.{PutRow}

-- an element as its row has it: of a string that is longer than any reference only the length counts, so it is a fixed filler
unfoldable pub rowed : Element → Element
rowed (string w) = cond (ltb 1024 (length w)) (fixed (length w)) (string w)
rowed (fixed n) = fixed n
rowed free = free

-- the values of the first n rows lie in these bytes
abbrev pub values_of : List ℕ → ℕ → List ℕ
values_of values n = take (1024 * n) values

-- row i is this element, and the rows before it are as they were
pub record RowPut (values left rows rows_left : List ℕ) (i : ℕ) (e : Element) : Type 0 where
  pub is : Lines.Element
  pub row : PutRow rows rows_left i is
  pub good : RowGood (values_of left (i + 1)) is
  pub element : scan_element (values_of left (i + 1)) is ≡ rowed e
  pub before : values_of left i ≡ values_of values i

-- a string of n bytes to be put into row i
pub record StringPutting (i n : ℕ) : Type 0 where
  pub few : i < 20
  pub short : n ≤ table_size

-- the first 1,024 of its bytes were written among the values
pub record Stands (values left : List ℕ) (i n : ℕ) (w : List ℕ) : Type 0 where
  pub strings : length values ≡ 20480
  pub bytes : List ℕ
  pub room : length bytes ≡ 1024
  pub left_is : left ≡ splice values (1024 * i) bytes
  pub spells : BufferSpells bytes n w

abbrev pub StringPut : (rows rows_left : List ℕ) → (i n : ℕ) → Type 0
StringPut rows rows_left i n = (values left w : List ℕ) → Stands values left i n w → RowPut values left rows rows_left i (string w)

-- an element of a string expression to be put into row i
pub record ValuePutting (table : List ℕ) (x : Table.Element) (i : ℕ) : Type 0 where
  pub bytes : table_size ≤ length table
  pub holds : ElementHolds x
  pub few : i < 20

pub record ValueDone (values left rows rows_left : List ℕ) (i notes : ℕ) (w : Result (List ℕ)) : Type 0 where
  pub value : List ℕ
  pub work : w ≡ done value notes
  pub row : RowPut values left rows rows_left i (string value)

abbrev pub ValueBy : Completion → (values left rows rows_left : List ℕ) → ℕ → Result (List ℕ) → Type 0
ValueBy (Ok notes) values left rows rows_left i w = ValueDone values left rows rows_left i notes w
ValueBy (Err s) values left rows rows_left i w = w ≡ stop (stop_number s)

-- row i and its place are those of an element of the pattern
pub record ElementRowPut (values left rows rows_left names names_left : List ℕ) (i notes : ℕ) (w : Result Valued) : Type 0 where
  pub valued : Valued
  pub work : w ≡ done valued notes
  pub row : RowPut values left rows rows_left i valued.element
  pub place : ℕ
  pub places : names_left ≡ set names i place
  pub name : valued.names ≡ named_string place

-- a fixed filler to be put into row i
pub record FixedPutting (z : Int) (place i : ℕ) : Type 0 where
  pub range : IntInRange z
  pub known : place < 32
  pub few : i < 20

abbrev pub FixedPut : Int → (place i : ℕ) → (rows rows_left names names_left : List ℕ) → (notes : ℕ) → Type 0
FixedPut z place i rows rows_left names names_left notes =
    (values : List ℕ) → ElementRowPut values values rows rows_left names names_left i notes (fixed_at place z.value)

-- an element of a pattern to be put into row i
pub record ElementPutting (table : List ℕ) (x : PatternElement) (i : ℕ) : Type 0 where
  pub bytes : table_size ≤ length table
  pub searched : ℕ
  pub holds : PatternHolds searched x
  pub few : i < 20

abbrev pub ElementRowPutBy : Completion → (values left rows rows_left names names_left : List ℕ) → ℕ → Result Valued → Type 0
ElementRowPutBy (Ok notes) values left rows rows_left names names_left i w = ElementRowPut values left rows rows_left names names_left i notes w
ElementRowPutBy (Err s) values left rows rows_left names names_left i w = w ≡ stop (stop_number s)

pub record ElementPut (r : Completion) (values left rows rows_left names names_left : List ℕ) (i : ℕ) (w : Result Valued) : Type 0 where
  pub put : ElementRowPutBy r values left rows rows_left names names_left i w

-- a pattern of a table whose values can be put into the buffers
pub record PatternPutting (table : List ℕ) (s : Stretch) : Type 0 where
  pub bytes : table_size ≤ length table
  pub searched : ℕ
  pub pattern : PatternsHold table searched s

-- so many rows and places are those of the elements of a pattern with their values
pub record Rowed (values rows names : List ℕ) (count : ℕ) (vs : List Valued) : Type 0 where
  pub size : length vs ≡ count
  pub good : GoodRows values rows count
  pub pattern : pattern_of values rows count ≡ map (λ v. rowed v.element) vs
  pub places : PlacesNamed names vs

-- of a pattern that holds, the string searched is no filler
abbrev pub Clear : (table : List ℕ) → Stretch → Type 0
Clear table s =
    (searched : ℕ) → searched < 32 → PatternsHold table searched s → is_filler searched (patterns_meaning table s) ≡ false

pub record AllPut (table values rows names : List ℕ) (s : Stretch) (notes : ℕ) (w : Result (List Valued)) : Type 0 where
  pub valued : List Valued
  pub work : w ≡ done valued notes
  pub few : notes ≤ s.count
  pub rows_are : Rowed values rows names s.count valued
  pub clear : Clear table s

abbrev pub AllBy : Completion → (table values rows names : List ℕ) → Stretch → Result (List Valued) → Type 0
AllBy (Ok notes) table values rows names s w = AllPut table values rows names s notes w
AllBy (Err why) table values rows names s w = w ≡ stop (stop_number why)
