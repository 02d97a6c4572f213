-- What the code reads from a table's bytes: the enums stand for what the table's reading says, and stretches and literals lie where their
-- ranges say. Assumes nothing.
use Rattle.std.specs.Prelude.{Bool, Option, Some, None, cond, List, ◌≡◌, ℕ, ◌+◌, ◌<◌, ◌^◌, eqb, leb}
use Rattle.syntax.specs.Program.{Operator, plus, minus, times, over}
use Rattle.encoding.specs.Kinds.{constant_kind, operator_number, parts, both_steps}
use Rattle.encoding.specs.Numerals.{numeral_at}
use Rattle.encoding.specs.Table as Table
use Rattle.encoding.specs.Table.{literals_at}
use Rattle.encoding.specs.TableReading.{cell_at, read_row_at, range_from, range_count, range_more, element_of_cell, pattern_of_cell, comparison_of}
use Rattle.encoding.specs.TableReading.{direction_of, operand_of_cell, part_of_cell, steps_in, statement_of_row}
use Rattle.numbers.specs.Numbers.{comparison_meaning}
use Rattle.encoding.specs.Meaning.{cell_meaning, row_meaning, branch_meaning, direction_meaning}
use Rattle.decoder.specs.Meaning.{part_meaning, operand_meaning, element_meaning, pattern_meaning, statement_meaning}
use Rattle.encoding.specs.declared.cells.Cell.{Cell}
use Rattle.encoding.specs.declared.cells.Row.{Row}
use Rattle.encoding.specs.declared.cells.Counts.{Counts}
use Rattle.decoder.specs.declared.Element.{Element}
use Rattle.decoder.specs.declared.Element.TheVariants.{Literal, Part, Text}
use Rattle.decoder.specs.declared.PatternElement.{PatternElement}
use Rattle.decoder.specs.declared.PatternElement.TheVariants.{Value, Free, Fixed}
use Rattle.decoder.specs.declared.Stretch.{Stretch}
use Rattle.decoder.specs.declared.If.{If}
use Rattle.decoder.specs.declared.Scan as Scan
use Rattle.decoder.specs.declared.Statement.{Statement}
use Rattle.decoder.specs.declared.Statement.TheVariants as statements

-- a cell that was read at a place; its value has 6 bytes
pub record CellDecoded (t : List ℕ) (at : ℕ) (c : Cell) : Type 0 where
  pub same : cell_meaning c ≡ cell_at t at
  pub small : c.value < 2 ^ 48

-- and so have those of a row
pub record SmallRow (r : Row) : Type 0 where
  pub left : r.left.value < 2 ^ 48
  pub right : r.right.value < 2 ^ 48

-- a row that was read at a place
pub record RowDecoded (t : List ℕ) (at : ℕ) (r : Row) : Type 0 where
  pub same : row_meaning r ≡ read_row_at t at
  pub small : SmallRow r

-- a stretch is the one that a range says
pub record StretchRead (range : ℕ) (s : Stretch) : Type 0 where
  pub from : s.from ≡ range_from range
  pub count : s.count ≡ range_count range

-- the ends of a literal are those that a range says
abbrev pub EndsRead : ℕ → Element → Type 0
EndsRead range (Literal from to) = (from ≡ literals_at + range_from range) × (to ≡ literals_at + range_from range + range_count range)
EndsRead range (Part p) = Unit {0}
EndsRead range (Text n m) = Unit {0}

-- whether a kind is one of operands, which come behind those of operators and signs
abbrev pub is_operand_kind : ℕ → Bool
is_operand_kind k = leb constant_kind.number k

-- the operator of a kind, over for any that is none of the others'
unfoldable pub operator_of_kind : ℕ → Operator
unfolding operator_number
operator_of_kind k =
    cond (eqb k (operator_number plus)) plus (cond (eqb k (operator_number minus)) minus (cond (eqb k (operator_number times)) times over))

-- an element that was read from a cell
pub record ElementDecoded (t : List ℕ) (c : Table.Cell) (x : Element) : Type 0 where
  pub means : element_meaning t x ≡ element_of_cell t c
  pub ends : EndsRead c.value x

abbrev pub PatternEndsRead : ℕ → PatternElement → Type 0
PatternEndsRead range (Value x) = EndsRead range x
PatternEndsRead range (Free s) = Unit {0}
PatternEndsRead range (Fixed s n) = Unit {0}

-- an element of a pattern that was read from a cell
pub record PatternRead (t : List ℕ) (c : Table.Cell) (x : PatternElement) : Type 0 where
  pub means : pattern_meaning t x ≡ pattern_of_cell t c
  pub ends : PatternEndsRead c.value x

-- a replacement stands behind its pattern
pub record BehindRead (range : ℕ) (s : Stretch) : Type 0 where
  pub from : s.from ≡ range_from range + range_count range
  pub count : s.count ≡ range_more range

abbrev pub ReplacementDecoded : ℕ → Option Stretch → Type 0
ReplacementDecoded range None = Unit {0}
ReplacementDecoded range (Some s) = BehindRead range s

-- the stretches of a statement are those that the row's range says
pub record ScanStretches (range : ℕ) (x : Scan.Scan) : Type 0 where
  pub pattern : StretchRead range x.pattern
  pub replacement : ReplacementDecoded range x.replacement

abbrev pub StretchesRead : ℕ → Statement → Type 0
StretchesRead range (statements.SetNumber i s) = StretchRead range s
StretchesRead range (statements.SetString p s) = StretchRead range s
StretchesRead range (statements.Goto k) = Unit {0}
StretchesRead range statements.Finish = Unit {0}
StretchesRead range (statements.IfNull s b) = Unit {0}
StretchesRead range (statements.IfNumeric p b) = Unit {0}
StretchesRead range (statements.If x b) = Unit {0}
StretchesRead range (statements.Scan x) = ScanStretches range x
StretchesRead range (statements.Read p b) = Unit {0}
StretchesRead range (statements.Write s) = StretchRead range s
StretchesRead range (statements.Execute k) = Unit {0}
StretchesRead range statements.Return = Unit {0}

-- a statement that was read from a row
pub record StatementDecoded (t : List ℕ) (r : Table.Row) (x : Statement) : Type 0 where
  pub means : statement_meaning t x ≡ statement_of_row t r
  pub stretches : StretchesRead r.right.value x

-- two operands and a sign that were read from a row
pub record IfDecoded (r : Table.Row) (x : If) : Type 0 where
  pub left : operand_meaning x.left ≡ operand_of_cell r.left
  pub right : operand_meaning x.right ≡ operand_of_cell r.right
  pub sign : comparison_meaning x.sign ≡ comparison_of r.flag

-- a scan that was read from a row, with a replacement
pub record ScanDecoded (r : Table.Row) (put : Option Stretch) (x : Scan.Scan) : Type 0 where
  pub direction : direction_meaning x.direction ≡ direction_of r.flag
  pub part : part_meaning x.part ≡ part_of_cell parts r.left
  pub branch : branch_meaning x.branch ≡ steps_in both_steps r
  pub pattern : StretchRead r.right.value x.pattern
  pub replacement : x.replacement ≡ put

-- the counts of the header
pub record CountsRead (t : List ℕ) (c : Counts) : Type 0 where
  pub steps : c.steps ≡ numeral_at 2 t 2
  pub strings : c.strings ≡ numeral_at 2 t 4
  pub numbers : c.numbers ≡ numeral_at 2 t 6
  pub elements : c.elements ≡ numeral_at 2 t 8
  pub items : c.items ≡ numeral_at 2 t 10
  pub literals : c.literals ≡ numeral_at 2 t 12
