-- What a run may rely on in the decoded enums: places, steps, integers and ends are in range. Assumes nothing.
use Rattle.std.specs.Prelude as Prelude
use Rattle.std.specs.Prelude.{Some, None, true, List, ◌≡◌, ℕ, ◌+◌, ◌*◌, ◌≤◌, ◌<◌}
use Rattle.base.specs.Current.{table_size}
use Rattle.base.specs.Limits as Limits
use Rattle.encoding.specs.Rules.{balanced}
use Rattle.encoding.specs.Table.{items_at, elements_at}
use Rattle.encoding.specs.TableReading.{cell_at, item_of_cell}
use Rattle.numbers.specs.Numbers.{IntInRange}
use Rattle.decoder.specs.Meaning.{item_meaning, items_meaning}
use Rattle.decoder.specs.Reading.{ElementDecoded, PatternRead}
use Rattle.decoder.specs.declared.Length.{Length}
use Rattle.decoder.specs.declared.Length.TheVariants as lengths
use Rattle.decoder.specs.declared.Part.{Part}
use Rattle.decoder.specs.declared.Part.TheVariants.{Whole, First}
use Rattle.decoder.specs.declared.Operand.{Operand}
use Rattle.decoder.specs.declared.Operand.TheVariants as operands
use Rattle.decoder.specs.declared.Item.{Item}
use Rattle.decoder.specs.declared.Item.TheVariants as items
use Rattle.decoder.specs.declared.Element.{Element}
use Rattle.decoder.specs.declared.Element.TheVariants as elements
use Rattle.decoder.specs.declared.PatternElement.{PatternElement}
use Rattle.decoder.specs.declared.PatternElement.TheVariants.{Value, Free, Fixed}
use Rattle.encoding.specs.declared.cells.Branch.{Branch}
use Rattle.decoder.specs.declared.Stretch.{Stretch}
use Rattle.decoder.specs.declared.If.{If}
use Rattle.decoder.specs.declared.Scan as Scan
use Rattle.decoder.specs.declared.Statement.{Statement}
use Rattle.decoder.specs.declared.Statement.TheVariants as statements

-- a length may be negative: a number's value always, a constant as the n of STRING(n,m)
abbrev pub LengthHolds : Length → Type 0
LengthHolds (lengths.Constant z) = IntInRange z
LengthHolds (lengths.Number i) = i < Limits.numbers

abbrev pub PartHolds : Part → Type 0
PartHolds (Whole s) = s < Limits.strings
PartHolds (First s n) = (s < Limits.strings) × LengthHolds n

abbrev pub OperandHolds : Operand → Type 0
OperandHolds (operands.Constant z) = IntInRange z
OperandHolds (operands.Number i) = i < Limits.numbers
OperandHolds (operands.LengthOf s) = s < Limits.strings
OperandHolds (operands.NumberOf p) = PartHolds p

abbrev pub ItemHolds : Item → Type 0
ItemHolds (items.Operand a) = OperandHolds a
ItemHolds (items.Operator o) = Unit {0}
ItemHolds (items.Sign s) = Unit {0}

-- a literal has bytes, and they are the table's
pub record LiteralHolds (from to : ℕ) : Type 0 where
  pub order : from < to
  pub inside : to ≤ table_size

abbrev pub ElementHolds : Element → Type 0
ElementHolds (elements.Literal from to) = LiteralHolds from to
ElementHolds (elements.Part p) = PartHolds p
ElementHolds (elements.Text n m) = LengthHolds n × (m < Limits.numbers)

-- the place of the string that is searched
abbrev pub searched_place : Part → ℕ
searched_place (Whole s) = s
searched_place (First s n) = s

-- a filler is a string other than the one that is searched
pub record FillerHolds (reference s : ℕ) : Type 0 where
  pub place : s < Limits.strings
  pub other : s ≡ reference → ⊥

abbrev pub PatternHolds : (reference : ℕ) → PatternElement → Type 0
PatternHolds r (Value x) = ElementHolds x
PatternHolds r (Free s) = FillerHolds r s
PatternHolds r (Fixed s n) = FillerHolds r s × LengthHolds n

-- cell k is one of a stretch
pub record StretchHas (s : Stretch) (k : ℕ) : Type 0 where
  pub low : s.from ≤ k
  pub high : k < s.from + s.count

-- the items of a stretch are there, hold, and are balanced
pub record ItemsHold (t : List ℕ) (s : Stretch) : Type 0 where
  pub inside : s.from + s.count ≤ Limits.items
  pub whole : balanced 0 (items_meaning t s) ≡ true
  pub each : (k : ℕ) (x : Item) → StretchHas s k → item_meaning x ≡ item_of_cell (cell_at t (items_at + 8 * k)) → ItemHolds x

-- the elements of a stretch are there, are few, and hold
pub record ElementsHold (t : List ℕ) (s : Stretch) : Type 0 where
  pub inside : s.from + s.count ≤ Limits.elements
  pub few : s.count ≤ Limits.row_elements
  pub each : (k : ℕ) (x : Element) → StretchHas s k → ElementDecoded t (cell_at t (elements_at + 8 * k)) x → ElementHolds x

pub record PatternsHold (t : List ℕ) (reference : ℕ) (s : Stretch) : Type 0 where
  pub inside : s.from + s.count ≤ Limits.elements
  pub few : s.count ≤ Limits.row_elements
  pub each : (k : ℕ) (x : PatternElement) → StretchHas s k → PatternRead t (cell_at t (elements_at + 8 * k)) x → PatternHolds reference x

abbrev pub ReplacementHolds : List ℕ → Prelude.Option Stretch → Type 0
ReplacementHolds t None = Unit {0}
ReplacementHolds t (Some s) = ElementsHold t s

-- both ways lead to one of so many steps
pub record BranchHolds (steps : ℕ) (b : Branch) : Type 0 where
  pub success : b.success < steps
  pub failure : b.failure < steps

pub record IfHolds (x : If) : Type 0 where
  pub left : OperandHolds x.left
  pub right : OperandHolds x.right

pub record ScanHolds (t : List ℕ) (steps : ℕ) (x : Scan.Scan) : Type 0 where
  pub part : PartHolds x.part
  pub pattern : PatternsHold t (searched_place x.part) x.pattern
  pub replacement : ReplacementHolds t x.replacement
  pub branch : BranchHolds steps x.branch

-- a statement of a program of so many steps
abbrev pub StatementHolds : List ℕ → (steps : ℕ) → Statement → Type 0
StatementHolds t steps (statements.SetNumber i s) = (i < Limits.numbers) × ItemsHold t s
StatementHolds t steps (statements.SetString p s) = PartHolds p × ElementsHold t s
StatementHolds t steps (statements.Goto k) = k < steps
StatementHolds t steps statements.Finish = Unit {0}
StatementHolds t steps (statements.IfNull s b) = (s < Limits.strings) × BranchHolds steps b
StatementHolds t steps (statements.IfNumeric p b) = PartHolds p × BranchHolds steps b
StatementHolds t steps (statements.If x b) = IfHolds x × BranchHolds steps b
StatementHolds t steps (statements.Scan x) = ScanHolds t steps x
StatementHolds t steps (statements.Read p b) = PartHolds p × BranchHolds steps b
StatementHolds t steps (statements.Write s) = ElementsHold t s
StatementHolds t steps (statements.Execute k) = k < steps
StatementHolds t steps statements.Return = Unit {0}
