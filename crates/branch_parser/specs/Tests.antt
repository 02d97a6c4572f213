-- What the readers of tests do. Assumes nothing.
use Rattle.std.specs.Prelude.{Option, Some, None, List, ◌≡◌, ℕ, ◌+◌, ◌≤◌, length, drop}
use Rattle.base.specs.Current.{current}
use Rattle.encoding.specs.Table as Table
use Rattle.encoding.specs.Table.{operand_cell, statement_row}
use Rattle.syntax.specs.Numeric.{comparison, if_operand, test}
use Rattle.syntax.specs.Program as Program
use Rattle.syntax.specs.Program.{compares, Test, if_test}
use Rattle.syntax.specs.Parsing.{Parsed, broken, ◌>>=◌, succeed}
use Rattle.syntax.specs.Lexemes.{Resolution}
use Rattle.numbers.specs.Numbers.{comparison_meaning}
use Rattle.symbols.specs.Environment.{places_in}
use Rattle.symbols.specs.declared.Cursor.{Cursor}
use Rattle.symbols.specs.declared.Mentioned.{Mentioned}
use Rattle.symbols.specs.declared.known.Known.{Known}
use Rattle.encoding.specs.Meaning.{cell_meaning}
use Rattle.numeric_parser.specs.Operands.{OperandRead, behind_mark}
use Rattle.encoding.specs.declared.cells.Cell.{Cell}
use Rattle.branch_parser.specs.Rows.{DraftRead}
use Rattle.encoding.specs.declared.cells.Row.{Row}
use Rattle.branch_parser.specs.declared.tests.Sign.{Sign}

-- a sign stands at a place
pub record SignStands (text : List ℕ) (at : ℕ) (r : Sign) : Type 0 where
  pub is : comparison (drop at text) ≡ succeed (comparison_meaning r.which) (drop (at + r.size) text)
  pub inside : at + r.size ≤ length text

-- the sign at a place, if one stands there
abbrev pub SignAnswer : (text : List ℕ) (at : ℕ) → Option Sign → Type 0
SignAnswer text at (Some r) = SignStands text at r
SignAnswer text at None = comparison (drop at text) ≡ broken

pub record ComparisonAt (text : List ℕ) (at : ℕ) (r : Option Sign) : Type 0 where
  pub answer : SignAnswer text at r

-- a test has no steps yet
abbrev pub nowhere : Program.Branch
nowhere = record { success = 0; failure = 0 }

abbrev pub test_alone : Test → Table.Row
test_alone t = statement_row 0 0 (if_test t nowhere)

-- a row of a kind with one cell
abbrev pub one_cell : ℕ → Cell → Row
one_cell kind v =
    record { kind = kind; flag = 0; branch = record { success = 0; failure = 0 }; left = v; right = record { kind = 0; place = 0; value = 0 } }

-- a row with a cursor, if there is one
abbrev pub rowed_at : Row → Option Cursor → Option (Row × Cursor)
rowed_at row (Some d) = Some (row, d)
rowed_at row None = None

-- a test of one cell, its cursor behind `)`
abbrev pub tested_by : List ℕ → ℕ → Option (Cell × Cursor) → Option (Row × Cursor)
tested_by text kind (Some (v, d)) = rowed_at (one_cell kind v) (behind_mark text 41 d)
tested_by text kind None = None

-- what follows the left operand of a comparison
unfoldable pub compared_to : (p : Resolution) → Program.Operand → List ℕ → Parsed Test
compared_to p a bs = do
  (c, rest) ← comparison bs
  (b, rest) ← if_operand current p rest
  succeed (compares a c b) rest

unfoldable pub comparing_at : (p : Resolution) → List ℕ → Parsed Test
comparing_at p bs = do
  (a, rest) ← if_operand current p bs
  compared_to p a rest

-- each reader at the cursor
abbrev pub IfOperandRead : (text : List ℕ) (known : Known) (m : Mentioned) (c : Cursor) → Option (Cell × Cursor) → (m' : Mentioned) → Type 0
IfOperandRead text known m c = OperandRead operand_cell text m c (if_operand current (places_in known) (drop c.at text))

abbrev pub ComparedRead : (text : List ℕ) (known : Known) (m : Mentioned) (c : Cursor) (left : Cell) → Option (Row × Cursor)
    → (m' : Mentioned) → Type 0
ComparedRead text known m c left r m' =
    (a : Program.Operand) → operand_cell a ≡ cell_meaning left
    → DraftRead test_alone text m c (compared_to (places_in known) a (drop c.at text)) r m'

abbrev pub ComparingRead : (text : List ℕ) (known : Known) (m : Mentioned) (c : Cursor) → Option (Row × Cursor) → (m' : Mentioned) → Type 0
ComparingRead text known m c = DraftRead test_alone text m c (comparing_at (places_in known) (drop c.at text))

abbrev pub TestRead : (text : List ℕ) (known : Known) (m : Mentioned) (c : Cursor) → Option (Row × Cursor) → (m' : Mentioned) → Type 0
TestRead text known m c = DraftRead test_alone text m c (test current (places_in known) (drop c.at text))
