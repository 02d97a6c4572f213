-- What the helpers of the cycle do: the mark of a sign or an operator at a place, an item written, a cursor before `)`.
-- Assumes nothing.
use Rattle.std.specs.Prelude.{Option, Some, None, is_some, Bool, true, false, cond, ◌||◌, List, [], ◌∷◌, ◌≡◌, ℕ, ◌+◌, ◌≤◌, ◌<◌, length, drop}
use Rattle.base.specs.Lists.{begins}
use Rattle.base.specs.Text.{bytes}
use Rattle.encoding.specs.Table as Table
use Rattle.syntax.specs.Numeric.{leading_sign, sum_operator, product_operator}
use Rattle.syntax.specs.Program.{Item, Operator, operator}
use Rattle.syntax.specs.Parsing.{Parsed, got, one_item}
use Rattle.syntax.specs.Lexemes.{is_sign}
use Rattle.symbols.specs.Entries.{mentions_in}
use Rattle.symbols.specs.Items.{with_item, with_items}
use Rattle.symbols.specs.declared.Cursor.{Cursor}
use Rattle.symbols.specs.declared.Mentioned.{Mentioned}
use Rattle.symbols.specs.declared.known.Known.{Known}
use Rattle.numeric_parser.specs.Operands.{Onward, behind_mark}
use Rattle.numeric_parser.specs.declared.Mark.{Mark}
use Rattle.numeric_parser.specs.Reads.{waiting, FactorRead}

-- the mark at a place, of two that may stand there
abbrev pub mark_at : (first : ℕ) (one : Mark) (second : ℕ) (other : Mark) (text : List ℕ) (at : ℕ) → Option Mark
mark_at first one second other text at =
    cond (begins (first ∷ []) (drop at text)) (Some one) (cond (begins (second ∷ []) (drop at text)) (Some other) None)

-- the sign at a place, if any, is the mark
pub record SignAt (text : List ℕ) (at : ℕ) (mark : Option Mark) : Type 0 where
  pub is : leading_sign (drop at text) ≡ got (waiting mark) (mentions_in [] (length (waiting mark)) [] 0) (drop (at + length (waiting mark)) text)
  pub inside : at ≤ length text → at + length (waiting mark) ≤ length text

-- an operator stands at a place, and the mark is it
pub record OperatorStands (x : Parsed Operator) (text : List ℕ) (at : ℕ) (mark : Option Mark) : Type 0 where
  pub which : Operator
  pub waits : waiting mark ≡ operator which ∷ []
  pub is : x ≡ got which one_item (drop (at + 1) text)
  pub further : at < length text

-- whether an operator stands at a place, as a test says, and which
pub record OperatorAt (test : Bool) (x : Parsed Operator) (text : List ℕ) (at : ℕ) (mark : Option Mark) : Type 0 where
  pub none : is_some mark ≡ false → test ≡ false
  pub sign : is_some mark ≡ true → test ≡ true
  pub stands : is_some mark ≡ true → OperatorStands x text at mark

-- `+` or `-`
abbrev pub SumAt : (text : List ℕ) (at : ℕ) (mark : Option Mark) → Type 0
SumAt text at = OperatorAt (is_sign (drop at text)) (sum_operator (drop at text)) text at

-- `*` or `/`
abbrev pub ProductAt : (text : List ℕ) (at : ℕ) (mark : Option Mark) → Type 0
ProductAt text at =
    OperatorAt (begins (bytes "*") (drop at text) || begins (bytes "/") (drop at text)) (product_operator (drop at text)) text at

-- one cell is written as the next item
pub record PutsCell (table : List ℕ) (c : Cursor) (v : Table.Cell) (table' : List ℕ) (d : Cursor) : Type 0 where
  pub written : table' ≡ with_item table c.items v
  pub goes : Onward c 0 1 d
  pub at : d.at ≡ c.at

-- items are written
pub record ItemsPut (table : List ℕ) (c : Cursor) (is : List Item) (table' : List ℕ) (d : Cursor) : Type 0 where
  pub written : table' ≡ with_items table c.items is
  pub goes : Onward c 0 (length is) d
  pub at : d.at ≡ c.at

-- where no parenthesis stands, a factor at any depth
abbrev pub OperandWritten : (text : List ℕ) (known : Known) (table : List ℕ) (m : Mentioned) (c : Cursor) → Option Cursor
    → (table' : List ℕ) (m' : Mentioned) → Type 0
OperandWritten text known table m c r table' m' =
    (depth : ℕ) → begins (bytes "(") (drop c.at text) ≡ false → FactorRead text known table m c depth r table' m'

-- the cursor before `)` goes behind it
abbrev pub closes : List ℕ → Option Cursor → Option Cursor
closes text (Some d) = behind_mark text 41 d
closes text None = None
