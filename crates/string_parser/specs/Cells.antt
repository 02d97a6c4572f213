-- What the readers of STRING calls and fillers do: the cell that stands for what was read. Assumes nothing.
use Rattle.std.specs.Prelude.{Option, true, false, List, ◌≡◌, ℕ, pos, drop}
use Rattle.base.specs.Current.{current}
use Rattle.base.specs.Lists.{begins}
use Rattle.base.specs.Text.{bytes}
use Rattle.encoding.specs.Table as Table
use Rattle.encoding.specs.Table.{pattern_cell}
use Rattle.syntax.specs.Program as Program
use Rattle.syntax.specs.Program.{Length, constantly, numbered, Element}
use Rattle.syntax.specs.Parsing.{Parsed, ◌>>=◌, succeed, expect}
use Rattle.syntax.specs.Strings.{text_call, filler_at}
use Rattle.syntax.specs.Lexemes.{Resolution, signed, number_name}
use Rattle.symbols.specs.Environment.{places_in}
use Rattle.symbols.specs.declared.Cursor.{Cursor}
use Rattle.symbols.specs.declared.Mentioned.{Mentioned}
use Rattle.symbols.specs.declared.known.Known.{Known}
use Rattle.encoding.specs.declared.cells.Cell.{Cell}
use Rattle.numeric_parser.specs.Operands.{OperandRead}

-- the cell of an element that has no literal bytes: it doesn't depend on those before
abbrev pub bare_cell : Element → Table.Cell
bare_cell x = pattern_cell 0 (Program.value x)

-- the m of STRING(n,m) with the `)`
abbrev pub number_end : Resolution → Length → List ℕ → Parsed Element
number_end p n bs =
    number_name current p bs >>= λ (m, rest). expect (bytes ")") rest >>= λ (_, rest). succeed (Program.string_call n m) rest

abbrev pub number_follows : Resolution → Length → List ℕ → Parsed Element
number_follows p n bs = expect (bytes ",") bs >>= λ (_, rest). number_end p n rest

-- the two forms of a STRING call
abbrev pub constant_call : Resolution → List ℕ → Parsed Element
constant_call p bs = signed current bs >>= λ (n, rest). number_follows p (constantly n) rest

abbrev pub number_or_end : Resolution → ℕ → List ℕ → Parsed Element
number_or_end p i rest = elim (begins (bytes ",") rest) [
  | true ↦ number_end p (numbered i) (drop 1 rest)
  | false ↦ expect (bytes ")") rest >>= λ (_, rest). succeed (Program.string_call (constantly (pos 0)) i) rest
]

abbrev pub number_call : Resolution → List ℕ → Parsed Element
number_call p bs = number_name current p bs >>= λ (i, rest). number_or_end p i rest

-- a kind and a value are the cell of STRING with this n
abbrev pub LengthCell : Length → (kind value : ℕ) → Type 0
LengthCell n kind v = (m : ℕ) → bare_cell (Program.string_call n m) ≡ Table.cell kind m v

-- each reader at the cursor
abbrev pub NumberEnds : (text : List ℕ) (known : Known) (m : Mentioned) (c : Cursor) (kind value : ℕ)
    → Option (Cell × Cursor) → (m' : Mentioned) → Type 0
NumberEnds text known m c kind v r m' =
    (n : Length) → LengthCell n kind v → OperandRead bare_cell text m c (number_end (places_in known) n (drop c.at text)) r m'

abbrev pub NumberFollows : (text : List ℕ) (known : Known) (m : Mentioned) (c : Cursor) (kind value : ℕ)
    → Option (Cell × Cursor) → (m' : Mentioned) → Type 0
NumberFollows text known m c kind v r m' =
    (n : Length) → LengthCell n kind v → OperandRead bare_cell text m c (number_follows (places_in known) n (drop c.at text)) r m'

abbrev pub ConstantCalled : (text : List ℕ) (known : Known) (m : Mentioned) (c : Cursor) → Option (Cell × Cursor) → (m' : Mentioned) → Type 0
ConstantCalled text known m c = OperandRead bare_cell text m c (constant_call (places_in known) (drop c.at text))

abbrev pub NumberCalled : (text : List ℕ) (known : Known) (m : Mentioned) (c : Cursor) → Option (Cell × Cursor) → (m' : Mentioned) → Type 0
NumberCalled text known m c = OperandRead bare_cell text m c (number_call (places_in known) (drop c.at text))

abbrev pub TextCalled : (text : List ℕ) (known : Known) (m : Mentioned) (c : Cursor) → Option (Cell × Cursor) → (m' : Mentioned) → Type 0
TextCalled text known m c = OperandRead bare_cell text m c (text_call current (places_in known) (drop c.at text))

abbrev pub FillerRead : (text : List ℕ) (known : Known) (m : Mentioned) (c : Cursor) → Option (Cell × Cursor) → (m' : Mentioned) → Type 0
FillerRead text known m c = OperandRead (pattern_cell 0) text m c (filler_at current (places_in known) (drop c.at text))
