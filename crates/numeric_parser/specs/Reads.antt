-- What the readers of expressions do: the items read stand written in the table, operators and signs behind what they work on.
-- Assumes nothing.
use Rattle.std.specs.Prelude.{Option, Some, None, List, [], ◌∷◌, ◌++◌, ◌≡◌, ℕ, ◌+◌, ◌≤◌, length, drop}
use Rattle.base.specs.Current.{current}
use Rattle.syntax.specs.Fuel.{expression_from, term_from, factor_from}
use Rattle.syntax.specs.Program.{Item, operator, sign, plus, minus, times, over, positive, negative}
use Rattle.syntax.specs.Parsing.{Parsed, got, broken}
use Rattle.symbols.specs.Entries.{NameEntry, mentions_in}
use Rattle.symbols.specs.Items.{with_items}
use Rattle.symbols.specs.Environment.{places_in}
use Rattle.symbols.specs.declared.Cursor.{Cursor}
use Rattle.symbols.specs.declared.Mentioned.{Mentioned}
use Rattle.symbols.specs.declared.known.Known.{Known}
use Rattle.card_reader.specs.Letters.{letters}
use Rattle.numeric_parser.specs.Operands.{Onward, ReaderReady, Noting}
use Rattle.numeric_parser.specs.declared.Mark.{Mark}
use Rattle.numeric_parser.specs.declared.Mark.TheVariants.{Plus, Minus, Times, Over, Positive, Negative}

-- the reading x gives items behind those read before
pub record GetsItems (before : List Item) (text table : List ℕ) (m : Mentioned) (c : Cursor) (x : Parsed (List Item)) (table' : List ℕ)
    (m' : Mentioned) (d : Cursor) : Type 0 where
  pub items : List Item
  pub entries : List NameEntry
  pub is : x ≡ got (before ++ items) (mentions_in entries (length items) [] 0) (drop d.at text)
  pub written : table' ≡ with_items table c.items items
  pub noting : Noting m c.names entries m'
  pub goes : Onward c (length entries) (length items) d
  pub ready : ReaderReady text d
  pub few : length entries + letters (drop d.at text) ≤ letters (drop c.at text)
  pub short : length items + c.at ≤ d.at

abbrev pub ItemsAnswer : (before : List Item) (text table : List ℕ) (m : Mentioned) (c : Cursor) → Parsed (List Item) → Option Cursor
    → (table' : List ℕ) (m' : Mentioned) → Type 0
ItemsAnswer before text table m c x (Some d) table' m' =
    GetsItems before text table m c x table' m' d
ItemsAnswer before text table m c x None table' m' = x ≡ broken

-- the one relation of all readers of items
pub record ItemsRead (before : List Item) (text table : List ℕ) (m : Mentioned) (c : Cursor) (x : Parsed (List Item)) (r : Option Cursor)
    (table' : List ℕ) (m' : Mentioned) : Type 0 where
  pub answer : ItemsAnswer before text table m c x r table' m'

-- the item that a mark stands for
abbrev pub mark_item : Mark → Item
mark_item Plus = operator plus
mark_item Minus = operator minus
mark_item Times = operator times
mark_item Over = operator over
mark_item Positive = sign positive
mark_item Negative = sign negative

-- what waits by a mark: nothing where no mark stands
abbrev pub waiting : Option Mark → List Item
waiting (Some m) = mark_item m ∷ []
waiting None = []

-- each reader of document 01 at the cursor
abbrev pub ExpressionRead : (text : List ℕ) (known : Known) (table : List ℕ) (m : Mentioned) (c : Cursor) (depth : ℕ) → Option Cursor
    → (table' : List ℕ) (m' : Mentioned) → Type 0
ExpressionRead text known table m c depth =
    ItemsRead [] text table m c (expression_from current (places_in known) depth (drop c.at text))

abbrev pub TermRead : (text : List ℕ) (known : Known) (table : List ℕ) (m : Mentioned) (c : Cursor) (depth : ℕ) → Option Cursor
    → (table' : List ℕ) (m' : Mentioned) → Type 0
TermRead text known table m c depth =
    ItemsRead [] text table m c (term_from current (places_in known) depth (drop c.at text))

abbrev pub FactorRead : (text : List ℕ) (known : Known) (table : List ℕ) (m : Mentioned) (c : Cursor) (depth : ℕ) → Option Cursor
    → (table' : List ℕ) (m' : Mentioned) → Type 0
FactorRead text known table m c depth =
    ItemsRead [] text table m c (factor_from current (places_in known) depth (drop c.at text))
