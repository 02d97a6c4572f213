-- What the readers of string expressions and patterns do: the elements read stand written in the table, with their literal bytes.
-- Assumes nothing.
use Rattle.std.specs.Prelude.{Option, Some, None, cond, ◌||◌, List, [], ◌∷◌, map, ◌≡◌, ℕ, ◌+◌, ◌-◌, ◌≤◌, ◌<◌, max, eqb, ltb, length, take, drop}
use Rattle.base.specs.Current.{current}
use Rattle.base.specs.Limits as Limits
use Rattle.base.specs.Lists.{any}
use Rattle.encoding.specs.Kinds.{literal_kind}
use Rattle.encoding.specs.Table as Table
use Rattle.encoding.specs.Table.{range_value, all_literals}
use Rattle.syntax.specs.Program.{Element, literal, PatternElement, value}
use Rattle.syntax.specs.Parsing.{Parsed, got, broken}
use Rattle.syntax.specs.Strings as Strings
use Rattle.syntax.specs.Lexemes.{Resolution, no_role}
use Rattle.symbols.specs.Bounds.{far_enough}
use Rattle.symbols.specs.Elements.{with_element, with_literals, with_elements}
use Rattle.symbols.specs.Entries.{NameEntry, role_of, mentions_in}
use Rattle.symbols.specs.Environment.{places_in}
use Rattle.symbols.specs.declared.Cursor.{Cursor}
use Rattle.symbols.specs.declared.Mentioned.{Mentioned}
use Rattle.symbols.specs.declared.known.Known.{Known}
use Rattle.symbols.specs.declared.tags.Role.{Role}
use Rattle.encoding.specs.declared.cells.Cell.{Cell}
use Rattle.encoding.specs.Meaning.{cell_meaning}
use Rattle.numeric_parser.specs.Operands.{ReaderReady, Noting}
use Rattle.card_reader.specs.Letters.{letters}
use Rattle.card_reader.specs.Packs.{longest_text}
use Rattle.string_parser.specs.declared.Elements.{Elements}
use Rattle.string_parser.specs.declared.Elements.TheVariants.{OfString, OfPattern}

-- a cursor d behind c by n names, by these elements and by rows of these lengths
pub record CursorPasses (c : Cursor) (n : ℕ) (es : List PatternElement) (rows : List ℕ) (d : Cursor) : Type 0 where
  pub names : d.names ≡ c.names + n
  pub items : d.items ≡ c.items
  pub elements : d.elements ≡ c.elements + length es
  pub literals : d.literals ≡ c.literals + length (all_literals es)
  pub longest : ltb Limits.row_elements d.longest ≡ (ltb Limits.row_elements c.longest || any (ltb Limits.row_elements) rows)

-- the reading x gives the value a; these elements stand written, of whole rows so many in each
pub record GetsElements {A : Type 0} (text table : List ℕ) (m : Mentioned) (c : Cursor) (x : Parsed A) (a : A) (es : List PatternElement)
    (rows : List ℕ) (table' : List ℕ) (m' : Mentioned) (d : Cursor) : Type 0 where
  pub entries : List NameEntry
  pub is : x ≡ got a (mentions_in entries 0 rows (length (all_literals es))) (drop d.at text)
  pub written : table' ≡ with_elements table c.elements c.literals es
  pub noting : Noting m c.names entries m'
  pub goes : CursorPasses c (length entries) es rows d
  pub ready : ReaderReady text d
  pub few : length entries + letters (drop d.at text) ≤ letters (drop c.at text)
  pub short : length es + c.at ≤ d.at

-- the rows that are mentioned where a row of n elements is read: none where nothing stands
unfoldable pub rows_of : ℕ → List ℕ
rows_of n = cond (eqb n 0) [] (n ∷ [])

-- a row of values is read, each of which is an element of a pattern
pub record GetsRow {A : Type 0} (f : List A → List PatternElement) (text table : List ℕ) (m : Mentioned) (c : Cursor) (x : Parsed (List A))
    (table' : List ℕ) (m' : Mentioned) (d : Cursor) : Type 0 where
  pub values : List A
  pub gets : GetsElements text table m c x values (f values) (rows_of (length values)) table' m' d
  pub size : d.elements ≡ c.elements + length values

abbrev pub RowAnswer : {A : Type 0} (f : List A → List PatternElement) (text table : List ℕ) (m : Mentioned) (c : Cursor) → Parsed (List A)
    → Option Cursor → (table' : List ℕ) (m' : Mentioned) → Type 0
RowAnswer f text table m c x (Some d) table' m' =
    GetsRow f text table m c x table' m' d
RowAnswer f text table m c x None table' m' = x ≡ broken

pub record RowRead {A : Type 0} (f : List A → List PatternElement) (text table : List ℕ) (m : Mentioned) (c : Cursor) (x : Parsed (List A))
    (r : Option Cursor) (table' : List ℕ) (m' : Mentioned) : Type 0 where
  pub answer : RowAnswer f text table m c x r table' m'

-- the cursor one element further
abbrev pub one_more : Cursor → Cursor
one_more c =
    record {
      at = c.at;
      names = c.names;
      items = c.items;
      elements = c.elements + 1;
      literals = c.literals;
      longest = c.longest;
    }

-- the outcome once a cell that was read is written, and the table with it
abbrev pub cell_written : Option (Cell × Cursor) → Option Cursor
cell_written (Some (v, d)) = Some (one_more d)
cell_written None = None

abbrev pub celled : List ℕ → Option (Cell × Cursor) → List ℕ
celled table (Some (v, d)) = with_element table d.elements (cell_meaning v)
celled table None = table

-- n literal bytes behind the quote at the cursor can be written
pub record LiteralWritable (text : List ℕ) (c : Cursor) (n size : ℕ) : Type 0 where
  pub inside : c.at + 1 + n ≤ length text
  pub text_size : length text ≤ longest_text
  pub near : size ≤ far_enough
  pub elements : c.elements ≤ far_enough
  pub literals : c.literals ≤ far_enough

-- the cursor behind a literal of n bytes
abbrev pub literal_cursor : Cursor → (n size : ℕ) → Cursor
literal_cursor c n size =
    record {
      at = c.at + size;
      names = c.names;
      items = c.items;
      elements = c.elements + 1;
      literals = c.literals + n;
      longest = c.longest;
    }

-- they are written
pub record LiteralWritten (text table : List ℕ) (c : Cursor) (n size : ℕ) (table' : List ℕ) (d : Cursor) : Type 0 where
  pub goes : d ≡ literal_cursor c n size
  pub written :
      table'
      ≡ with_element (with_literals table c.literals (take n (drop (c.at + 1) text))) c.elements
      (Table.cell literal_kind.number 0 (range_value c.literals n 0))

-- one value is read, which is this element of a pattern
pub record GetsOne {A : Type 0} (f : A → PatternElement) (text table : List ℕ) (m : Mentioned) (c : Cursor) (x : Parsed A) (table' : List ℕ)
    (m' : Mentioned) (d : Cursor) : Type 0 where
  pub element : A
  pub gets : GetsElements text table m c x element (f element ∷ []) [] table' m' d
  pub further : c.at < d.at

-- a literal is read and written
abbrev pub LiteralRead : (text table : List ℕ) (m : Mentioned) (c : Cursor) (table' : List ℕ) (d : Cursor) → Type 0
LiteralRead text table m c table' d =
    GetsOne (λ w. value (literal w)) text table m c (Strings.literal_at (drop (c.at + 1) text)) table' m d

abbrev pub OneAnswer : {A : Type 0} (f : A → PatternElement) (text table : List ℕ) (m : Mentioned) (c : Cursor) → Parsed A → Option Cursor
    → (table' : List ℕ) (m' : Mentioned) → Type 0
OneAnswer f text table m c x (Some d) table' m' =
    GetsOne f text table m c x table' m' d
OneAnswer f text table m c x None table' m' = x ≡ broken

pub record ReadsOne {A : Type 0} (f : A → PatternElement) (text table : List ℕ) (m : Mentioned) (c : Cursor) (x : Parsed A) (r : Option Cursor)
    (table' : List ℕ) (m' : Mentioned) : Type 0 where
  pub answer : OneAnswer f text table m c x r table' m'

abbrev pub ElementRead : (text : List ℕ) (known : Known) (table : List ℕ) (m : Mentioned) (c : Cursor) (role : Option Role) → Option Cursor
    → (table' : List ℕ) (m' : Mentioned) → Type 0
ElementRead text known table m c role =
    ReadsOne value text table m c (Strings.element current (places_in known) (role_of role) (drop c.at text))

abbrev pub PatternElementRead : (text : List ℕ) (known : Known) (table : List ℕ) (m : Mentioned) (c : Cursor) → Option Cursor
    → (table' : List ℕ) (m' : Mentioned) → Type 0
PatternElementRead text known table m c =
    ReadsOne (λ x. x) text table m c (Strings.pattern_element current (places_in known) (drop c.at text))

-- what a row has: elements of a string expression, or of a pattern
abbrev pub RowElement : Elements → Type 0
RowElement OfString = Element
RowElement OfPattern = PatternElement

abbrev pub shown : (elements : Elements) → RowElement elements → PatternElement
shown OfString = value
shown OfPattern = λ x. x

abbrev pub read_one : (elements : Elements) → Resolution → List ℕ → Parsed (RowElement elements)
read_one OfString p = Strings.element current p no_role
read_one OfPattern p = Strings.pattern_element current p

abbrev pub OneRead : (text : List ℕ) (known : Known) (table : List ℕ) (m : Mentioned) (c : Cursor) (elements : Elements) → Option Cursor
    → (table' : List ℕ) (m' : Mentioned) → Type 0
OneRead text known table m c elements =
    ReadsOne (shown elements) text table m c (read_one elements (places_in known) (drop c.at text))

-- several values are read
pub record GetsMany {A : Type 0} (f : A → PatternElement) (text table : List ℕ) (m : Mentioned) (c : Cursor) (x : Parsed (List A))
    (table' : List ℕ) (m' : Mentioned) (d : Cursor) : Type 0 where
  pub values : List A
  pub gets : GetsElements text table m c x values (map f values) [] table' m' d

abbrev pub ManyAnswer : {A : Type 0} (f : A → PatternElement) (text table : List ℕ) (m : Mentioned) (c : Cursor) → Parsed (List A) → Option Cursor
    → (table' : List ℕ) (m' : Mentioned) → Type 0
ManyAnswer f text table m c x (Some d) table' m' =
    GetsMany f text table m c x table' m' d
ManyAnswer f text table m c x None table' m' = x ≡ broken

pub record ReadsMany {A : Type 0} (f : A → PatternElement) (text table : List ℕ) (m : Mentioned) (c : Cursor) (x : Parsed (List A))
    (r : Option Cursor) (table' : List ℕ) (m' : Mentioned) : Type 0 where
  pub answer : ManyAnswer f text table m c x r table' m'

-- more of them behind commas, whatever more than enough turns are allowed
abbrev pub MoreFollow : {A : Type 0} (f : A → PatternElement) (one : List ℕ → Parsed A) (text table : List ℕ) (m : Mentioned) (c : Cursor)
    → Option Cursor → (table' : List ℕ) (m' : Mentioned) → Type 0
MoreFollow f one text table m c r table' m' =
    (n : ℕ) → length text ≤ n + c.at
    → ReadsMany f text table m c (Strings.more_of one n (drop c.at text)) r table' m'

abbrev pub MoreRead : (text : List ℕ) (known : Known) (table : List ℕ) (m : Mentioned) (c : Cursor) (elements : Elements) → Option Cursor
    → (table' : List ℕ) (m' : Mentioned) → Type 0
MoreRead text known table m c elements = MoreFollow (shown elements) (read_one elements (places_in known)) text table m c

-- the cursor behind a row that started with this element: the longest row so far may be this one
abbrev pub ended_row : ℕ → Cursor → Cursor
ended_row from d =
    record {
      at = d.at;
      names = d.names;
      items = d.items;
      elements = d.elements;
      literals = d.literals;
      longest = max d.longest (d.elements - from);
    }

abbrev pub row_ended : ℕ → Option Cursor → Option Cursor
row_ended from (Some d) = Some (ended_row from d)
row_ended from None = None

-- a row of them: a string expression, or a pattern
abbrev pub shown_row : (elements : Elements) → List (RowElement elements) → List PatternElement
shown_row OfString = map value
shown_row OfPattern = λ xs. xs

abbrev pub parse_row : (elements : Elements) → Resolution → List ℕ → Parsed (List (RowElement elements))
parse_row OfString p = Strings.string_expression current p
parse_row OfPattern p = Strings.pattern current p

abbrev pub RowsRead : (text : List ℕ) (known : Known) (table : List ℕ) (m : Mentioned) (c : Cursor) (elements : Elements) → Option Cursor
    → (table' : List ℕ) (m' : Mentioned) → Type 0
RowsRead text known table m c elements =
    RowRead (shown_row elements) text table m c (parse_row elements (places_in known) (drop c.at text))
