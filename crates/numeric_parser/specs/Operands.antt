-- What the readers of operands do: the value read, the names noted, the bytes left. Assumes nothing.
use Rattle.std.specs.Prelude.{Option, Some, None, true, false, List, [], ◌∷◌, map, ◌≡◌, ℕ, ◌+◌, ◌≤◌, ◌<◌, pos, length, drop}
use Rattle.base.specs.Current.{current}
use Rattle.base.specs.Lists.{all, begins}
use Rattle.encoding.specs.Meaning.{cell_meaning}
use Rattle.encoding.specs.Numerals.{biased}
use Rattle.encoding.specs.Splices.{splice}
use Rattle.encoding.specs.Table as Table
use Rattle.encoding.specs.Table.{part_cell, operand_cell}
use Rattle.syntax.specs.Numeric.{called_or_number, plain_factor}
use Rattle.syntax.specs.Program.{Length, constantly, numbered}
use Rattle.syntax.specs.Parsing.{Parsed, got, broken, succeed}
use Rattle.syntax.specs.Lexemes as Words
use Rattle.syntax.specs.Lexemes.{unsigned, signed, number_name, string_name, bound, part_name}
use Rattle.symbols.specs.Bounds.{far_enough}
use Rattle.symbols.specs.Clauses.{names_room}
use Rattle.symbols.specs.Entries.{NameEntry, entry, role_of, mentions_in}
use Rattle.symbols.specs.Environment.{places_in}
use Rattle.symbols.specs.declared.Cursor.{Cursor}
use Rattle.symbols.specs.declared.Mentioned.{Mentioned}
use Rattle.symbols.specs.declared.known.Known.{Known}
use Rattle.symbols.specs.declared.tags.Role.{Role}
use Rattle.symbols.specs.declared.tags.Tag.{Tag}
use Rattle.card_reader.specs.Keys.{key_of, is_key_byte}
use Rattle.card_reader.specs.Letters.{letters}
use Rattle.card_reader.specs.Packs.{longest_text}
use Rattle.encoding.specs.declared.cells.Cell.{Cell}

-- a cursor d behind c by so many names and items
pub record Onward (c : Cursor) (n i : ℕ) (d : Cursor) : Type 0 where
  pub names : d.names ≡ c.names + n
  pub items : d.items ≡ c.items + i
  pub elements : d.elements ≡ c.elements
  pub literals : d.literals ≡ c.literals
  pub longest : d.longest ≡ c.longest

-- the cursor n bytes further
abbrev pub cursor_moved : Cursor → ℕ → Cursor
cursor_moved c n =
    record {
      at = c.at + n;
      names = c.names;
      items = c.items;
      elements = c.elements;
      literals = c.literals;
      longest = c.longest;
    }

-- the cursor is moved by n bytes
pub record Skips (c : Cursor) (n : ℕ) (d : Cursor) : Type 0 where
  pub at : d.at ≡ c.at + n
  pub goes : Onward c 0 0 d

-- there is room for a name for each letter left; the cursor has noted no more than the bytes behind it allow
pub record ReaderReady (text : List ℕ) (c : Cursor) : Type 0 where
  pub text_size : length text ≤ longest_text
  pub inside : c.at ≤ length text
  pub names : c.names + letters (drop c.at text) ≤ names_room
  pub items : c.items + length text ≤ far_enough + c.at
  pub elements : c.elements + length text ≤ far_enough + c.at
  pub literals : c.literals + length text ≤ far_enough + c.at

-- entries stand noted from place n on
pub record Noting (m : Mentioned) (n : ℕ) (es : List NameEntry) (m' : Mentioned) : Type 0 where
  pub keyed : m'.keys ≡ splice m.keys n (map (λ x. x.key) es)
  pub tagged : m'.tags ≡ splice m.tags n (map (λ x. x.tag) es)

-- the reading x gives a value that the code's v stands for
pub record Gets {A C : Type 0} (f : A → C) (v : C) (text : List ℕ) (m : Mentioned) (c : Cursor) (x : Parsed A) (m' : Mentioned) (d : Cursor)
    : Type 0 where
  pub value : A
  pub entries : List NameEntry
  pub is : x ≡ got value (mentions_in entries 0 [] 0) (drop d.at text)
  pub made : f value ≡ v
  pub noting : Noting m c.names entries m'
  pub goes : Onward c (length entries) 0 d
  pub ready : ReaderReady text d
  pub few : length entries + letters (drop d.at text) ≤ letters (drop c.at text)
  pub further : c.at < d.at

-- a name, mentioned as an entry with a tag
pub record NameParsed (text : List ℕ) (m : Mentioned) (c : Cursor) (tag : Tag) (key : ℕ) (m' : Mentioned) (d : Cursor) : Type 0 where
  pub bytes : List ℕ
  pub shown : all is_key_byte bytes ≡ true
  pub keyed : key ≡ key_of bytes
  pub is : Words.name (drop c.at text) ≡ succeed bytes (drop d.at text)
  pub noting : Noting m c.names (entry key tag ∷ []) m'
  pub goes : Onward c 1 0 d
  pub ready : ReaderReady text d
  pub few : letters (drop d.at text) < letters (drop c.at text)
  pub further : c.at < d.at

abbrev pub NameAnswer : (text : List ℕ) (m : Mentioned) (c : Cursor) (tag : Tag) → Option (ℕ × Cursor) → (m' : Mentioned) → Type 0
NameAnswer text m c tag (Some (key, d)) m' = NameParsed text m c tag key m' d
NameAnswer text m c tag None m' = Words.name (drop c.at text) ≡ broken

pub record NameRead (text : List ℕ) (m : Mentioned) (c : Cursor) (tag : Tag) (r : Option (ℕ × Cursor)) (m' : Mentioned) : Type 0 where
  pub answer : NameAnswer text m c tag r m'

-- a reading answered by a place of a name, and one answered by a cell
abbrev pub PlaceAnswer : (text : List ℕ) (m : Mentioned) (c : Cursor) → Parsed ℕ → Option (ℕ × Cursor) → (m' : Mentioned) → Type 0
PlaceAnswer text m c x (Some (place, d)) m' = Gets (λ n. n) place text m c x m' d
PlaceAnswer text m c x None m' = x ≡ broken

pub record PlaceRead (text : List ℕ) (m : Mentioned) (c : Cursor) (x : Parsed ℕ) (r : Option (ℕ × Cursor)) (m' : Mentioned) : Type 0 where
  pub answer : PlaceAnswer text m c x r m'

abbrev pub CellAnswer : {A : Type 0} (f : A → Table.Cell) (text : List ℕ) (m : Mentioned) (c : Cursor) → Parsed A → Option (Cell × Cursor)
    → (m' : Mentioned) → Type 0
CellAnswer f text m c x (Some (v, d)) m' = Gets f (cell_meaning v) text m c x m' d
CellAnswer f text m c x None m' = x ≡ broken

pub record OperandRead {A : Type 0} (f : A → Table.Cell) (text : List ℕ) (m : Mentioned) (c : Cursor) (x : Parsed A) (r : Option (Cell × Cursor))
    (m' : Mentioned) : Type 0 where
  pub answer : CellAnswer f text m c x r m'

-- each reader of document 01 at the cursor
abbrev pub NumberRead : (text : List ℕ) (known : Known) (m : Mentioned) (c : Cursor) → Option (ℕ × Cursor) → (m' : Mentioned) → Type 0
NumberRead text known m c = PlaceRead text m c (number_name current (places_in known) (drop c.at text))

abbrev pub StringRead : (text : List ℕ) (known : Known) (m : Mentioned) (c : Cursor) (role : Option Role) → Option (ℕ × Cursor)
    → (m' : Mentioned) → Type 0
StringRead text known m c role =
    PlaceRead text m c (string_name current (places_in known) (role_of role) (drop c.at text))

abbrev pub ConstantRead : (text : List ℕ) (m : Mentioned) (c : Cursor) (kind place : ℕ) → Option (Cell × Cursor) → Type 0
ConstantRead text m c kind place r =
    OperandRead (λ v. Table.cell kind place (biased (pos v))) text m c (unsigned current (drop c.at text)) r m

abbrev pub SignedRead : (text : List ℕ) (m : Mentioned) (c : Cursor) (kind place : ℕ) → Option (Cell × Cursor) → Type 0
SignedRead text m c kind place r =
    OperandRead (λ z. Table.cell kind place (biased z)) text m c (signed current (drop c.at text)) r m

-- a cell with a length: of a kind with the constant, or of the next one with the place of the number
unfoldable pub length_cell : (kind place : ℕ) → Length → Table.Cell
length_cell kind place (constantly z) = Table.cell kind place (biased z)
length_cell kind place (numbered n) = Table.cell (kind + 1) place n

abbrev pub BoundRead : (text : List ℕ) (known : Known) (m : Mentioned) (c : Cursor) (kind place : ℕ) → Option (Cell × Cursor) → (m' : Mentioned)
    → Type 0
BoundRead text known m c kind place =
    OperandRead (length_cell kind place) text m c (bound current (places_in known) (drop c.at text))

abbrev pub PartRead : (text : List ℕ) (known : Known) (m : Mentioned) (c : Cursor) (kind : ℕ) (role : Option Role) → Option (Cell × Cursor)
    → (m' : Mentioned) → Type 0
PartRead text known m c kind role =
    OperandRead (part_cell kind) text m c (part_name current (places_in known) (role_of role) (drop c.at text))

abbrev pub CalledRead : (text : List ℕ) (known : Known) (m : Mentioned) (c : Cursor) → Option (Cell × Cursor) → (m' : Mentioned) → Type 0
CalledRead text known m c = OperandRead operand_cell text m c (called_or_number current (places_in known) (drop c.at text))

abbrev pub PlainRead : (text : List ℕ) (known : Known) (m : Mentioned) (c : Cursor) → Option (Cell × Cursor) → (m' : Mentioned) → Type 0
PlainRead text known m c = OperandRead operand_cell text m c (plain_factor current (places_in known) (drop c.at text))

-- a place in a cell of a kind and a value
abbrev pub placed_in : (kind value : ℕ) → Option (ℕ × Cursor) → Option (Cell × Cursor)
placed_in kind value (Some (place, d)) =
    Some (record { kind = kind; place = place; value = value }, d)
placed_in kind value None = None

-- the cursor is inside the text
abbrev pub InText : List ℕ → Cursor → Type 0
InText text c = (c.at ≤ length text) × (length text ≤ longest_text)

-- the cursor behind a word, if it stands there, and behind a mark, a word of one byte
abbrev pub behind_word : List ℕ → (word : List ℕ) → Cursor → Option Cursor
behind_word text word c = elim (begins word (drop c.at text)) [ true ↦ Some (cursor_moved c (length word)) | false ↦ None ]

abbrev pub behind_mark : List ℕ → (mark : ℕ) → Cursor → Option Cursor
behind_mark text mark = behind_word text (mark ∷ [])

-- a cell with a cursor, if there is one
abbrev pub celled_at : Cell → Option Cursor → Option (Cell × Cursor)
celled_at v (Some d) = Some (v, d)
celled_at v None = None

-- the operand before `)`, its cursor behind it
abbrev pub behind_parenthesis : List ℕ → Option (Cell × Cursor) → Option (Cell × Cursor)
behind_parenthesis text (Some (v, d)) = celled_at v (behind_mark text 41 d)
behind_parenthesis text None = None
