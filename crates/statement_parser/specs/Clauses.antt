-- What the readers of statements do: the row made, the names noted, the items and elements written. Assumes nothing.
use Rattle.std.specs.Prelude.{Some, None, Bool, ◌||◌, List, [], ◌≡◌, ℕ, ◌+◌, ◌≤◌, ◌<◌, ltb, length}
use Rattle.std.proofs.Math.Option.{Option, none, some}
use Rattle.base.specs.Current.{current}
use Rattle.base.specs.Limits as Limits
use Rattle.base.specs.Lists.{any, total}
use Rattle.branch_parser.specs.Places.{is_number_known}
use Rattle.encoding.specs.Meaning.{row_meaning}
use Rattle.encoding.specs.declared.cells.Row.{Row}
use Rattle.encoding.specs.Table.{statement_row, items_of, elements_of, all_literals}
use Rattle.validation.specs.Refusals.{read_statement}
use Rattle.syntax.specs.Forms.{statement_form}
use Rattle.syntax.specs.Program.{Item, PatternElement, Statement}
use Rattle.syntax.specs.Parsing.{Parsed, got, broken}
use Rattle.symbols.specs.Bounds.{far_enough}
use Rattle.symbols.specs.Clauses.{names_room}
use Rattle.symbols.specs.Elements.{with_elements}
use Rattle.symbols.specs.Entries.{NameEntry, mentions_in}
use Rattle.symbols.specs.Items.{with_items}
use Rattle.symbols.specs.Environment.{places_in}
use Rattle.symbols.specs.declared.Cursor.{Cursor}
use Rattle.numeric_parser.specs.Operands.{Noting}
use Rattle.card_reader.specs.Keys.{LabelKey}
use Rattle.card_reader.specs.Letters.{letters}
use Rattle.card_reader.specs.Packs.{longest_text}
use Rattle.statement_parser.specs.Drafts.{Form}
use Rattle.symbols.specs.declared.known.Known.{Known}
use Rattle.symbols.specs.declared.Mentioned.{Mentioned}

-- the cursor stands before a statement: at most its label is noted, with room for a name for each letter
pub record Starts (text : List ℕ) (c : Cursor) : Type 0 where
  pub text_size : length text ≤ longest_text
  pub at : c.at ≡ 0
  pub names : c.names ≤ 1
  pub room : letters text < names_room
  pub items : c.items + length text ≤ far_enough
  pub elements : c.elements + length text ≤ far_enough
  pub literals : c.literals + length text ≤ far_enough

-- the items and elements of a statement; of PROGRAM and NUMBER there are none
unfoldable pub statement_items : Option Statement → List Item
statement_items none = []
statement_items (some s) = items_of s

unfoldable pub elements_in : Option Statement → List PatternElement
elements_in none = []
elements_in (some s) = elements_of s

-- the reading x gives v, with the names noted and all of v written; there are at most so many names
pub record FormWritten (v : Option Statement) (most : ℕ) (table : List ℕ) (m : Mentioned) (c : Cursor) (x : Parsed (Option Statement))
    (table' : List ℕ) (m' : Mentioned) (d : Cursor) : Type 0 where
  pub entries : List NameEntry
  pub rows : List ℕ
  pub is : x ≡ got v (mentions_in entries (length (statement_items v)) rows (length (all_literals (elements_in v)))) []
  pub counted : total (λ n. n) rows ≡ length (elements_in v)
  pub longest : ltb Limits.row_elements d.longest ≡ (ltb Limits.row_elements c.longest || any (ltb Limits.row_elements) rows)
  pub written : table' ≡ with_elements (with_items table c.items (statement_items v)) c.elements c.literals (elements_in v)
  pub noting : Noting m c.names entries m'
  pub names : d.names ≡ c.names + length entries
  pub items : d.items ≡ c.items + length (statement_items v)
  pub elements : d.elements ≡ c.elements + length (elements_in v)
  pub literals : d.literals ≡ c.literals + length (all_literals (elements_in v))
  pub few : length entries ≤ most

-- a step has its row
pub record StepWritten (row : Row) (most : ℕ) (table : List ℕ) (m : Mentioned) (c : Cursor) (x : Parsed (Option Statement))
    (table' : List ℕ) (m' : Mentioned) (d : Cursor) : Type 0 where
  pub statement : Statement
  pub made : row_meaning row ≡ statement_row c.elements c.items statement
  pub formed : FormWritten (some statement) most table m c x table' m' d

abbrev pub FormAnswer : (most : ℕ) (table : List ℕ) (m : Mentioned) (c : Cursor) → Parsed (Option Statement) → Form
    → (table' : List ℕ) (m' : Mentioned) → Type 0
FormAnswer most table m c x None table' m' = x ≡ broken
FormAnswer most table m c x (Some (None, d)) table' m' =
    FormWritten none most table m c x table' m' d
FormAnswer most table m c x (Some (Some row, d)) table' m' =
    StepWritten row most table m c x table' m' d

pub record FormRead (most : ℕ) (table : List ℕ) (m : Mentioned) (c : Cursor) (x : Parsed (Option Statement)) (r : Form)
    (table' : List ℕ) (m' : Mentioned) : Type 0 where
  pub answer : FormAnswer most table m c x r table' m'

-- the statement that a text is: no more names than letters
abbrev pub StatementFormRead : (text : List ℕ) (known : Known) (table : List ℕ) (m : Mentioned) (c : Cursor)
    → Form → (table' : List ℕ) (m' : Mentioned) → Type 0
StatementFormRead text known table m c =
    FormRead (letters text) table m c (statement_form current (is_number_known known) (places_in known) text)

-- the statement with its label, of any bytes that have the label's key: one name more
abbrev pub StatementRead : (label : ℕ) (whole : Bool) (text : List ℕ) (known : Known) (table : List ℕ) (m : Mentioned) (c : Cursor) → Form
    → (table' : List ℕ) (m' : Mentioned) → Type 0
StatementRead label whole text known table m c r table' m' =
    (label_bytes : List ℕ) → LabelKey label_bytes label
    → FormRead (letters text + 1) table m c (read_statement current (is_number_known known) (places_in known) label_bytes whole text) r
    table' m'
