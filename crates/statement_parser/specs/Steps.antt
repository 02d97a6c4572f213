-- What the readers of each form do, from behind its keyword on. Assumes nothing.
use Rattle.std.specs.Prelude.{Bool, List, [], ◌≡◌, ℕ, ◌≤◌, length, drop}
use Rattle.std.proofs.Math.Option.{Option}
use Rattle.base.specs.Current.{current}
use Rattle.branch_parser.specs.Branches.{target_in, target_kind}
use Rattle.branch_parser.specs.Places.{is_number_known}
use Rattle.branch_parser.specs.declared.Target.{Target}
use Rattle.encoding.specs.Meaning.{direction_meaning}
use Rattle.encoding.specs.Table.{statement_row, elements_of, items_of}
use Rattle.encoding.specs.declared.cells.Direction.{Direction}
use Rattle.syntax.specs.Forms.{step_form, no_step_form, without_unit, sets_number, replacement, if_form, scan_form, read_form, write_form}
use Rattle.syntax.specs.Forms.{program_form, number_form}
use Rattle.syntax.specs.Numeric.{numeric_expression}
use Rattle.syntax.specs.Program.{Statement, set_number, set_string}
use Rattle.syntax.specs.Parsing.{for_number, declaring, Parsed, ◌>>=◌, expect}
use Rattle.syntax.specs.Strings.{more_of, string_expression}
use Rattle.syntax.specs.Lexemes.{name_as, no_role, number_name, part_name}
use Rattle.base.specs.Text.{bytes}
use Rattle.symbols.specs.Environment.{places_in}
use Rattle.symbols.specs.declared.Cursor.{Cursor}
use Rattle.numeric_parser.specs.Operands.{Skips}
use Rattle.card_reader.specs.Letters.{letters}
use Rattle.statement_parser.specs.Drafts.{Form}
use Rattle.statement_parser.specs.Clauses.{FormRead}
use Rattle.statement_parser.specs.Rows.{bare, with_steps}
use Rattle.symbols.specs.declared.known.Known.{Known}
use Rattle.symbols.specs.declared.Mentioned.{Mentioned}

-- a form at a cursor: no more names than letters are left; and one that mentions names alone, with any table
abbrev pub FormAt : Parsed (Option Statement) → (text table : List ℕ) (m : Mentioned) (c : Cursor)
    → Form → (table' : List ℕ) (m' : Mentioned) → Type 0
FormAt x text table m c r table' m' = FormRead (letters (drop c.at text)) table m c x r table' m'

abbrev pub NamesFormAt : Parsed (Option Statement) → (text : List ℕ) (m : Mentioned) (c : Cursor) → Form → (m' : Mentioned) → Type 0
NamesFormAt x text m c r m' = (table : List ℕ) → FormRead (letters (drop c.at text)) table m c x r table m'

-- the cursor behind a unit, if it stands here
pub record BehindUnit (text unit : List ℕ) (c d : Cursor) : Type 0 where
  pub size : ℕ
  pub skips : Skips c size d
  pub is : without_unit unit (drop c.at text) ≡ drop d.at text
  pub inside : d.at ≤ length text

-- a form that reads a name is a statement of the step it leads to, whose row has a kind and that step alone
pub record TargetLeads (known : Known) (target : Target) (form : List ℕ → Parsed (Option Statement)) : Type 0 where
  pub statement : ℕ → Statement
  pub is : (bs : List ℕ) → form bs ≡ (target_in known target bs >>= λ (s, rest). step_form (statement s) rest)
  pub row : (elements items s : ℕ) → with_steps s 0 (bare (target_kind target) 0) ≡ statement_row elements items (statement s)
  pub no_elements : (s : ℕ) → [] ≡ elements_of (statement s)
  pub no_items : (s : ℕ) → [] ≡ items_of (statement s)

abbrev pub TargetFormRead : (text : List ℕ) (known : Known) (m : Mentioned) (c : Cursor) (target : Target)
    → Form → (m' : Mentioned) → Type 0
TargetFormRead text known m c target r m' =
    (form : List ℕ → Parsed (Option Statement)) → TargetLeads known target form
    → NamesFormAt (form (drop c.at text)) text m c r m'

abbrev pub IfRead : (text : List ℕ) (known : Known) (m : Mentioned) (c : Cursor) → Form → (m' : Mentioned) → Type 0
IfRead text known m c = NamesFormAt (if_form current (is_number_known known) (places_in known) (drop c.at text)) text m c

abbrev pub InputRead : (text : List ℕ) (known : Known) (m : Mentioned) (c : Cursor) → Form → (m' : Mentioned) → Type 0
InputRead text known m c = NamesFormAt (read_form current (is_number_known known) (places_in known) (drop c.at text)) text m c

abbrev pub OutputRead : (text : List ℕ) (known : Known) (table : List ℕ) (m : Mentioned) (c : Cursor)
    → Form → (table' : List ℕ) (m' : Mentioned) → Type 0
OutputRead text known table m c = FormAt (write_form current (is_number_known known) (places_in known) (drop c.at text)) text table m c

abbrev pub ScanRead : (text : List ℕ) (known : Known) (table : List ℕ) (m : Mentioned) (c : Cursor) (d : Direction)
    → Form → (table' : List ℕ) (m' : Mentioned) → Type 0
ScanRead text known table m c d =
    FormAt (scan_form current (is_number_known known) (places_in known) (direction_meaning d) (drop c.at text)) text table m c

-- the two replacements
unfoldable pub string_set : (known : Known) → List ℕ → Parsed (Option Statement)
string_set known bs = do
  (p, rest) ← part_name current (places_in known) no_role bs
  (_, rest) ← expect (bytes "=") rest
  (xs, rest) ← string_expression current (places_in known) rest
  step_form (set_string p xs) rest

unfoldable pub assigned_to : (known : Known) → ℕ → List ℕ → Parsed (Option Statement)
assigned_to known i bs = do
  (x, rest) ← numeric_expression current (places_in known) bs
  step_form (set_number i x) rest

unfoldable pub number_set : (known : Known) → List ℕ → Parsed (Option Statement)
number_set known bs = do
  (i, rest) ← number_name current (places_in known) bs
  (_, rest) ← expect (bytes "=") rest
  assigned_to known i rest

abbrev pub StringSetRead : (text : List ℕ) (known : Known) (table : List ℕ) (m : Mentioned) (c : Cursor)
    → Form → (table' : List ℕ) (m' : Mentioned) → Type 0
StringSetRead text known table m c = FormAt (string_set known (drop c.at text)) text table m c

abbrev pub AssignedRead : (text : List ℕ) (known : Known) (table : List ℕ) (m : Mentioned) (c : Cursor) (place : ℕ)
    → Form → (table' : List ℕ) (m' : Mentioned) → Type 0
AssignedRead text known table m c place = FormAt (assigned_to known place (drop c.at text)) text table m c

abbrev pub NumberSetRead : (text : List ℕ) (known : Known) (table : List ℕ) (m : Mentioned) (c : Cursor)
    → Form → (table' : List ℕ) (m' : Mentioned) → Type 0
NumberSetRead text known table m c = FormAt (number_set known (drop c.at text)) text table m c

abbrev pub SetsNumber : (text : List ℕ) (known : Known) (at : ℕ) → Bool → Type 0
SetsNumber text known at r = r ≡ sets_number current (is_number_known known) (places_in known) (drop at text)

abbrev pub ReplacementRead : (text : List ℕ) (known : Known) (table : List ℕ) (m : Mentioned) (c : Cursor)
    → Form → (table' : List ℕ) (m' : Mentioned) → Type 0
ReplacementRead text known table m c =
    FormAt (replacement current (is_number_known known) (places_in known) (drop c.at text)) text table m c

-- PROGRAM and NUMBER look nothing up
abbrev pub ProgramRead : (text : List ℕ) (m : Mentioned) (c : Cursor) → Form → (m' : Mentioned) → Type 0
ProgramRead text m c r m' =
    (known : Known)
    → NamesFormAt (program_form current (is_number_known known) (places_in known) (drop c.at text)) text m c r m'

abbrev pub NumbersRead : (text : List ℕ) (m : Mentioned) (c : Cursor) → Form → (m' : Mentioned) → Type 0
NumbersRead text m c r m' =
    (known : Known)
    → NamesFormAt (number_form current (is_number_known known) (places_in known) (drop c.at text)) text m c r m'

-- further numbers to the end, with fuel for the bytes left
unfoldable pub more_numbers : ℕ → List ℕ → Parsed (Option Statement)
more_numbers k bs = do
  (_, rest) ← more_of (name_as (declaring for_number)) k bs
  no_step_form rest

abbrev pub MoreNumbersRead : (text : List ℕ) (m : Mentioned) (c : Cursor) → Form → (m' : Mentioned) → Type 0
MoreNumbersRead text m c r m' =
    (k : ℕ) → length (drop c.at text) ≤ k → NamesFormAt (more_numbers k (drop c.at text)) text m c r m'
