-- What the parts of forms do: each goes on from the row so far. Assumes nothing.
use Rattle.std.specs.Prelude.{Some, None, List, [], ◌∷◌, map, ◌≡◌, ℕ, ◌≤◌, length, drop}
use Rattle.std.specs.Prelude as std
use Rattle.base.specs.Current.{current}
use Rattle.base.specs.Lists.{total}
use Rattle.branch_parser.specs.Branches.{target_in}
use Rattle.branch_parser.specs.Places.{is_number_known}
use Rattle.encoding.specs.Meaning.{row_meaning}
use Rattle.branch_parser.specs.Tests.{test_alone, rowed_at}
use Rattle.encoding.specs.declared.cells.Branch.{Branch}
use Rattle.encoding.specs.declared.cells.Row.{Row}
use Rattle.branch_parser.specs.declared.Target.{Target}
use Rattle.encoding.specs.Kinds.{parts}
use Rattle.encoding.specs.Table as Table
use Rattle.encoding.specs.Table.{part_cell, replacement_of}
use Rattle.syntax.specs.Forms.{branch, branch_if_any, replacement_if_any}
use Rattle.syntax.specs.Numeric.{test}
use Rattle.syntax.specs.Program.{PatternElement, value}
use Rattle.syntax.specs.Parsing.{Parsed, broken}
use Rattle.syntax.specs.Lexemes.{part_name}
use Rattle.symbols.specs.Entries.{role_of}
use Rattle.symbols.specs.Environment.{places_in}
use Rattle.symbols.specs.declared.Cursor.{Cursor}
use Rattle.numeric_parser.specs.Operands.{ReaderReady, behind_mark}
use Rattle.encoding.specs.declared.cells.Cell.{Cell}
use Rattle.string_parser.specs.Elements.{GetsElements, shown_row, parse_row}
use Rattle.string_parser.specs.declared.Elements.{Elements}
use Rattle.statement_parser.specs.Drafts.{Draft}
use Rattle.statement_parser.specs.Rows.{draft_steps, draft_left, draft_right, with_steps, with_branch, with_left, with_range, with_replacement}
use Rattle.symbols.specs.declared.known.Known.{Known}
use Rattle.symbols.specs.declared.Mentioned.{Mentioned}
use Rattle.symbols.specs.declared.tags.Role.{Role}

-- a draft's cursor may go on
abbrev pub DraftStanding : (text : List ℕ) → Draft → Type 0
DraftStanding text (Some (row, c)) = ReaderReady text c
DraftStanding text None = Unit {0}

-- a draft before a mark, its cursor behind it
abbrev pub marked_by : List ℕ → ℕ → Draft → Draft
marked_by text mark (Some (row, c)) = rowed_at row (behind_mark text mark c)
marked_by text mark None = None

-- a row with what was read, if something was: a step, a branch, a cell on the left, a stretch of elements on the right
abbrev pub stepped : Row → std.Option (ℕ × Cursor) → Draft
stepped row (Some (step, d)) = Some (draft_steps row step 0, d)
stepped row None = None

abbrev pub branching : Row → std.Option (Branch × Cursor) → Draft
branching row (Some (b, d)) = Some (draft_steps row b.success b.failure, d)
branching row None = None

abbrev pub parted : Row → std.Option (Cell × Cursor) → Draft
parted row (Some (v, d)) = Some (draft_left row v, d)
parted row None = None

abbrev pub ranged : Row → std.Option (Cell × Cursor) → Draft
ranged row (Some (v, d)) = Some (draft_right row row.kind v, d)
ranged row None = None

-- The reading y at c gives a value, with its elements written; the row is that of before with what puts does of the value.
pub record Drawn {U : Type 0} (y : Parsed U) (puts : U → Table.Row → Table.Row) (es : U → List PatternElement) (text table : List ℕ) (m : Mentioned)
    (row : Row) (c : Cursor) (row' : Row) (table' : List ℕ) (m' : Mentioned) (d : Cursor) : Type 0 where
  pub value : U
  pub rows : List ℕ
  pub counted : total (λ n. n) rows ≡ length (es value)
  pub gets : GetsElements text table m c y value (es value) rows table' m' d
  pub made : row_meaning row' ≡ puts value (row_meaning row)

abbrev pub StageAnswer : {U : Type 0} (y : List ℕ → Parsed U) (puts : ℕ → U → Table.Row → Table.Row) (es : U → List PatternElement)
    (text table : List ℕ) (m : Mentioned) → Draft → Draft → (table' : List ℕ) (m' : Mentioned) → Type 0
StageAnswer y puts es text table m (Some (row, c)) (Some (row', d)) table' m' =
    Drawn (y (drop c.at text)) (puts c.elements) es text table m row c row' table' m' d
StageAnswer y puts es text table m (Some (row, c)) None table' m' =
    y (drop c.at text) ≡ broken
StageAnswer y puts es text table m None (Some (row', d)) table' m' = ⊥
StageAnswer y puts es text table m None None table' m' = Unit {0}

-- the reader y goes on from the draft r to the draft q
pub record StageRead {U : Type 0} (y : List ℕ → Parsed U) (puts : ℕ → U → Table.Row → Table.Row) (es : U → List PatternElement)
    (text table : List ℕ) (m : Mentioned) (r q : Draft) (table' : List ℕ) (m' : Mentioned) : Type 0 where
  pub stands : DraftStanding text q
  pub answer : StageAnswer y puts es text table m r q table' m'

-- one that mentions names alone, with any table
abbrev pub NamesStage : {U : Type 0} (y : List ℕ → Parsed U) (puts : U → Table.Row → Table.Row) (text : List ℕ) (m : Mentioned) (r q : Draft)
    (m' : Mentioned) → Type 0
NamesStage y puts text m r q m' =
    (table : List ℕ) → StageRead y (λ _. puts) (λ _. []) text table m r q table m'

-- each part of a form
abbrev pub TargetStage : (text : List ℕ) (known : Known) (m : Mentioned) (target : Target) (r q : Draft) (m' : Mentioned) → Type 0
TargetStage text known m target = NamesStage (target_in known target) (λ s. with_steps s 0) text m

abbrev pub PartStage : (text : List ℕ) (known : Known) (m : Mentioned) (role : std.Option Role) (r q : Draft) (m' : Mentioned) → Type 0
PartStage text known m role =
    NamesStage (part_name current (places_in known) (role_of role)) (λ p. with_left (part_cell parts p)) text m

abbrev pub TestStage : (text : List ℕ) (known : Known) (m : Mentioned) (r q : Draft) (m' : Mentioned) → Type 0
TestStage text known = NamesStage (test current (places_in known)) (λ t _. test_alone t) text

abbrev pub BranchStage : (text : List ℕ) (known : Known) (m : Mentioned) (r q : Draft) (m' : Mentioned) → Type 0
BranchStage text known = NamesStage (branch current (is_number_known known) (places_in known)) with_branch text

abbrev pub BranchIfAnyStage : (text : List ℕ) (known : Known) (m : Mentioned) (r q : Draft) (m' : Mentioned) → Type 0
BranchIfAnyStage text known = NamesStage (branch_if_any current (is_number_known known) (places_in known)) with_branch text

abbrev pub RowStage : (text : List ℕ) (known : Known) (e : Elements) (table : List ℕ) (m : Mentioned)
    (r q : Draft) (table' : List ℕ) (m' : Mentioned) → Type 0
RowStage text known e = StageRead (parse_row e (places_in known)) (λ n xs. with_range n xs) (shown_row e) text

abbrev pub ReplacedStage : (text : List ℕ) (known : Known) (table : List ℕ) (m : Mentioned) (from : ℕ)
    (r q : Draft) (table' : List ℕ) (m' : Mentioned) → Type 0
ReplacedStage text known table m from =
    StageRead (replacement_if_any current (is_number_known known) (places_in known)) (λ n o. with_replacement from n o)
    (λ o. map value (replacement_of o)) text table m

-- a branch field, if there is one, and a row of elements, behind any row so far
abbrev pub BranchIfAnyRead : (text : List ℕ) (known : Known) (m : Mentioned) (c : Cursor) → std.Option (Branch × Cursor) → (m' : Mentioned) → Type 0
BranchIfAnyRead text known m c r m' =
    (row : Row) → BranchIfAnyStage text known m (Some (row, c)) (branching row r) m'

abbrev pub StretchRead : (text : List ℕ) (known : Known) (e : Elements) (table : List ℕ) (m : Mentioned) (c : Cursor) → std.Option (Cell × Cursor)
    → (table' : List ℕ) (m' : Mentioned) → Type 0
StretchRead text known e table m c r table' m' =
    (row : Row) → RowStage text known e table m (Some (row, c)) (ranged row r) table' m'
