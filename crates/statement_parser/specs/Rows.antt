-- Rows that are filled part by part. Assumes nothing.
use Rattle.std.specs.Prelude.{Some, List, ℕ, ◌-◌, length}
use Rattle.std.proofs.Math.Option.{Option, none, some}
use Rattle.encoding.specs.declared.cells.Row.{Row}
use Rattle.encoding.specs.Kinds.{range_number, replace_kind}
use Rattle.encoding.specs.Table as Table
use Rattle.encoding.specs.Table.{range_value, range_cell}
use Rattle.syntax.specs.Program.{Branch, Element}
use Rattle.symbols.specs.declared.Cursor.{Cursor}
use Rattle.encoding.specs.declared.cells.Cell.{Cell}
use Rattle.statement_parser.specs.Drafts.{Draft}

-- the code's rows: one of which only the kind and the flag are known, and a row with steps, a left and a right cell
abbrev pub empty_cell : Cell
empty_cell = record { kind = 0; place = 0; value = 0 }

abbrev pub begun_row : (kind flag : ℕ) → Row
begun_row kind flag = record { kind = kind; flag = flag; branch = record { success = 0; failure = 0 }; left = empty_cell; right = empty_cell }

abbrev pub begun_as : (kind flag : ℕ) → Cursor → Draft
begun_as kind flag c = Some (begun_row kind flag, c)

abbrev pub draft_steps : Row → (success failure : ℕ) → Row
draft_steps r s f = record { kind = r.kind; flag = r.flag; branch = record { success = s; failure = f }; left = r.left; right = r.right }

abbrev pub draft_left : Row → Cell → Row
draft_left r v = record { kind = r.kind; flag = r.flag; branch = r.branch; left = v; right = r.right }

abbrev pub draft_right : Row → (kind : ℕ) → Cell → Row
draft_right r k v = record { kind = k; flag = r.flag; branch = r.branch; left = r.left; right = v }

abbrev pub range_in : (from count more : ℕ) → Cell
range_in from count more = record { kind = range_number; place = 0; value = range_value from count more }

-- the same of the table's rows
abbrev pub bare : (kind flag : ℕ) → Table.Row
bare kind flag = Table.row_with kind flag 0 0 (Table.cell 0 0 0) (Table.cell 0 0 0)

abbrev pub with_steps : (success failure : ℕ) → Table.Row → Table.Row
with_steps s f r = Table.row_with r.kind r.flag s f r.left r.right

abbrev pub with_branch : Branch → Table.Row → Table.Row
with_branch b = with_steps b.success b.failure

abbrev pub with_left : Table.Cell → Table.Row → Table.Row
with_left v r = Table.row_with r.kind r.flag r.success r.failure v r.right

abbrev pub with_right : (kind : ℕ) → Table.Cell → Table.Row → Table.Row
with_right k v r = Table.row_with k r.flag r.success r.failure r.left v

-- a row whose elements start at a place
abbrev pub with_range : {A : Type 0} → ℕ → List A → Table.Row → Table.Row
with_range from xs r = with_right r.kind (range_cell from (length xs) 0) r

-- a SCAN's row with its replacement, whose pattern's elements stand between two places
abbrev pub with_replacement : (from to : ℕ) → Option (List Element) → Table.Row → Table.Row
with_replacement from to none r = r
with_replacement from to (some xs) r = with_right replace_kind.number (range_cell from (to - from) (length xs)) r
