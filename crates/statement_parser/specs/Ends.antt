-- The end of a statement: nothing may stand behind it. Assumes nothing.
use Rattle.std.specs.Prelude.{Option, Some, None, true, false, List, ℕ, ltb, length}
use Rattle.encoding.specs.declared.cells.Row.{Row}
use Rattle.symbols.specs.declared.Cursor.{Cursor}
use Rattle.statement_parser.specs.Drafts.{Draft, Form}

-- a statement at the end of the text, with its row if it is a step
abbrev pub ended_at : List ℕ → Option Row → Cursor → Form
ended_at text row d = elim (ltb d.at (length text)) [ true ↦ None | false ↦ Some (row, d) ]

-- a row at the end of the text is a step
abbrev pub ended_by : List ℕ → Draft → Form
ended_by text (Some (row, d)) = ended_at text (Some row) d
ended_by text None = None

-- a statement that is no step
abbrev pub unstepped_at : List ℕ → Cursor → Form
unstepped_at text = ended_at text None
