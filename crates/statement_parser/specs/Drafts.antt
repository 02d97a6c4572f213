-- What the readers of statements answer, if the form is not broken: a row so far, or a statement with its row if it is a step; each with the
-- cursor behind what is read. Assumes nothing.
use Rattle.std.specs.Prelude.{Option}
use Rattle.encoding.specs.declared.cells.Row.{Row}
use Rattle.symbols.specs.declared.Cursor.{Cursor}

abbrev pub Draft : Type 0
Draft = Option (Row × Cursor)

abbrev pub Form : Type 0
Form = Option (Option Row × Cursor)
