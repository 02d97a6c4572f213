-- What a caller of judging shows first. Behind it: name_checks/HoldLaws: nothing_held, entries-noted. Assumes nothing.
use Rattle.std.specs.Prelude.{ℕ, ◌+◌, ◌-◌, ◌≤◌}
use Rattle.std.proofs.Common.{arith}
use Rattle.validation.specs.Environment.{Environment}
use Rattle.symbols.specs.Clauses.{names_room}
use Rattle.symbols.specs.Holding.{SymbolsHold}
use Rattle.symbols.specs.declared.Cursor.{Cursor}
use Rattle.symbols.specs.declared.known.Symbols.{Symbols}
use Rattle.name_checks.specs.HoldLaws.{shown-held}
use Rattle.statement_checks.specs.Judged.{Judgeable}

-- a table that holds the environment is ready for a statement whose names have room
pub judgeable : (s : Symbols) (c : Cursor) (taken : ℕ) (k : Environment) → taken + c.names ≤ names_room → SymbolsHold s taken k → Judgeable s c
judgeable s c taken k room h =
    record { room = omega arith; held = shown-held s taken (names_room - c.names) k (omega arith) h }
