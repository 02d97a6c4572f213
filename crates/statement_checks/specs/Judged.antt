-- What judging a statement does: its number of 6 to 10, and where that is 0 the table holds the environment behind it.
-- Assumes nothing.
use Rattle.std.specs.Prelude.{Bool, List, ◌≡◌, ℕ, ◌+◌, ◌-◌, ◌≤◌, ltb}
use Rattle.base.specs.Limits as Limits
use Rattle.base.specs.Lists.{any, total}
use Rattle.validation.specs.Environment.{Environment, extend}
use Rattle.validation.specs.Refusals.{mentions_number, is_misplaced}
use Rattle.symbols.specs.Clauses.{names_room}
use Rattle.symbols.specs.Entries.{mentions_in}
use Rattle.symbols.specs.Holding.{SymbolsHold}
use Rattle.symbols.specs.declared.Cursor.{Cursor}
use Rattle.symbols.specs.declared.Mentioned.{Mentioned}
use Rattle.symbols.specs.declared.known.Known.{Known}
use Rattle.symbols.specs.declared.known.Symbols.{Symbols}
use Rattle.name_checks.specs.Shown.{environment_in, entries_from}
use Rattle.lexer.specs.Kinds.{kind_of}
use Rattle.lexer.specs.declared.keywords.Kind.{Kind}

-- the table holds what it shows, with room for the names mentioned; law `judgeable` makes it of SymbolsHold
pub record Judgeable (s : Symbols) (c : Cursor) : Type 0 where
  pub room : c.names ≤ names_room
  pub held : SymbolsHold s (names_room - c.names) (environment_in s)

-- the cursor's counts are those of the deck behind a statement with so many items, such rows and so many literal bytes
pub record Tallied (k : Environment) (c : Cursor) (items : ℕ) (rows : List ℕ) (literals : ℕ) : Type 0 where
  pub item_count : c.items ≡ k.items + items
  pub element_count : c.elements ≡ k.elements + total (λ n. n) rows
  pub literal_count : c.literals ≡ k.literals + literals
  pub longest_row : ltb Limits.row_elements c.longest ≡ any (ltb Limits.row_elements) rows

-- the number, and what the table holds where it is 0
pub record StatementJudged (s : Symbols) (m : Mentioned) (c : Cursor) (kind : Kind) (s' : Symbols) (r : ℕ) : Type 0 where
  pub number : (taken : ℕ) (k : Environment) → SymbolsHold s taken k → (items : ℕ) (rows : List ℕ) (literals : ℕ) → Tallied k c items rows literals
      → r ≡ mentions_number k (kind_of kind) (mentions_in (entries_from m 0 c.names) items rows literals)
  pub extended : r ≡ 0 → (taken : ℕ) (k : Environment) → SymbolsHold s taken k → (items : ℕ) (rows : List ℕ) (literals : ℕ)
      → Tallied k c items rows literals → (taken' : ℕ) → taken + c.names ≤ taken'
      → SymbolsHold s' taken' (extend k (kind_of kind) (mentions_in (entries_from m 0 c.names) items rows literals))

-- 4, of what any table with this known holds
pub record Misplaced (known : Known) (kind : Kind) (r : Bool) : Type 0 where
  pub misplaced : (s : Symbols) → s.known ≡ known → (taken : ℕ) (k : Environment) → SymbolsHold s taken k → r ≡ is_misplaced k (kind_of kind)
