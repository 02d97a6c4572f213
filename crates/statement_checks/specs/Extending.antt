-- Where a kind may not stand; what extending the environment by a statement does. Assumes nothing.
use Rattle.std.specs.Prelude.{Bool, false, not, List, ◌++◌, ◌≡◌, ℕ, ◌+◌, ◌≤◌, eqb, length, take, Option}
use Rattle.syntax.specs.Parsing.{for_number, for_string}
use Rattle.lexer.specs.declared.keywords.Kind.{Kind}
use Rattle.lexer.specs.declared.keywords.Kind.TheVariants.{End, Routine, EndRoutine, Return}
use Rattle.symbols.specs.Clauses.{names_room}
use Rattle.symbols.specs.Entries.{NameEntry, name_of}
use Rattle.symbols.specs.Environment.{string_keys, number_keys, labels_in, routines_in, most, most_labels}
use Rattle.symbols.specs.declared.Cursor.{Cursor}
use Rattle.symbols.specs.declared.known.Symbols.{Symbols}
use Rattle.statement_checks.specs.Counts.{steps_behind, ended_behind}
use Rattle.statement_checks.specs.Labels.{labels_by}
use Rattle.statement_checks.specs.Listing.{ShowsNames, Listing}
use Rattle.statement_checks.specs.Routines.{routine_names, routines_behind, scope_behind, Opens}
use Rattle.statement_checks.specs.Uses.{Used}

-- 9 by a kind and the key of the scope
unfoldable pub wrong_in : Kind → (scope : ℕ) → Bool
wrong_in Routine scope = not (eqb scope 0)
wrong_in End scope = not (eqb scope 0)
wrong_in Return scope = eqb scope 0
wrong_in EndRoutine scope = eqb scope 0
wrong_in _ scope = false

-- the table is ready to be extended by a statement: the names are there already, behind the first so many that were known before
pub record Extendable (s : Symbols) (met before : ℕ) : Type 0 where
  pub strings : Listing most s.names before for_string (string_keys s.known)
  pub numbers : Listing most s.names before for_number (number_keys s.known)
  pub spacious : s.uses.count + met ≤ names_room
  pub statements : s.known.statements ≤ 256
  pub steps : s.known.steps ≤ 256
  pub labels : length s.known.labels.items ≤ most_labels
  pub routines : length s.known.routines.items ≤ 16

-- the environment is extended by all of a statement, and the names stay
pub record Extended (s : Symbols) (es : List NameEntry) (c : Cursor) (kind : Kind) (s' : Symbols) : Type 0 where
  pub opened : Option ℕ
  pub opens : Opens (routine_names es) opened
  pub names : s'.names ≡ s.names
  pub strings : ShowsNames most s.names s.names.count for_string (string_keys s'.known)
  pub numbers : ShowsNames most s.names s.names.count for_number (number_keys s'.known)
  pub labels : labels_in s'.known ≡ take most_labels (labels_in s.known ++ labels_by s.known.steps (name_of s.known.scope) es)
  pub routines : routines_in s'.known ≡ routines_behind s.known.steps (routines_in s.known) opened kind
  pub statements : s'.known.statements ≡ s.known.statements + 1
  pub steps : s'.known.steps ≡ steps_behind s.known.steps kind
  pub ended : s'.known.ended ≡ ended_behind kind
  pub scope : s'.known.scope ≡ scope_behind s.known.scope opened kind
  pub elements : s'.known.elements ≡ c.elements
  pub items : s'.known.items ≡ c.items
  pub literals : s'.known.literals ≡ c.literals
  pub used : Used s.uses s.known.scope es s'.uses
