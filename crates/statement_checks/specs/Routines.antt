-- Routines opened and closed. Assumes nothing.
use Rattle.std.specs.Prelude.{Bool, true, false, List, [], ◌∷◌, ◌≡◌, ℕ, ◌+◌, Option, Some, None}
use Rattle.validation.specs.Environment.{Routine, names_for, close_routine}
use Rattle.syntax.specs.Parsing.{for_routine}
use Rattle.lexer.specs.declared.keywords.Kind.{Kind}
use Rattle.lexer.specs.declared.keywords.Kind.TheVariants.{EndRoutine}
use Rattle.symbols.specs.Entries.{NameEntry, name_of, gather, declared_by}
use Rattle.symbols.specs.declared.tags.Tag.{Tag}
use Rattle.symbols.specs.declared.tags.Tag.TheVariants.{RoutineDeclared}

-- a tag declares a routine
unfoldable pub declares_routine : Tag → Bool
declares_routine RoutineDeclared = true
declares_routine _ = false

-- the routines that entries declare
unfoldable pub routine_names : List NameEntry → List (List ℕ)
routine_names es = names_for for_routine (gather declared_by es)

-- the name with a key and others behind it; no name where there is no key
abbrev pub first_and : Option ℕ → List (List ℕ) → List (List ℕ)
first_and None others = []
first_and (Some key) others = name_of key ∷ others

-- the first of some names, if any
pub record Opens (names : List (List ℕ)) (r : Option ℕ) : Type 0 where
  pub others : List (List ℕ)
  pub is : names ≡ first_and r others

-- the routines with one more opened, if any
abbrev pub with_opened : (steps : ℕ) → List Routine → Option ℕ → List Routine
with_opened steps rs None = rs
with_opened steps rs (Some key) = record { name = name_of key; entry = steps + 1; exit = 0 } ∷ rs

-- the routines behind a statement of a kind that opens this one
unfoldable pub routines_behind : (steps : ℕ) → List Routine → Option ℕ → Kind → List Routine
routines_behind steps rs o EndRoutine = close_routine (steps + 1) rs
routines_behind steps rs o _ = with_opened steps rs o

-- the key of the routine open behind it
unfoldable pub scope_behind : (scope : ℕ) → Option ℕ → Kind → ℕ
scope_behind scope (Some key) kind = key
scope_behind scope None EndRoutine = 0
scope_behind scope None _ = scope
