-- What judging the names of a statement does. Assumes nothing.
use Rattle.std.specs.Prelude.{cond, ◌||◌, List, [], ◌++◌, ◌≡◌, ℕ, ◌+◌, ◌≤◌, ◌<◌, length, get_or, Result, IfOk}
use Rattle.std.specs.Result.{IfErr}
use Rattle.base.specs.Lists.{any}
use Rattle.validation.specs.Environment.{with_names}
use Rattle.validation.specs.RefusalNumbers.{judged_number}
use Rattle.validation.specs.Refusals.{has_other_purpose, has_duplicate, clashes}
use Rattle.validation.specs.declared.Refusal.{Refusal}
use Rattle.syntax.specs.Parsing.{Mention}
use Rattle.symbols.specs.declared.known.Known.{Known}
use Rattle.symbols.specs.declared.known.Names.{Names}
use Rattle.symbols.specs.declared.tags.Purpose.TheVariants.{Program}
use Rattle.symbols.specs.Clauses.{names_room}
use Rattle.symbols.specs.Entries.{NameEntry, gather, declared_by, used_by, roles_by}
use Rattle.symbols.specs.Holding.{names_in}
use Rattle.name_checks.specs.Declaring.{declared_in, undeclared_in, again}
use Rattle.name_checks.specs.Names.{Single}

-- the names that entries declare, and then those they use
abbrev pub names_of : List NameEntry → List Mention
names_of es = gather declared_by es ++ gather used_by es

-- 6, 7, 8 or 0 of these entries behind the names ns
unfoldable pub names_number : Known → List Mention → List NameEntry → ℕ
names_number known ns es =
    let new = names_of es in
    cond (any (has_other_purpose (ns ++ new)) new || (any (declared_in known) (gather declared_by es) || has_duplicate (gather declared_by es))) 6
    (cond (any (undeclared_in known) (gather used_by es)) 7 (cond (clashes [] [] (gather roles_by es)) 8 0))

-- the same where no name has two purposes
unfoldable pub first_number : Known → List NameEntry → ℕ
first_number known es =
    cond (again (declared_in known) (gather declared_by es)) 6
    (cond (any (undeclared_in known) (gather used_by es)) 7 (cond (clashes [] [] (gather roles_by es)) 8 0))

-- there is room for the names mentioned; each name known has one purpose
pub record NamesReady (names : Names) (es : List NameEntry) : Type 0 where
  pub room : names.count + length es ≤ names_room
  pub single : Single (names_in names)

-- the number, and the names put behind those before, which stay; where the number is 0 all the new ones are
pub record NamesEntered (known : Known) (names : Names) (es : List NameEntry) (names' : Names) (r : Result (Unit {0}) Refusal) : Type 0 where
  pub number : judged_number r ≡ names_number known (names_in names) es
  pub few : names'.count ≤ names.count + length es
  pub more : names.count ≤ names'.count
  pub keys_kept : (i : ℕ) → i < names.count → get_or names'.keys i 0 ≡ get_or names.keys i 0
  pub purposes_kept : (i : ℕ) → i < names.count → get_or names'.purposes i Program ≡ get_or names.purposes i Program
  pub extended : IfOk r (λ _. names_in names' ≡ with_names (names_in names) (names_of es))
  pub single : IfOk r (λ _. Single (names_in names'))

-- the same, but where the number is another the names known are those before
pub record NamesJudged (known : Known) (names : Names) (es : List NameEntry) (names' : Names) (r : Result (Unit {0}) Refusal) : Type 0 where
  pub entered : NamesEntered known names es names' r
  pub refused : IfErr r (λ _. names_in names' ≡ names_in names)
