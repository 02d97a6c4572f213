-- Labels and routines used, noted with the scope they are used in. Assumes nothing.
use Rattle.std.specs.Prelude.{List, ◌++◌, map, ◌≡◌, ℕ, ◌+◌, ◌≤◌, length}
use Rattle.validation.specs.Environment.{Use, names_for}
use Rattle.syntax.specs.Parsing.{Purpose, for_label, for_routine}
use Rattle.symbols.specs.Entries.{NameEntry, name_of, gather, used_by}
use Rattle.symbols.specs.Holding.{uses_in}
use Rattle.symbols.specs.declared.known.Uses.{Uses}

-- what entries use with a purpose in a scope
unfoldable pub uses_by : (scope : List ℕ) → Purpose → List NameEntry → List Use
uses_by scope p es = map (λ n. record { name = n; scope = scope }) (names_for p (gather used_by es))

-- the labels and routines that entries use are noted behind those there
pub record Used (us : Uses) (scope : ℕ) (es : List NameEntry) (us' : Uses) : Type 0 where
  pub few : us'.count ≤ us.count + length es
  pub branches : uses_in for_label us' ≡ uses_in for_label us ++ uses_by (name_of scope) for_label es
  pub executes : uses_in for_routine us' ≡ uses_in for_routine us ++ uses_by (name_of scope) for_routine es
