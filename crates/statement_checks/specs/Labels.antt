-- Labels noted, each with the step that comes next and its scope. Assumes nothing.
use Rattle.std.specs.Prelude.{List, ◌++◌, map, ◌≡◌, ℕ, take}
use Rattle.validation.specs.Environment.{Label, names_for}
use Rattle.syntax.specs.Parsing.{for_label}
use Rattle.symbols.specs.Entries.{NameEntry, name_of, gather, declared_by}
use Rattle.symbols.specs.Environment.{label_meaning, most_labels}
use Rattle.symbols.specs.declared.known.Label as Listed

-- the labels that entries declare at a step in a scope
unfoldable pub labels_by : (step : ℕ) (scope : List ℕ) → List NameEntry → List Label
labels_by step scope es = map (λ n. record { name = n; step = step; scope = scope }) (names_for for_label (gather declared_by es))

-- the labels that entries declare are noted behind others, of which 65 at most are noted
abbrev pub Labelled : (ls : List Listed.Label) (step scope : ℕ) → List NameEntry → (ls' : List Listed.Label) → Type 0
Labelled ls step scope es ls' = map label_meaning ls' ≡ take most_labels (map label_meaning ls ++ labels_by step (name_of scope) es)
