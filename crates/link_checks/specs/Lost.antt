-- Labels and routines used that are not declared, by keys. Assumes nothing.
use Rattle.std.specs.Prelude.{Bool, false, not, ◌&&◌, ◌==◌, ℕ}
use Rattle.std.specs.List.{list_any}
use Rattle.symbols.specs.Environment.{has_routine}
use Rattle.symbols.specs.declared.known.Known.{Known}
use Rattle.symbols.specs.declared.tags.Purpose.{Purpose}
use Rattle.symbols.specs.declared.tags.Purpose.TheVariants.{Program, Label, Routine, Number, String}

-- a label with this key stands in this scope
abbrev pub has_label : (known : Known) → (key scope : ℕ) → Bool
has_label known key scope = list_any (λ l. (l.key == key) && (l.scope == scope)) known.labels.items

-- a label that its scope does not have, a routine that is not declared
abbrev pub is_lost : (known : Known) → (key scope : ℕ) → Purpose → Bool
is_lost known key scope Program = false
is_lost known key scope Label = not (has_label known key scope)
is_lost known key scope Routine = not (has_routine known key)
is_lost known key scope Number = false
is_lost known key scope String = false
