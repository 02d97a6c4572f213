-- Names declared before, twice, or not at all, by what the symbol table lists. Assumes nothing.
use Rattle.std.specs.Prelude.{Bool, false, cond, not, ◌&&◌, ◌||◌, List, [], ◌∷◌, map, ℕ, ◌+◌}
use Rattle.base.specs.Lists.{same, any}
use Rattle.validation.specs.Environment.{Label, Routine, is_one_of, same_mention}
use Rattle.syntax.specs.Parsing.{for_label, for_routine, for_number, same_purpose, Mention}
use Rattle.name_checks.specs.declared.entries.Entries.{Entries}
use Rattle.symbols.specs.declared.known.Known.{Known}
use Rattle.symbols.specs.Entries.{name_of, mention_of, declares_name, gather, declared_by}
use Rattle.symbols.specs.Environment.{labels_in, routines_in, number_keys}
use Rattle.name_checks.specs.Shown.{entry_in, entries_left}

-- a label, routine or number known is declared, as validation/Refusals: is_declared_before has it
unfoldable pub declared_in : Known → Mention → Bool
declared_in known n =
    (same_purpose n.purpose for_label && any (λ (l : Label). same n.name l.name) (labels_in known))
    || ((same_purpose n.purpose for_routine && any (λ (r : Routine). same n.name r.name) (routines_in known))
    || (same_purpose n.purpose for_number && is_one_of (map name_of (number_keys known)) n.name))

-- a number is not known
unfoldable pub undeclared_in : Known → Mention → Bool
undeclared_in known n = same_purpose n.purpose for_number && not (is_one_of (map name_of (number_keys known)) n.name)

-- one of the names passes a test, or stands again behind itself
unfoldable pub again : (Mention → Bool) → List Mention → Bool
again f [] = false
again f (n ∷ ns) = (f n || any (same_mention n) ns) || again f ns

-- the entry at a place declares a name that passes the test or is declared again behind it
unfoldable pub again_at : (Mention → Bool) → Entries → (i : ℕ) → Bool
again_at f m i =
    let x = entry_in m i in
    cond (declares_name x) (f (mention_of x) || any (same_mention (mention_of x)) (gather declared_by (entries_left m (i + 1)))) false
