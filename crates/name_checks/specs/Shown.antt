-- What the symbol table shows of a deck's environment, and the names that a statement mentions. Assumes nothing.
use Rattle.std.specs.Prelude.{List, ℕ, ◌-◌, get_or, length}
use Rattle.validation.specs.Environment.{Environment}
use Rattle.syntax.specs.Parsing.{for_label, for_routine}
use Rattle.symbols.specs.declared.Mentioned.{Mentioned}
use Rattle.symbols.specs.declared.known.Symbols.{Symbols}
use Rattle.symbols.specs.declared.tags.Tag.{Tag}
use Rattle.symbols.specs.declared.tags.Tag.TheVariants.{ProgramDeclared}
use Rattle.symbols.specs.Entries.{NameEntry, entry, name_of}
use Rattle.symbols.specs.From.{values_from}
use Rattle.symbols.specs.Holding.{names_in, uses_in}
use Rattle.symbols.specs.Environment.{labels_in, routines_in}
use Rattle.name_checks.specs.declared.entries.Entries.{Entries}

-- all that the symbol table shows
unfoldable pub environment_in : Symbols → Environment
environment_in s =
    record {
      statements = s.known.statements;
      steps = s.known.steps;
      ended = s.known.ended;
      scope = name_of s.known.scope;
      names = names_in s.names;
      labels = labels_in s.known;
      routines = routines_in s.known;
      branches = uses_in for_label s.uses;
      executes = uses_in for_routine s.uses;
      elements = s.known.elements;
      items = s.known.items;
      literals = s.known.literals;
    }

-- name i of those with these keys and tags
abbrev pub entry_at : (keys : List ℕ) (tags : List Tag) → ℕ → NameEntry
entry_at keys tags i = entry (get_or keys i 0) (get_or tags i ProgramDeclared)

-- n names noted, from place i on
abbrev pub entries_from : Mentioned → (i n : ℕ) → List NameEntry
entries_from m = values_from (entry_at m.keys m.tags)

-- the names that a statement mentions: how many, name i by its key and its tag, those from place i on, those before it, and all
abbrev pub entry_count : Entries → ℕ
entry_count m = length m.keys.now

abbrev pub key_in : Entries → ℕ → ℕ
key_in m i = get_or m.keys.now i 0

abbrev pub tag_in : Entries → ℕ → Tag
tag_in m i = get_or m.tags.now i ProgramDeclared

abbrev pub entry_in : Entries → ℕ → NameEntry
entry_in m = entry_at m.keys.now m.tags.now

abbrev pub entries_left : Entries → ℕ → List NameEntry
entries_left m i = values_from (entry_in m) i (entry_count m - i)

abbrev pub entries_to : Entries → ℕ → List NameEntry
entries_to m = values_from (entry_in m) 0

abbrev pub entries_in : Entries → List NameEntry
entries_in m = entries_to m (entry_count m)
