-- What 11 and 12 look at, as the symbol table holds it. Assumes nothing.
use Rattle.std.specs.Prelude.{false, [], ◌≤◌}
use Rattle.syntax.specs.Parsing.{for_label, for_routine}
use Rattle.validation.specs.Environment.{Environment}
use Rattle.symbols.specs.Clauses.{names_room}
use Rattle.symbols.specs.Environment.{labels_in, routines_in}
use Rattle.symbols.specs.Holding.{uses_in}
use Rattle.symbols.specs.declared.known.Symbols.{Symbols}

-- there are no more uses than there is room for
pub record Closable (s : Symbols) : Type 0 where
  pub uses : s.uses.count ≤ names_room

-- labels and routines declared, and those used; nothing else of the environment
unfoldable pub held_in : Symbols → Environment
held_in s =
    record {
      statements = 0;
      steps = 0;
      ended = false;
      scope = [];
      names = [];
      labels = labels_in s.known;
      routines = routines_in s.known;
      branches = uses_in for_label s.uses;
      executes = uses_in for_routine s.uses;
      elements = 0;
      items = 0;
      literals = 0;
    }
