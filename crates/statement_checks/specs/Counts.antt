-- The counts behind a statement, and whether one passes what 10 allows. Assumes nothing.
use Rattle.std.specs.Prelude.{Bool, true, false, ◌||◌, ℕ, ◌+◌, ltb, length}
use Rattle.base.specs.Limits as Limits
use Rattle.lexer.specs.declared.keywords.Kind.{Kind}
use Rattle.lexer.specs.declared.keywords.Kind.TheVariants.{Number, Program, End}
use Rattle.symbols.specs.Environment.{string_keys, number_keys}
use Rattle.symbols.specs.declared.Cursor.{Cursor}
use Rattle.symbols.specs.declared.known.Known.{Known}

unfoldable pub steps_behind : (steps : ℕ) → Kind → ℕ
steps_behind steps Program = steps
steps_behind steps Number = steps
steps_behind steps _ = steps + 1

unfoldable pub ended_behind : Kind → Bool
ended_behind End = true
ended_behind _ = false

-- statements, steps, END, scope, elements, items and literal bytes
abbrev pub counts_after : Known → Cursor → Kind → (scope : ℕ) → Known
counts_after known c kind scope =
    record {
      strings = known.strings;
      numbers = known.numbers;
      labels = known.labels;
      routines = known.routines;
      statements = known.statements + 1;
      steps = steps_behind known.steps kind;
      next = known.next;
      ended = ended_behind kind;
      scope = scope;
      elements = c.elements;
      items = c.items;
      literals = c.literals;
    }

unfoldable pub is_over : Known → (longest : ℕ) → Bool
is_over known longest =
    ltb Limits.statements known.statements
    || (ltb Limits.strings (length (string_keys known))
    || (ltb Limits.numbers (length (number_keys known))
    || (ltb Limits.labels (length known.labels.items)
    || (ltb Limits.routines (length known.routines.items)
    || (ltb Limits.row_elements longest
    || (ltb Limits.elements known.elements
    || (ltb Limits.items known.items
    || ltb Limits.literals known.literals)))))))
