-- The measures of the cycle of readers. With L bytes left they are 3L+2 for `expression`, 3L+1 for `term`, 3L for `factor`; the loops go
-- by L too. The invariants: whatever is read from here on, with it all is read from the start on.
use Rattle.std.proofs.Common.{length, ◌≡◌, ◌+◌, ◌-◌, ◌*◌}
use Rattle.base.specs.Current.{current}
use Rattle.syntax.specs.Fuel.{term_from, more_terms_from, factor_from, more_factors_from}
use Rattle.symbols.specs.Environment.{places_in}
use Rattle.numeric_parser.specs.Joins.{Joining}
use Rattle.numeric_parser.proofs.+expression_factor_term.Given as goal

abbrev pub decreases-expression : goal.decreases-expression
decreases-expression l = 3 * (length l.text.now - l.c.at) + 2

abbrev pub decreases-factor : goal.decreases-factor
decreases-factor l = 3 * (length l.text.now - l.c.at)

abbrev pub decreases-term : goal.decreases-term
decreases-term l = 3 * (length l.text.now - l.c.at) + 1

abbrev pub invariant-expression-loop-e : goal.invariant-expression-loop-e
invariant-expression-loop-e l =
    Joining (term_from current (places_in l.known) l.depth) (more_terms_from current (places_in l.known) l.depth) l.text
    l.initial.table l.initial.mentioned l.initial.mark l.initial.d l.table l.mentioned l.mark l.d
    × (length l.table ≡ length l.initial.table)

abbrev pub decreases-expression-loop-e : goal.decreases-expression-loop-e
decreases-expression-loop-e l = length l.text - l.d.at

abbrev pub invariant-term-loop-e : goal.invariant-term-loop-e
invariant-term-loop-e l =
    Joining (factor_from current (places_in l.known) l.depth) (more_factors_from current (places_in l.known) l.depth) l.text
    l.initial.table l.initial.mentioned l.initial.mark l.initial.d l.table l.mentioned l.mark l.d
    × (length l.table ≡ length l.initial.table)

abbrev pub decreases-term-loop-e : goal.decreases-term-loop-e
decreases-term-loop-e l = length l.text - l.d.at
