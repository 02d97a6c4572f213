-- `statement_parser::is_name` looks at a key's bytes one by one. The invariant: those passed may stand in a name.
use mathlib.Core.Path.{sym, ◌∙◌}
use Rattle.statement_parser.specs.Labels.{looked_start, looked_more, looked_not, looked_all, shown_not}
use Rattle.statement_parser.proofs.is_name.Goals as goal

pub returns-then-not-is_letter : goal.returns-then-not-is_letter
returns-then-not-is_letter c = shown_not c.args.key (sym c.is_letter.ensures ∙ c.if-not-is_letter.true)

pub loop-rest-init : goal.loop-rest-init
loop-rest-init c = looked_start c.args.key (sym c.is_letter.ensures ∙ c.if-not-is_letter.false)

pub returns-then-not-is_letter_or_digit : goal.returns-then-not-is_letter_or_digit
returns-then-not-is_letter_or_digit c =
    looked_not c.args.key c.loop-rest.rest c.loop-rest.invariant c.loop-rest-test.true
    (sym c.is_letter_or_digit.ensures ∙ c.if-not-is_letter_or_digit.true)

pub loop-rest-preserved : goal.loop-rest-preserved
loop-rest-preserved c =
    looked_more c.args.key c.loop-rest.rest c.loop-rest.invariant c.loop-rest-test.true
    (sym c.is_letter_or_digit.ensures ∙ c.if-not-is_letter_or_digit.false)

pub returns : goal.returns
returns c = looked_all c.args.key c.loop-rest.rest c.loop-rest.invariant c.loop-rest-test.false
