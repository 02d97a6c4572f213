-- `classes::is_digit_or_blank` answers whether the byte is a digit or a blank: comparing says what the table does.
use mathlib.Core.Bool.{cond}
use mathlib.Core.Path.{ap, sym, ◌∙◌}
use lib.Dec.{leb}
use Rattle.cards.specs.Bytes.{is_blank}
use Rattle.classes.specs.Laws.{numeric_class, numeric_compared}
use borrow.Author.Rules.{rules}
use borrow.Author.Tests.{le-ltb, lt-ltb}
use Rattle.classes.proofs.is_digit_or_blank.Goals as goal

pub returns-then-b-lt48 : goal.returns-then-b-lt48
returns-then-b-lt48 c =
    let b = c.args.b in
    c.is_blank.ensures
    ∙ ap (λ t. cond t (is_blank b) (leb b 57)) (sym (lt-ltb b 48 c.if-b-lt48.true))
    ∙ numeric_compared b (search rules)
    ∙ numeric_class b (search rules)

pub returns-else-b-lt48 : goal.returns-else-b-lt48
returns-else-b-lt48 c =
    let b = c.args.b in
    ap (λ t. cond t (is_blank b) (leb b 57)) (sym (le-ltb b 48 c.if-b-lt48.false))
    ∙ numeric_compared b (search rules)
    ∙ numeric_class b (search rules)
