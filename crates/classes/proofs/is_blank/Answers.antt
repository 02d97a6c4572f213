-- `classes::is_blank` answers whether the byte is a blank: comparing says what the table does.
use mathlib.Core.Path.{◌∙◌}
use Rattle.classes.specs.Laws.{blank_class, blank_compared}
use borrow.Author.Rules.{rules}
use Rattle.classes.proofs.is_blank.Goals as goal

pub returns : goal.returns
returns c = blank_compared c.args.b (search rules) ∙ blank_class c.args.b (search rules)
