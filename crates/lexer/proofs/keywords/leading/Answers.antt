-- `lexer::keywords::leading` meets its contract.
use mathlib.Core.Path.{sym, ◌∙◌}
use Rattle.lexer.proofs.Forms.{leading-replacement, leading_keyword}
use Rattle.lexer.proofs.keywords.leading.Goals as goal

pub returns-then-is_replacement : goal.returns-then-is_replacement
returns-then-is_replacement c =
    leading-replacement c.args.text.now (sym c.is_replacement.ensures ∙ c.if-is_replacement.true)

pub returns : goal.returns
returns c =
    c.longest.ensures ∙ leading_keyword c.args.text.now (sym c.is_replacement.ensures ∙ c.if-is_replacement.false)
