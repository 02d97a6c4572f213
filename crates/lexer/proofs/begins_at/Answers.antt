-- `lexer::begins_at` meets its contract.
use mathlib.Core.Path.{ap, ◌∙◌}
use Rattle.base.specs.Lists.{begins}
use Rattle.lexer.proofs.Starts.{starts_begins}
use Rattle.lexer.proofs.begins_at.Goals as goal

pub returns : goal.returns
returns c =
    let word = c.args.word.now in
    c.starts_with.ensures.value ∙ starts_begins word c.behind.result.now ∙ ap (begins word) c.behind.ensures
