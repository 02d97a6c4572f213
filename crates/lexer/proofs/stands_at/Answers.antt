-- `lexer::stands_at` meets its contract.
use native.Mathlib.Omega.{arith}
use mathlib.Core.Path.{◌∙◌}
use Rattle.lexer.proofs.Starts.{mark_stands}
use Rattle.lexer.proofs.stands_at.Goals as goal

pub returns : goal.returns
returns c =
    let a = c.args in
    let got = c.get.ensures.lookup in
    c.eq.ensures ∙ mark_stands a.text.now a.at c.get.result _ got.0 (got.4 (omega arith) 0)
