-- `lexer::sign_at` meets its contract.
use Rattle.base.specs.Text.{bytes}
use Rattle.syntax.specs.Lexemes.{is_sign}
use Rattle.lexer.proofs.sign_at.Goals as goal

pub returns : goal.returns
unfolding is_sign bytes
returns c = cc
