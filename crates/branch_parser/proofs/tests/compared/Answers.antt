-- `branch_parser::tests::compared` reads a sign and an operand.
use Rattle.std.proofs.Common.{drop, arith}
use Rattle.symbols.specs.Environment.{places_in}
use Rattle.numeric_parser.specs.OperandLaws.{ready_on}
use Rattle.branch_parser.specs.Rows.{draft_lost}
use Rattle.branch_parser.specs.TestLaws.{compared_none, compared_broken, compared-got}
use Rattle.branch_parser.proofs.tests.compared.Goals as goal

pub returns-in_err-sign : goal.returns-in_err-sign
returns-in_err-sign c =
    let a = c.args in
    λ o e.
    draft_lost c.from_residual.ensures
    (compared_none (places_in a.known.now) o (drop a.c.at a.text.now) c.in_err-sign.ensures.answer)

pub skip-requires : goal.skip-requires
skip-requires c = omega (arith, c.in_ok-sign.ensures.answer.inside)

pub if_operand-requires : goal.if_operand-requires
if_operand-requires c = ready_on c.in_ok-sign.sign.size c.requires c.skip.ensures c.in_ok-sign.ensures.answer.inside

pub returns-in_err-right : goal.returns-in_err-right
returns-in_err-right c =
    let a = c.args in
    λ x e.
    draft_lost c.from_residual-in_err-right.ensures
    (compared_broken (places_in a.known.now) x a.c c.in_ok-sign.ensures.answer c.skip.ensures c.in_err-right.ensures.answer)

pub returns : goal.returns
returns c =
    let a = c.args in
    λ x e.
    record {
      answer =
          compared-got (places_in a.known.now) x a.c c.in_ok-sign.ensures.answer c.skip.ensures a.left c.in_ok-right.right
          c.number.ensures e
          c.in_ok-right.ensures.answer;
    }
