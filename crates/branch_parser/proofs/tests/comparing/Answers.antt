-- `branch_parser::tests::comparing` reads two operands and a sign.
use Rattle.std.proofs.Common.{drop}
use Rattle.symbols.specs.Environment.{places_in}
use Rattle.branch_parser.specs.Rows.{draft_lost}
use Rattle.branch_parser.specs.TestLaws.{comparing_then, comparing_broken}
use Rattle.branch_parser.proofs.tests.comparing.Goals as goal

pub compared-requires : goal.compared-requires
compared-requires c = c.in_ok-left.ensures.answer.ready

pub returns-in_err-left : goal.returns-in_err-left
returns-in_err-left c =
    let a = c.args in
    draft_lost c.from_residual.ensures
    (comparing_broken (places_in a.known.now) (drop a.c.at a.text.now) c.in_err-left.ensures.answer)

pub returns : goal.returns
returns c =
    comparing_then (places_in c.args.known.now) c.in_ok-left.left c.in_ok-left.ensures.answer c.compared.result
    c.compared.ensures
