-- `branch_parser::read_failure` reads a label beside a step.
use Rattle.std.proofs.Common.{drop}
use Rattle.branch_parser.specs.BranchLaws.{branch_lost, failure_got, failure_broken}
use Rattle.branch_parser.proofs.read_failure.Goals as goal

pub returns-in_err-failure : goal.returns-in_err-failure
returns-in_err-failure c =
    let a = c.args in
    branch_lost c.from_residual.ensures
    (failure_broken a.known.now a.success (drop a.c.at a.text.now) c.in_err-failure.ensures.answer)

pub returns : goal.returns
returns c = record { answer = failure_got c.args.known.now c.args.success c.in_ok-failure.ensures.answer }
