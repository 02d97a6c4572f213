-- `branch_parser::read_target` reads a name and looks its step up.
use Rattle.std.proofs.Common.{drop}
use Rattle.branch_parser.specs.BranchLaws.{target_lost, target_broken, target_got}
use Rattle.branch_parser.proofs.read_target.Goals as goal

pub returns-in_err-key : goal.returns-in_err-key
returns-in_err-key c =
    let a = c.args in
    target_lost c.from_residual.ensures (target_broken a.known.now a.target (drop a.c.at a.text.now) c.in_err-key.ensures.answer)

pub returns : goal.returns
returns c =
    record { answer = target_got c.args.known.now c.args.target c.tag.ensures c.in_ok-key.ensures.answer c.target_step.ensures }
