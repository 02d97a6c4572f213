-- `branch_parser::read_branch` reads a branch field.
use Rattle.std.proofs.Common.{drop}
use Rattle.numeric_parser.specs.OperandLaws.{mark_passed, mark_none, mark_ready}
use Rattle.branch_parser.specs.BranchLaws.{branch-targets, branch_broken, branch_lost}
use Rattle.branch_parser.proofs.read_branch.Goals as goal

pub returns-in_err-d : goal.returns-in_err-d
returns-in_err-d c =
    let a = c.args in
    branch_lost c.from_residual.ensures (branch_broken a.known.now (drop a.c.at a.text.now) (mark_none a.text.now 47 a.c c.in_err-d.ensures))

pub read_targets-requires : goal.read_targets-requires
read_targets-requires c = mark_ready c.args.text.now 47 c.args.c c.requires c.in_ok-d.ensures

pub returns : goal.returns
returns c =
    let m = mark_passed c.args.text.now 47 c.args.c c.in_ok-d.ensures in
    branch-targets c.args.known.now m.0 c.read_targets.result m.1 c.read_targets.ensures
