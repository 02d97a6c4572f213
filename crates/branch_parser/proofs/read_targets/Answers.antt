-- `branch_parser::read_targets` reads one label or two.
use lib.ListN.{drop}
use Rattle.numeric_parser.specs.OperandLaws.{mark_passed, mark_none, mark_ready}
use Rattle.branch_parser.specs.BranchLaws.{branch_lost, targets_failing, targets-both, targets_success, targets_broken}
use Rattle.branch_parser.proofs.read_targets.Goals as goal

pub read_failure-requires : goal.read_failure-requires
read_failure-requires c = mark_ready c.args.text.now 44 c.args.c c.requires c.in-Some.ensures

pub returns-in-Some : goal.returns-in-Some
returns-in-Some c =
    let a = c.args in
    let f = c.read_failure in
    let comma = mark_passed a.text.now 44 a.c c.in-Some.ensures in
    targets_failing a.known.now comma.0 f.result comma.1 f.ensures

pub read_failure-requires-in-Some-marked : goal.read_failure-requires-in-Some-marked
read_failure-requires-in-Some-marked c =
    mark_ready c.args.text.now 44 c.in_ok-success.d c.in_ok-success.ensures.answer.ready c.in-Some-marked.ensures

pub returns-in-Some-marked : goal.returns-in-Some-marked
returns-in-Some-marked c =
    let a = c.args in
    let f = c.read_failure-in-Some-marked in
    let none = mark_none a.text.now 44 a.c c.in_default.ensures in
    let comma = mark_passed a.text.now 44 c.in_ok-success.d c.in-Some-marked.ensures in
    targets-both a.known.now none c.in_ok-success.ensures.answer comma.0 f.result comma.1 f.ensures

pub returns-in_err-success : goal.returns-in_err-success
returns-in_err-success c =
    let a = c.args in
    branch_lost c.from_residual.ensures
    (targets_broken a.known.now (drop a.c.at a.text.now) (mark_none a.text.now 44 a.c c.in_default.ensures) c.in_err-success.ensures.answer)

pub returns : goal.returns
returns c =
    let a = c.args in
    record {
      answer =
          targets_success a.known.now (mark_none a.text.now 44 a.c c.in_default.ensures) c.in_ok-success.ensures.answer
          (mark_none a.text.now 44 c.in_ok-success.d c.in_default-marked.ensures);
    }
