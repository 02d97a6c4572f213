-- `verifier::steps::row_holds` meets its contract.
use Rattle.verifier.specs.Asked.{row_rule_asks}
use Rattle.verifier.specs.Tests.{row_test}
use Rattle.verifier.proofs.steps.row_holds.Goals as goal

pub returns : goal.returns
unfolding row_test row_rule_asks
returns c = rw (c.right_holds.ensures, c.left_holds.ensures, c.branch_holds.ensures, c.flags_hold.ensures)
