-- `verifier::zeros` meets its contract.
use Rattle.verifier.specs.Tests.{zeros_test}
use Rattle.verifier.proofs.zeros.Goals as goal

pub returns : goal.returns
unfolding zeros_test
returns c = c.are_zero.ensures
