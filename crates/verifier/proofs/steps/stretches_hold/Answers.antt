-- `verifier::steps::stretches_hold` meets its contract.
use Rattle.verifier.specs.Tests.{stretches_test}
use Rattle.verifier.proofs.steps.stretches_hold.Goals as goal

pub returns : goal.returns
unfolding stretches_test
returns c = rw c.most_more.ensures
