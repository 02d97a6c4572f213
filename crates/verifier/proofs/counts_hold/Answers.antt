-- `verifier::counts_hold` meets its contract.
use mathlib.Core.Path.{refl}
use Rattle.verifier.specs.Tests.{counts_test}
use Rattle.verifier.proofs.counts_hold.Goals as goal

pub returns : goal.returns
unfolding counts_test
returns c = refl
