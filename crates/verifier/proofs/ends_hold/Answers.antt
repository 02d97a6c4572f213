-- `verifier::ends_hold` meets its contract.
use mathlib.Core.Path.{refl}
use Rattle.verifier.specs.Tests.{ends_test}
use Rattle.verifier.proofs.ends_hold.Goals as goal

pub returns : goal.returns
unfolding ends_test
returns c = refl
