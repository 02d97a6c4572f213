-- `verifier::unused_zero` meets its contract.
use Rattle.verifier.specs.Tests.{unused_test}
use Rattle.verifier.proofs.unused_zero.Goals as goal

pub returns : goal.returns
unfolding unused_test
returns c =
    rw (c.zeros-5.ensures, c.zeros-4.ensures, c.zeros-3.ensures, c.zeros-2.ensures, c.zeros.ensures)
