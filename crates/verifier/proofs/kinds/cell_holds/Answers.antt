-- `verifier::kinds::cell_holds` meets its contract.
use Rattle.verifier.specs.CellTests.{cell_test}
use Rattle.verifier.proofs.kinds.cell_holds.Goals as goal

pub returns : goal.returns
unfolding cell_test
returns c = rw c.is_ruled.ensures
