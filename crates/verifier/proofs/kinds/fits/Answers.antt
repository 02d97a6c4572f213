-- `verifier::kinds::fits` meets its contract.
use Rattle.verifier.specs.Asked.{cell_rule_asks}
use Rattle.verifier.specs.CellTests.{fit_test}
use Rattle.verifier.proofs.kinds.fits.Goals as goal

pub returns : goal.returns
unfolding fit_test cell_rule_asks
returns c = rw (c.place_bound.ensures, c.value_low.ensures, c.value_bound.ensures)
