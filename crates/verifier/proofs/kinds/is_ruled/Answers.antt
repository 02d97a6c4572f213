-- `verifier::kinds::is_ruled` meets its contract.
use mathlib.Core.Path.{◌∙◌, ap}
use Rattle.encoding.specs.Meaning.{cell_meaning}
use Rattle.verifier.specs.CellTests.{asked_test}
use Rattle.verifier.proofs.kinds.is_ruled.Goals as goal

pub returns-in-Some : goal.returns-in-Some
unfolding asked_test
returns-in-Some c = c.fits.ensures ∙ ap (λ o. asked_test c.args.n.strings c.args.n.numbers o (cell_meaning c.args.c)) c.in-Some.ensures

pub returns-in-None : goal.returns-in-None
unfolding asked_test
returns-in-None c = ap (λ o. asked_test c.args.n.strings c.args.n.numbers o (cell_meaning c.args.c)) c.in-None.ensures
