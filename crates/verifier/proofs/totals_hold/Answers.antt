-- `verifier::totals_hold` meets its contract.
use mathlib.Core.Path.{ap, sym}
use Rattle.verifier.specs.Tests.{totals_test}
use Rattle.verifier.proofs.totals_hold.Goals as goal

pub returns-in-Some : goal.returns-in-Some
unfolding totals_test
returns-in-Some c = ap (totals_test c.args.n) (sym c.in-Some.is)

pub returns-in-None : goal.returns-in-None
unfolding totals_test
returns-in-None c = ap (totals_test c.args.n) (sym c.in-None.is)
