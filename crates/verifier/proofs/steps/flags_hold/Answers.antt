-- `verifier::steps::flags_hold` meets its contract.
use mathlib.Core.Path.{sym, ap}
use Rattle.verifier.specs.Asked.{flag_meaning}
use Rattle.verifier.specs.Tests.{flag_test}
use Rattle.verifier.proofs.steps.flags_hold.Goals as goal

pub returns-in-NoFlag : goal.returns-in-NoFlag
unfolding flag_test flag_meaning
returns-in-NoFlag c = ap (λ r. flag_test (flag_meaning r) c.args.flag) (sym c.in-NoFlag.is)

pub returns-in-OfComparison : goal.returns-in-OfComparison
unfolding flag_test flag_meaning
returns-in-OfComparison c = ap (λ r. flag_test (flag_meaning r) c.args.flag) (sym c.in-OfComparison.is)

pub returns-in-OfDirection : goal.returns-in-OfDirection
unfolding flag_test flag_meaning
returns-in-OfDirection c = ap (λ r. flag_test (flag_meaning r) c.args.flag) (sym c.in-OfDirection.is)
