-- `verifier::steps::branch_holds` meets its contract.
use mathlib.Core.Path.{sym, ap}
use Rattle.verifier.specs.Asked.{steps_meaning}
use Rattle.verifier.specs.Tests.{steps_test}
use Rattle.verifier.proofs.steps.branch_holds.Goals as goal

pub returns-in-NoStep : goal.returns-in-NoStep
unfolding steps_test steps_meaning
returns-in-NoStep c = ap (λ r. steps_test c.args.steps (steps_meaning r) c.args.b.success c.args.b.failure) (sym c.in-NoStep.is)

pub returns-in-OneStep : goal.returns-in-OneStep
unfolding steps_test steps_meaning
returns-in-OneStep c = ap (λ r. steps_test c.args.steps (steps_meaning r) c.args.b.success c.args.b.failure) (sym c.in-OneStep.is)

pub returns-in-BothSteps : goal.returns-in-BothSteps
unfolding steps_test steps_meaning
returns-in-BothSteps c = ap (λ r. steps_test c.args.steps (steps_meaning r) c.args.b.success c.args.b.failure) (sym c.in-BothSteps.is)
