-- `verifier::steps::left_holds` meets its contract.
use mathlib.Core.Path.{sym, ◌∙◌, ap}
use Rattle.encoding.specs.Meaning.{cell_meaning}
use Rattle.verifier.specs.Asked.{left_meaning}
use Rattle.verifier.specs.Tests.{left_test}
use Rattle.verifier.proofs.steps.left_holds.Goals as goal

pub returns-in-NoLeft : goal.returns-in-NoLeft
unfolding left_test left_meaning
returns-in-NoLeft c = c.cell_holds.ensures ∙ ap (λ r. left_test c.args.n (left_meaning r) (cell_meaning c.args.left)) (sym c.in-NoLeft.is)

pub returns-in-NumberLeft : goal.returns-in-NumberLeft
unfolding left_test left_meaning
returns-in-NumberLeft c = c.cell_holds-in-NumberLeft.ensures ∙ ap (λ r. left_test c.args.n (left_meaning r) (cell_meaning c.args.left)) (sym c.in-NumberLeft.is)

pub returns-in-StringLeft : goal.returns-in-StringLeft
unfolding left_test left_meaning
returns-in-StringLeft c = c.cell_holds-in-StringLeft.ensures ∙ ap (λ r. left_test c.args.n (left_meaning r) (cell_meaning c.args.left)) (sym c.in-StringLeft.is)

pub returns-in-PartLeft : goal.returns-in-PartLeft
unfolding left_test left_meaning
returns-in-PartLeft c = c.cell_holds-in-PartLeft.ensures ∙ ap (λ r. left_test c.args.n (left_meaning r) (cell_meaning c.args.left)) (sym c.in-PartLeft.is)

pub returns-in-OperandLeft : goal.returns-in-OperandLeft
unfolding left_test left_meaning
returns-in-OperandLeft c = c.cell_holds-in-OperandLeft.ensures ∙ ap (λ r. left_test c.args.n (left_meaning r) (cell_meaning c.args.left)) (sym c.in-OperandLeft.is)
