-- `verifier::kinds::value_bound` meets its contract.
use mathlib.Core.Logic.{inl, inr}
use mathlib.Core.Path.{sym, ap}
use Rattle.verifier.specs.Asked.{value_meaning}
use Rattle.verifier.specs.CellTests.{value_bound}
use Rattle.verifier.proofs.kinds.value_bound.Goals as goal

pub returns-in-NoValue : goal.returns-in-NoValue
unfolding value_bound value_meaning
returns-in-NoValue c = ap (λ r. value_bound c.args.n.strings c.args.n.numbers (value_meaning r)) (sym c.in-NoValue.is)

pub returns-in-Natural : goal.returns-in-Natural
unfolding value_bound value_meaning
returns-in-Natural c = elim c.in-Natural.is [ inl e ↦ ap (λ r. value_bound c.args.n.strings c.args.n.numbers (value_meaning r)) (sym e) | inr e ↦ ap (λ r. value_bound c.args.n.strings c.args.n.numbers (value_meaning r)) (sym e) ]

pub returns-in-Placed : goal.returns-in-Placed
unfolding value_bound value_meaning
returns-in-Placed c = ap (λ r. value_bound c.args.n.strings c.args.n.numbers (value_meaning r)) (sym c.in-Placed.is)

pub returns-in-Spelt : goal.returns-in-Spelt
unfolding value_bound value_meaning
returns-in-Spelt c = ap (λ r. value_bound c.args.n.strings c.args.n.numbers (value_meaning r)) (sym c.in-Spelt.is)
