-- `verifier::kinds::value_low` meets its contract.
use mathlib.Core.Logic.{inl, inr}
use mathlib.Core.Path.{sym, ap}
use Rattle.verifier.specs.Asked.{value_meaning}
use Rattle.verifier.specs.CellTests.{value_low}
use Rattle.verifier.proofs.kinds.value_low.Goals as goal

pub returns-in-NoValue : goal.returns-in-NoValue
unfolding value_low value_meaning
returns-in-NoValue c =
    elim c.in-NoValue.is [ inl e ↦ ap (λ r. value_low (value_meaning r)) (sym e) | inr o ↦ elim o [ inl e ↦ ap (λ r. value_low (value_meaning r)) (sym e) | inr e ↦ ap (λ r. value_low (value_meaning r)) (sym e) ] ]

pub returns-in-Natural : goal.returns-in-Natural
unfolding value_low value_meaning
returns-in-Natural c = ap (λ r. value_low (value_meaning r)) (sym c.in-Natural.is)

pub returns-in-Signed : goal.returns-in-Signed
unfolding value_low value_meaning
returns-in-Signed c = ap (λ r. value_low (value_meaning r)) (sym c.in-Signed.is)
