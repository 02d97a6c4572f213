-- `verifier::steps::has_pattern` meets its contract.
use mathlib.Core.Bool.{false}
use mathlib.Core.Logic.{inl, inr}
use mathlib.Core.Path.{◌≡◌, refl, sym, ap}
use Rattle.verifier.specs.Asked.{right_meaning}
use Rattle.verifier.specs.Tests.{is_pattern}
use Rattle.verifier.specs.declared.steps.RightRule.{RightRule}
use Rattle.verifier.specs.declared.steps.RightRule.TheVariants.{NoRight, OperandRight, ItemsRight, ElementsRight, PatternRight, ReplacingRight}
use Rattle.verifier.proofs.steps.has_pattern.Goals as goal

other : (r : RightRule) → (r ≡ PatternRight → ⊥) → (r ≡ ReplacingRight → ⊥) → false ≡ is_pattern (right_meaning r)
unfolding is_pattern right_meaning
other NoRight h1 h2 = refl
other OperandRight h1 h2 = refl
other ItemsRight h1 h2 = refl
other ElementsRight h1 h2 = refl
other PatternRight h1 h2 = absurd (h1 refl)
other ReplacingRight h1 h2 = absurd (h2 refl)

pub returns-in-PatternRight : goal.returns-in-PatternRight
unfolding is_pattern right_meaning
returns-in-PatternRight c =
    elim c.in-PatternRight.is [ inl e ↦ ap (λ r. is_pattern (right_meaning r)) (sym e) | inr e ↦ ap (λ r. is_pattern (right_meaning r)) (sym e) ]

pub returns-in_default : goal.returns-in_default
returns-in_default c = other c.args.rule c.in_default.not-PatternRight c.in_default.not-ReplacingRight
