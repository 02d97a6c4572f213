-- `verifier::steps::most_more` meets its contract.
use mathlib.Core.Path.{◌≡◌, refl, sym, ap}
use Rattle.verifier.specs.Asked.{right_meaning}
use Rattle.verifier.specs.Tests.{most_more}
use Rattle.verifier.specs.declared.steps.RightRule.{RightRule}
use Rattle.verifier.specs.declared.steps.RightRule.TheVariants.{NoRight, OperandRight, ItemsRight, ElementsRight, PatternRight, ReplacingRight}
use Rattle.verifier.proofs.steps.most_more.Goals as goal

other : (r : RightRule) → (r ≡ ReplacingRight → ⊥) → 0 ≡ most_more (right_meaning r)
unfolding most_more right_meaning
other NoRight h1 = refl
other OperandRight h1 = refl
other ItemsRight h1 = refl
other ElementsRight h1 = refl
other PatternRight h1 = refl
other ReplacingRight h1 = absurd (h1 refl)

pub returns-in-ReplacingRight : goal.returns-in-ReplacingRight
unfolding most_more right_meaning
returns-in-ReplacingRight c = ap (λ r. most_more (right_meaning r)) (sym c.in-ReplacingRight.is)

pub returns-in_default : goal.returns-in_default
returns-in_default c = other c.args.rule c.in_default.not-ReplacingRight
