-- `verifier::steps::numbers_left` meets its contract.
use mathlib.Core.Path.{◌≡◌, refl, sym, ap}
use Rattle.verifier.specs.Asked.{right_meaning}
use Rattle.verifier.specs.Tests.{waiting_left}
use Rattle.verifier.specs.declared.steps.RightRule.{RightRule}
use Rattle.verifier.specs.declared.steps.RightRule.TheVariants.{NoRight, OperandRight, ItemsRight, ElementsRight, PatternRight, ReplacingRight}
use Rattle.verifier.proofs.steps.numbers_left.Goals as goal

other : (r : RightRule) → (r ≡ ItemsRight → ⊥) → 0 ≡ waiting_left (right_meaning r)
unfolding waiting_left right_meaning
other NoRight h1 = refl
other OperandRight h1 = refl
other ItemsRight h1 = absurd (h1 refl)
other ElementsRight h1 = refl
other PatternRight h1 = refl
other ReplacingRight h1 = refl

pub returns-in-ItemsRight : goal.returns-in-ItemsRight
unfolding waiting_left right_meaning
returns-in-ItemsRight c = ap (λ r. waiting_left (right_meaning r)) (sym c.in-ItemsRight.is)

pub returns-in_default : goal.returns-in_default
returns-in_default c = other c.args.rule c.in_default.not-ItemsRight
