-- `verifier::steps::stretches_of` meets its contract.
use borrow.Author.Rules.{rules}
use mathlib.Core.Logic.{inl, inr}
use mathlib.Core.Path.{◌≡◌, refl, sym, ap}
use Prim.Native.Nat.{ℕ}
use Rattle.encoding.specs.TableReading.{range_count, range_more}
use Rattle.verifier.specs.Asked.{right_meaning}
use Rattle.verifier.specs.Tests.{stretches, stretches_of}
use Rattle.verifier.specs.declared.steps.RightRule.{RightRule}
use Rattle.verifier.specs.declared.steps.RightRule.TheVariants.{NoRight, OperandRight, ItemsRight, ElementsRight, PatternRight, ReplacingRight}
use Rattle.verifier.proofs.steps.stretches_of.Goals as goal

other : (v : ℕ) (r : RightRule) → (r ≡ NoRight → ⊥) → (r ≡ OperandRight → ⊥) → (r ≡ ItemsRight → ⊥) → stretches (range_count v) (range_more v) 0 ≡ stretches_of (right_meaning r) v
unfolding stretches_of right_meaning
other v NoRight h1 h2 h3 = absurd (h1 refl)
other v OperandRight h1 h2 h3 = absurd (h2 refl)
other v ItemsRight h1 h2 h3 = absurd (h3 refl)
other v ElementsRight h1 h2 h3 = refl
other v PatternRight h1 h2 h3 = refl
other v ReplacingRight h1 h2 h3 = refl

pub returns-in-NoRight : goal.returns-in-NoRight
unfolding stretches stretches_of right_meaning
returns-in-NoRight c = (
  elim c.in-NoRight.is
      [ inl e ↦ ap (λ r. stretches_of (right_meaning r) c.args.range) (sym e) | inr e ↦ ap (λ r. stretches_of (right_meaning r) c.args.range) (sym e) ],
  search rules,
)

pub returns-in-ItemsRight : goal.returns-in-ItemsRight
unfolding stretches stretches_of right_meaning range_count range_more
returns-in-ItemsRight c = (ap (λ r. stretches_of (right_meaning r) c.args.range) (sym c.in-ItemsRight.is), search rules)

pub returns-in_default : goal.returns-in_default
unfolding stretches range_count range_more
returns-in_default c = (other c.args.range c.args.rule c.in_default.not-NoRight c.in_default.not-OperandRight c.in_default.not-ItemsRight, search rules)
