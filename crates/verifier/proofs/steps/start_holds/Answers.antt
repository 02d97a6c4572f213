-- `verifier::steps::start_holds` meets its contract.
use mathlib.Core.Logic.{inl, inr}
use mathlib.Core.Path.{◌≡◌, refl, sym, ap}
use Prim.Native.Nat.{ℕ}
use lib.Dec.{eqb}
use Rattle.encoding.specs.TableReading.{range_from}
use Rattle.verifier.specs.Asked.{right_meaning}
use Rattle.verifier.specs.Tests.{start_test}
use Rattle.verifier.specs.declared.steps.Places.{Places}
use Rattle.verifier.specs.declared.steps.RightRule.{RightRule}
use Rattle.verifier.specs.declared.steps.RightRule.TheVariants.{NoRight, OperandRight, ItemsRight, ElementsRight, PatternRight, ReplacingRight}
use Rattle.verifier.proofs.steps.start_holds.Goals as goal

other : (p : Places) (v : ℕ) (r : RightRule) → (r ≡ NoRight → ⊥) → (r ≡ OperandRight → ⊥) → (r ≡ ItemsRight → ⊥) → eqb (range_from v) p.elements ≡ start_test p (right_meaning r) v
unfolding start_test right_meaning
other p v NoRight h1 h2 h3 = absurd (h1 refl)
other p v OperandRight h1 h2 h3 = absurd (h2 refl)
other p v ItemsRight h1 h2 h3 = absurd (h3 refl)
other p v ElementsRight h1 h2 h3 = refl
other p v PatternRight h1 h2 h3 = refl
other p v ReplacingRight h1 h2 h3 = refl

pub returns-in-NoRight : goal.returns-in-NoRight
unfolding start_test right_meaning
returns-in-NoRight c =
    elim c.in-NoRight.is [
      | inl e ↦ ap (λ r. start_test c.args.p (right_meaning r) c.args.range) (sym e)
      | inr e ↦ ap (λ r. start_test c.args.p (right_meaning r) c.args.range) (sym e)
    ]

pub returns-in-ItemsRight : goal.returns-in-ItemsRight
unfolding start_test right_meaning range_from
returns-in-ItemsRight c = ap (λ r. start_test c.args.p (right_meaning r) c.args.range) (sym c.in-ItemsRight.is)

pub returns-in_default : goal.returns-in_default
unfolding range_from
returns-in_default c = other c.args.p c.args.range c.args.rule c.in_default.not-NoRight c.in_default.not-OperandRight c.in_default.not-ItemsRight
