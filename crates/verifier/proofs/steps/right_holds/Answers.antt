-- `verifier::steps::right_holds` meets its contract.
use mathlib.Core.Path.{◌≡◌, refl, sym, ◌∙◌, ap}
use Rattle.encoding.specs.Meaning.{cell_meaning}
use Rattle.encoding.specs.declared.cells.Counts.{Counts}
use Rattle.encoding.specs.Table.{Cell}
use Rattle.verifier.specs.Asked.{right_meaning}
use Rattle.verifier.specs.CellTests.{cell_test}
use Rattle.verifier.specs.Tests.{right_test}
use Rattle.verifier.specs.declared.steps.RightRule.{RightRule}
use Rattle.verifier.specs.declared.steps.RightRule.TheVariants.{NoRight, OperandRight, ItemsRight, ElementsRight, PatternRight, ReplacingRight}
use Rattle.verifier.proofs.steps.right_holds.Goals as goal

other : (n : Counts) (c : Cell) (r : RightRule) → (r ≡ NoRight → ⊥) → (r ≡ OperandRight → ⊥) → cell_test n.strings n.numbers 112 112 c ≡ right_test n (right_meaning r) c
unfolding right_test right_meaning
other n c NoRight h1 h2 = absurd (h1 refl)
other n c OperandRight h1 h2 = absurd (h2 refl)
other n c ItemsRight h1 h2 = refl
other n c ElementsRight h1 h2 = refl
other n c PatternRight h1 h2 = refl
other n c ReplacingRight h1 h2 = refl

pub returns-in-NoRight : goal.returns-in-NoRight
unfolding right_test right_meaning
returns-in-NoRight c = c.cell_holds.ensures ∙ ap (λ r. right_test c.args.n (right_meaning r) (cell_meaning c.args.right)) (sym c.in-NoRight.is)

pub returns-in-OperandRight : goal.returns-in-OperandRight
unfolding right_test right_meaning
returns-in-OperandRight c = c.cell_holds-in-OperandRight.ensures ∙ ap (λ r. right_test c.args.n (right_meaning r) (cell_meaning c.args.right)) (sym c.in-OperandRight.is)

pub returns-in_default : goal.returns-in_default
returns-in_default c =
    c.cell_holds-in_default.ensures ∙ other c.args.n (cell_meaning c.args.right) c.args.rule c.in_default.not-NoRight c.in_default.not-OperandRight
