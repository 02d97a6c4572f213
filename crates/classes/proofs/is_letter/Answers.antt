-- `classes::is_letter` answers whether the byte is a letter.
use mathlib.Core.Path.{ap, ◌∙◌}
use Prim.Native.Nat.{ℕ}
use lib.Dec.{eqb}
use Rattle.cards.specs.Bytes.{letter}
use Rattle.classes.specs.Laws.{letter_class}
use Rattle.classes.specs.Numbers.{class_number}
use borrow.Author.Rules.{rules}
use Rattle.classes.proofs.is_letter.Goals as goal

pub returns : goal.returns
unfolding class_number
returns c = ap (λ (n : ℕ). eqb n (class_number letter)) c.class_of.ensures ∙ letter_class c.args.b (search rules)
