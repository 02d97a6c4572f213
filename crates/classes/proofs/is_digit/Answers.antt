-- `classes::is_digit` answers whether the byte is a digit.
use mathlib.Core.Path.{ap, ◌∙◌}
use Prim.Native.Nat.{ℕ}
use lib.Dec.{eqb}
use Rattle.cards.specs.Bytes.{digit}
use Rattle.classes.specs.Laws.{digit_class}
use Rattle.classes.specs.Numbers.{class_number}
use borrow.Author.Rules.{rules}
use Rattle.classes.proofs.is_digit.Goals as goal

pub returns : goal.returns
unfolding class_number
returns c = ap (λ (n : ℕ). eqb n (class_number digit)) c.class_of.ensures ∙ digit_class c.args.b (search rules)
