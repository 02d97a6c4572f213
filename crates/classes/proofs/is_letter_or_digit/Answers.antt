-- `classes::is_letter_or_digit` answers whether the byte is a letter or a digit.
use mathlib.Core.Bool.{◌||◌}
use mathlib.Core.Path.{ap, ◌∙◌}
use Prim.Native.Nat.{ℕ}
use lib.Dec.{eqb}
use Rattle.cards.specs.Bytes.{letter, digit}
use Rattle.classes.specs.Laws.{name_class}
use Rattle.classes.specs.Numbers.{class_number}
use borrow.Author.Rules.{rules}
use Rattle.classes.proofs.is_letter_or_digit.Goals as goal

pub returns : goal.returns
unfolding class_number
returns c =
    ap (λ (n : ℕ). eqb n (class_number letter) || eqb n (class_number digit)) c.class_of-class.ensures
    ∙ name_class c.args.b (search rules)
