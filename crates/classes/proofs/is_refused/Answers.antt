-- `classes::is_refused` answers whether the byte is refused.
use mathlib.Core.Path.{ap, ◌∙◌}
use Prim.Native.Nat.{ℕ}
use lib.Dec.{eqb}
use Rattle.cards.specs.Bytes.{refused_byte}
use Rattle.classes.specs.Laws.{refused_class}
use Rattle.classes.specs.Numbers.{class_number}
use borrow.Author.Rules.{rules}
use Rattle.classes.proofs.is_refused.Goals as goal

pub returns : goal.returns
unfolding class_number
returns c = ap (λ (n : ℕ). eqb n (class_number refused_byte)) c.class_of.ensures ∙ refused_class c.args.b (search rules)
