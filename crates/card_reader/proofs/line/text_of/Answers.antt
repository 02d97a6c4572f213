-- `card_reader::line::text_of` answers columns 10 to 72.
use Prim.Native.Nat.{ℕ}
use Rattle.base.specs.Current.{current}
use Rattle.cards.specs.Cards.{statement_text}
use lib.ListN.{drop}
use mathlib.Core.List.{List}
use mathlib.Core.Path.{ap, ◌∙◌}
use Rattle.card_reader.proofs.line.text_of.Goals as goal

pub returns : goal.returns
unfolding statement_text current
returns c = c.behind.ensures ∙ ap (λ (l : List ℕ). drop 9 l) c.front.ensures
