-- `card_reader::line::column9` answers the byte in column 9.
use Prim.Native.Nat.{ℕ}
use Rattle.base.specs.Current.{current}
use Rattle.cards.specs.Cards.{column9}
use Rattle.std.specs.Option.{unwrap_or}
use lib.ListN.{get_or}
use mathlib.Core.List.{List}
use mathlib.Core.Path.{ap, ◌∙◌}
use native.Mathlib.Omega.{arith}
use Rattle.card_reader.proofs.line.column9.Goals as goal

pub returns : goal.returns
unfolding column9 current
returns c =
    c.unwrap_or.ensures
    ∙ ap (λ o. unwrap_or o 32) c.copied.ensures
    ∙ c.get.ensures.lookup.4 (omega arith) 32
    ∙ ap (λ (l : List ℕ). get_or l 8 32) c.front.ensures
