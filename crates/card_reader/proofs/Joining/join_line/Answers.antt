-- `card_reader::Joining::join_line` joins the next line of the deck.
use Prim.Native.Nat.{◌+◌}
use Rattle.cards.specs.Cards.{lines}
use Rattle.card_reader.proofs.Chains.{joined_none, joined_skipped}
use Rattle.card_reader.specs.LineLaws.{lines-behind}
use Rattle.card_reader.proofs.Parts.{joined_off, joined_on}
use lib.ListN.{drop}
use mathlib.Core.Path.{sym, ◌∙◌}
use Rattle.card_reader.proofs.Joining.join_line.Goals as goal

pub returns-then-deck-self : goal.returns-then-deck-self
returns-then-deck-self c =
    let a = c.args in
    joined_off a.deck.now a.text.now a.self c.requires
    (λ p h. joined_none p p.rest (lines-behind a.deck.now a.self.next c.if-deck-self.true ∙ h.rest))
    c.broken_off.result c.broken_off.ensures

pub returns-then-is_skipped : goal.returns-then-is_skipped
returns-then-is_skipped c =
    let a = c.args in
    let deck = a.deck.now in
    let end = c.line_end-end in
    joined_off deck a.text.now a.self c.requires
    (λ p h.
    joined_skipped p _ (lines (drop (end.result + 1) deck)) p.rest (sym end.ensures.first ∙ h.rest)
    (sym c.is_skipped.ensures ∙ c.if-is_skipped.true))
    c.broken_off-then-is_skipped.result c.broken_off-then-is_skipped.ensures

pub returns : goal.returns
returns c =
    let end = c.line_end-end in
    let a = c.args in
    joined_on a.deck.now a.text.now a.self c.requires end.result end.ensures
    c.add_line.new.text c.add_line.result c.add_line.ensures (sym c.is_skipped.ensures ∙ c.if-is_skipped.false)
