-- `card_reader::packed::Place::after` answers the place behind a byte.
use Rattle.cards.specs.Packing.{place_after}
use Rattle.card_reader.proofs.Packing.{behind_quote, behind_other, after-quote, after-other, after_doubled}
use Rattle.card_reader.specs.Places.{place_meaning}
use mathlib.Core.Path.{ap, sym, ◌∙◌}
use Rattle.card_reader.proofs.packed.Place.after.Goals as goal

pub returns-then-b-eq34 : goal.returns-then-b-eq34
returns-then-b-eq34 c =
    let a = c.args in
    ap (λ p. behind_quote (place_meaning p)) (sym c.in-Outside.is) ∙ after-quote (place_meaning a.self) a.b c.if-b-eq34.true

pub returns-else-b-eq34 : goal.returns-else-b-eq34
returns-else-b-eq34 c =
    let a = c.args in
    ap (λ p. behind_other (place_meaning p)) (sym c.in-Outside.is) ∙ after-other (place_meaning a.self) a.b c.if-b-eq34.false

pub returns-then-b-eq34-2 : goal.returns-then-b-eq34-2
returns-then-b-eq34-2 c =
    let a = c.args in
    ap (λ p. behind_quote (place_meaning p)) (sym c.in-Opened.is) ∙ after-quote (place_meaning a.self) a.b c.if-b-eq34-2.true

pub returns-else-b-eq34-2 : goal.returns-else-b-eq34-2
returns-else-b-eq34-2 c =
    let a = c.args in
    ap (λ p. behind_other (place_meaning p)) (sym c.in-Opened.is) ∙ after-other (place_meaning a.self) a.b c.if-b-eq34-2.false

pub returns-in-Doubled : goal.returns-in-Doubled
returns-in-Doubled c =
    let a = c.args in
    after_doubled a.b ∙ ap (λ p. place_after (place_meaning p) a.b) (sym c.in-Doubled.is)

pub returns-then-b-eq34-3 : goal.returns-then-b-eq34-3
returns-then-b-eq34-3 c =
    let a = c.args in
    ap (λ p. behind_quote (place_meaning p)) (sym c.in-Inside.is) ∙ after-quote (place_meaning a.self) a.b c.if-b-eq34-3.true

pub returns-else-b-eq34-3 : goal.returns-else-b-eq34-3
returns-else-b-eq34-3 c =
    let a = c.args in
    ap (λ p. behind_other (place_meaning p)) (sym c.in-Inside.is) ∙ after-other (place_meaning a.self) a.b c.if-b-eq34-3.false
