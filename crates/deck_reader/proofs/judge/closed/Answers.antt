-- `deck_reader::judge::closed`: 11, 12 or none.
use mathlib.Core.Path.{sym, ◌∙◌}
use Rattle.deck_reader.proofs.judge.closed.Goals as goal

pub returns-then-undefined_or_crossing : goal.returns-then-undefined_or_crossing
returns-then-undefined_or_crossing c =
    rw (c.of_deck.ensures, sym c.undefined_or_crossing.ensures ∙ c.if-undefined_or_crossing.true)

pub returns-then-executes_itself : goal.returns-then-executes_itself
returns-then-executes_itself c =
    let not11 = sym c.undefined_or_crossing.ensures ∙ c.if-undefined_or_crossing.false in
    rw (c.of_deck-then-executes_itself.ensures, not11, sym (c.executes_itself.ensures not11) ∙ c.if-executes_itself.true)

pub returns : goal.returns
returns c =
    let not11 = sym c.undefined_or_crossing.ensures ∙ c.if-undefined_or_crossing.false in
    rw (not11, sym (c.executes_itself.ensures not11) ∙ c.if-executes_itself.false)
