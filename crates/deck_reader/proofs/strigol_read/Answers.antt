-- `deck_reader::strigol_read`: 1 and 2, or the reading.
use mathlib.Core.Path.{refl}
use Rattle.deck_reader.specs.Reading.{long_deck, small_table, read-with}
use Rattle.deck_reader.proofs.strigol_read.Goals as goal

pub returns-then-deck-gt-DECK : goal.returns-then-deck-gt-DECK
returns-then-deck-gt-DECK c =
    let a = c.args in long_deck a.deck.now a.table.now c.if-deck-gt-DECK.true

pub returns-then-table-lt-TABLE_SIZE : goal.returns-then-table-lt-TABLE_SIZE
returns-then-table-lt-TABLE_SIZE c =
    let a = c.args in small_table a.deck.now a.table.now c.if-deck-gt-DECK.false c.if-table-lt-TABLE_SIZE.true

pub returns-in-Ok : goal.returns-in-Ok
returns-in-Ok c =
    let a = c.args in read-with a.deck.now a.table.now c.if-deck-gt-DECK.false c.if-table-lt-TABLE_SIZE.false c.in-Ok.ensures refl

pub returns-in-Err : goal.returns-in-Err
returns-in-Err c =
    let a = c.args in
    rw c.number.ensures
    (read-with a.deck.now a.table.now c.if-deck-gt-DECK.false c.if-table-lt-TABLE_SIZE.false c.in-Err.ensures refl)
