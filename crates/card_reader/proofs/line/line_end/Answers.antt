-- `card_reader::line::line_end` answers where the line ends: where byte 10 stands next.
use Rattle.card_reader.proofs.Lines.{line_ends}
use native.Mathlib.Omega.{arith}
use Rattle.card_reader.proofs.line.line_end.Goals as goal

pub returns-then-deck-from-eq10 : goal.returns-then-deck-from-eq10
returns-then-deck-from-eq10 c =
    let a = c.args in
    line_ends a.deck.now a.from a.from c.requires
    (record { low = omega arith; high = omega arith; none = λ j low below. omega arith; here = λ _. c.if-deck-from-eq10.true })

pub returns : goal.returns
returns c =
    let a = c.args in
    line_ends a.deck.now a.from c.next_byte.result c.requires c.next_byte.ensures
