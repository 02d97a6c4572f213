-- `card_reader::Joining::join_lines` joins lines as long as one joins the next. The invariant: the lines joined make up the same entries.
use Rattle.card_reader.proofs.Parts.{Chain, left}
use Rattle.card_reader.proofs.Joining.join_lines.Given as goal

abbrev pub invariant-loop-s : goal.invariant-loop-s
invariant-loop-s l = Chain l.deck l.initial.text l.initial.s l.text l.s

abbrev pub decreases-loop-s : goal.decreases-loop-s
decreases-loop-s l = left l.deck l.s
