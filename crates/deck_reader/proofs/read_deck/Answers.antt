-- `deck_reader::read_deck`: the deck judged, the table zeroed, and written if the deck is accepted.
use mathlib.Core.Path.{refl}
use Rattle.name_checks.specs.HoldLaws.{nothing_held}
use Rattle.deck_reader.specs.Reading.{accepted_whole, refused_read, accepted_read}
use Rattle.std.proofs.lemmas.Result.{err_from_is_err_and}
use Rattle.validation.specs.RefusalNumbers.{refusal_number_some}
use Rattle.deck_reader.proofs.read_deck.Goals as goal

pub judge_deck-requires-clause-symbols_hold : goal.judge_deck-requires-clause-symbols_hold
judge_deck-requires-clause-symbols_hold c = nothing_held _ c.new.ensures refl refl

pub write_table-requires-clause-deck_accepted : goal.write_table-requires-clause-deck_accepted
write_table-requires-clause-deck_accepted c =
    accepted_whole c.args.deck.short (c.in_ok-judge_deck.ensures.accepts refl)

pub returns : goal.returns
returns c =
    accepted_read c.args.deck.short c.in_ok-judge_deck.ensures c.blank.ensures refl c.write_table.ensures c.write.ensures

pub returns-in_err-judge_deck : goal.returns-in_err-judge_deck
returns-in_err-judge_deck c =
    let e = c.in_err-judge_deck in
    let p = err_from_is_err_and c.from_residual.result c.from_residual.ensures.1 in
    rw (p.1, p.2) (refused_read c.args.deck.short e.ensures c.blank.ensures (refusal_number_some e.field-0.0.refusal))
