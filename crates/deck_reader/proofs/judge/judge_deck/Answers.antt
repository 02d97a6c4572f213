-- `deck_reader::judge::judge_deck`: the statements, then 11 and 12.
use mathlib.Core.Path.{refl}
use Rattle.std.proofs.lemmas.Result.{err_from_is_err_and}
use Rattle.validation.specs.RefusalNumbers.{refusal_number_some}
use Rattle.deck_reader.specs.DeckLaws.{deck_refused, deck_closed, passed_closable}
use Rattle.deck_reader.proofs.judge.judge_deck.Goals as goal

pub returns-in_err-judge_statements : goal.returns-in_err-judge_statements
returns-in_err-judge_statements c =
    let e = c.in_err-judge_statements in
    let p = err_from_is_err_and c.from_residual.result c.from_residual.ensures.1 in
    rw (p.1, p.2) (deck_refused e.ensures (refusal_number_some e.field-0.0.refusal))

pub closed-requires : goal.closed-requires
closed-requires c = passed_closable (c.in_ok-judge_statements.ensures.passes refl)

pub returns : goal.returns
returns c = deck_closed (c.in_ok-judge_statements.ensures.passes refl) c.closed.ensures
