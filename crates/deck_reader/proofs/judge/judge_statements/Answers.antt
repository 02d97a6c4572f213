-- `deck_reader::judge::judge_statements`: entry after entry. The invariant: the deck is judged as the rest is from the environment.
use mathlib.Core.Path.{◌≡◌, refl, sym, ap, subst, ◌∙◌}
use native.Mathlib.Omega.{arith}
use Rattle.std.specs.Prelude.{Ok, Err}
use Rattle.std.proofs.Common.{rules}
use Rattle.std.proofs.lemmas.Result.{err_from_is_err_and}
use Rattle.validation.specs.RefusalNumbers.{refusal_number, judged_number, refusal_number_some}
use Rattle.deck_reader.specs.DeckLaws.{judging_held, judging_none, judging_more, judging_refused, judging_ends}
use Rattle.deck_reader.specs.EntryLaws.{entered, entry-judged}
use Rattle.deck_reader.specs.Judging.{StatementsJudged}
use Rattle.deck_reader.specs.Verdicts.{Verdict}
use Rattle.deck_reader.proofs.judge.judge_statements.Goals as goal

pub loop-from-init : goal.loop-from-init
loop-from-init c = (judging_none c.requires.symbols_hold, search rules, refl)

pub gather-e-requires : goal.gather-e-requires
gather-e-requires c =
    record { start = c.loop-from-test.true; small = c.args.deck.short; size = c.loop-from.invariant.1 }

pub judge_gathered-judged-requires-clause-entered : goal.judge_gathered-judged-requires-clause-entered
judge_gathered-judged-requires-clause-entered c = entered c.gather-e.ensures (judging_held c.loop-from.invariant.0) c.args.deck.short

pub returns-in_err-map_err : goal.returns-in_err-map_err
returns-in_err-map_err c =
    let e = c.in_err-map_err.field-0.0 in
    let was : c.judge_gathered-judged.result ≡ Err e.refusal = search rules in
    let at : c.loop-from.card ≡ e.card = search rules in
    let number : judged_number c.judge_gathered-judged.result ≡ refusal_number e.refusal = ap judged_number was in
    let p = err_from_is_err_and c.from_residual.result c.from_residual.ensures.1 in
    rw (p.1, p.2)
    (subst (λ (v : Verdict). StatementsJudged c.args.deck.bytes.now v c.judge_gathered-judged.new.symbols) (λ t. record { number = number t; card = at t })
    (judging_refused c.loop-from.invariant.0 (entry-judged c.gather-e.ensures c.judge_gathered-judged.ensures)
    (λ z. refusal_number_some e.refusal (sym number ∙ z)) (omega (arith, c.loop-from-test.true))))

pub overflow_add-card : goal.overflow_add-card
overflow_add-card c =
    let g = c.gather-e.ensures in
    omega (arith, g.paced, g.inside, c.loop-from.invariant.0.few, c.args.deck.short)

pub loop-from-smaller : goal.loop-from-smaller
loop-from-smaller c =
    let g = c.gather-e.ensures in
    omega (arith, g.onward, g.inside, c.loop-from.invariant.0.inside)

pub loop-from-preserved : goal.loop-from-preserved
loop-from-preserved c =
    let was : c.judge_gathered-judged.result ≡ Ok tt = search rules in (
      judging_more c.loop-from.invariant.0 (entry-judged c.gather-e.ensures c.judge_gathered-judged.ensures) (ap judged_number was),
      c.gather-e.ensures.size,
      c.judge_gathered-judged.auto.table ∙ c.loop-from.invariant.2,
    )

pub returns : goal.returns
returns c =
    judging_ends c.loop-from.invariant.0 c.args.deck.short (omega (arith, c.loop-from-test.false)) c.ended.ensures
