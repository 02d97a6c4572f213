-- `deck_reader::judge::judge_packed`: 4, then 5 or the number of the form.
use mathlib.Core.Path.{◌≡◌, refl, ap, ◌∙◌}
use native.Mathlib.Omega.{arith}
use Rattle.std.specs.Option.{ok_or}
use Rattle.std.proofs.lemmas.Result.{err_from_is_err_and}
use Rattle.validation.specs.RefusalNumbers.{judged_number, refusal_number}
use Rattle.validation.specs.declared.Refusal.TheVariants.{BadForm}
use Rattle.deck_reader.specs.JudgeLaws.{broken_case, formed_case, starts, formed_judgeable}
use Rattle.deck_reader.specs.JudgeLaws.{numbered_by, misplaced_numbered, broken_numbered, formed_numbered}
use Rattle.deck_reader.proofs.judge.judge_packed.Goals as goal

pub returns-then-is_misplaced : goal.returns-then-is_misplaced
returns-then-is_misplaced c label w =
    let a = c.args in
    numbered_by (ap (λ l. l.kind) c.leading-kind.ensures)
    (misplaced_numbered label a.packed.whole a.text.now a.symbols.now c.is_misplaced.ensures c.if-is_misplaced.true)

pub read_statement-form-requires : goal.read_statement-form-requires
read_statement-form-requires c =
    let q = c.requires.readied in record {
      starts = starts q.holds q.small (omega (arith, q.room)) c.start-c.ensures;
      names_value = ap (λ d. d.names) c.start-c.ensures;
      table_size_in_bounds = c.requires.table_size_in_bounds;
    }

pub returns-in_err-d : goal.returns-in_err-d
returns-in_err-d c =
    let a = c.args in
    let e = c.in_err-d.ensures in
    let p = err_from_is_err_and c.from_residual.result c.from_residual.ensures.1 in
    let five : judged_number c.from_residual.result ≡ 5 =
    ap judged_number p.1 ∙ ap refusal_number p.2 ∙ ap judged_number (e.value ∙ ap (λ f. ok_or f BadForm) e.ok_part) in
    rw five
    (λ label w.
    numbered_by (ap (λ l. l.kind) c.leading-kind.ensures)
    (broken_numbered label a.packed.whole a.text.now a.symbols.now c.is_misplaced.ensures c.if-is_misplaced.false
    (broken_case (c.read_statement-form.ensures label (w refl)) e.ok_part)))

pub judge_statement-requires : goal.judge_statement-requires
judge_statement-requires c =
    let q = c.requires.readied in
    formed_judgeable q (formed_case (rw c.start-c.ensures at (c.read_statement-form.ensures q.label q.keyed)) c.in_ok-d.ensures.ok_part).formed

pub returns : goal.returns
returns c label w =
    let a = c.args in
    numbered_by (ap (λ l. l.kind) c.leading-kind.ensures)
    (formed_numbered label a.packed.whole a.text.now a.symbols.now c.is_misplaced.ensures c.if-is_misplaced.false
    (formed_case (rw c.start-c.ensures at (c.read_statement-form.ensures label (w refl))) c.in_ok-d.ensures.ok_part).formed c.judge_statement.ensures)
