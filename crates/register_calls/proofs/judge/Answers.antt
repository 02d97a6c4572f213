-- `register_calls::judge` meets its contract: form, contract held, all places taken.
use Rattle.std.proofs.Common.{◌∙◌, ok_or, sym, ap, subst, arith, length-take-le, nat_eq}
use Rattle.std.specs.List.{list_any}
use Rattle.std.proofs.lemmas.Result.{err_from_is_err_and}
use Rattle.register.specs.declared.Refusal.TheVariants.{BadLine}
use Rattle.register_lines.specs.FieldLaws.{count_some}
use Rattle.register_reading.specs.KeyLaws.{among-any}
use Rattle.register_calls.specs.Putting.{OfferJudged}
use Rattle.register_calls.specs.PutLaws.{bad_judged, form_known, full_judged, held_judged, none_known, taken_judged}
use Rattle.register_calls.proofs.judge.Goals as goal

pub returns-in_err-form : goal.returns-in_err-form
returns-in_err-form c =
    let a = c.args in
    let p = err_from_is_err_and c.from_residual.result c.from_residual.ensures.1 in
    let e = c.in_err-form.ensures in
    rw (p.1, p.2)
    (subst (OfferJudged a.line.now a.held.now.items) (sym (e.value ∙ ap (λ f. ok_or f BadLine) e.ok_part))
    (bad_judged a.line.now a.held.now.items (none_known a.line.now c.form_of.result c.form_of.ensures e.ok_part)))

pub slice_bounds-key_of-end : goal.slice_bounds-key_of-end
slice_bounds-key_of-end c =
    let line = c.args.line.now in
    let form = c.in_ok-form.form in
    let inside = (form_known line c.form_of.result form c.form_of.ensures c.in_ok-form.ensures.ok_part).1.inside in
    sym (length-take-le form.contract line (omega arith))

pub returns-then-contains : goal.returns-then-contains
returns-then-contains c =
    let a = c.args in
    let form = c.in_ok-form.form in
    let found = form_known a.line.now c.form_of.result form c.form_of.ensures c.in_ok-form.ensures.ok_part in
    let key = c.key_of-key in
    held_judged a.line.now a.held.now.items form.contract key.result found.1 key.ensures (count_some a.line.now form.fields found.0)
    (sym (among-any key.result a.held.now.items) ∙ ap (list_any (λ k. nat_eq k key.result)) (sym c.as_slice.ensures.value) ∙ sym c.contains.ensures.value ∙ c.if-contains.true)

pub returns-then-is_full : goal.returns-then-is_full
returns-then-is_full c =
    let a = c.args in
    let form = c.in_ok-form.form in
    let found = form_known a.line.now c.form_of.result form c.form_of.ensures c.in_ok-form.ensures.ok_part in
    let key = c.key_of-key in
    full_judged a.line.now a.held.now.items form.contract key.result found.1 key.ensures (count_some a.line.now form.fields found.0)
    (sym (among-any key.result a.held.now.items) ∙ ap (list_any (λ k. nat_eq k key.result)) (sym c.as_slice.ensures.value) ∙ sym c.contains.ensures.value ∙ c.if-contains.false) (sym c.is_full.ensures.value ∙ c.if-is_full.true)

pub returns : goal.returns
returns c =
    let a = c.args in
    let form = c.in_ok-form.form in
    let found = form_known a.line.now c.form_of.result form c.form_of.ensures c.in_ok-form.ensures.ok_part in
    let key = c.key_of-key in
    taken_judged a.line.now a.held.now.items form.contract key.result found.1 key.ensures (count_some a.line.now form.fields found.0)
    (sym (among-any key.result a.held.now.items) ∙ ap (list_any (λ k. nat_eq k key.result)) (sym c.as_slice.ensures.value) ∙ sym c.contains.ensures.value ∙ c.if-contains.false) form found.0 (sym c.is_full.ensures.value ∙ c.if-is_full.false)
