-- `register_reading::slot_key` meets its contract: what stands before the zeros is a line, or the slot breaks its rule.
use Rattle.std.proofs.Common.{sym, ap, Some, ◌∙◌, arith, length-take-le}
use borrow.Author.Tests.{not-false, not-true}
use Rattle.register_lines.specs.Fields.{FormFound}
use Rattle.register_reading.specs.SlotLaws.{form_none, form_told, slot_formless, slot-keyed}
use Rattle.register_reading.proofs.slot_key.Goals as goal

pub returns-in_err-form : goal.returns-in_err-form
unfolding FormFound
returns-in_err-form c =
    let a = c.args in
    let n = c.line_length in
    c.from_residual.ensures ∙ slot_formless a.fields a.slot.now n.result n.ensures (form_none a.fields _ c.in_err-form.ensures)

pub returns-then-ne : goal.returns-then-ne
unfolding FormFound
returns-then-ne c =
    let a = c.args in
    let n = c.line_length in
    let f = c.in_ok-form in
    slot_formless a.fields a.slot.now n.result n.ensures
    (form_told a.fields _ f.form.fields f.ensures.0 ∙ not-true _ (sym c.ne.ensures ∙ c.if-ne.true))

pub slice_bounds-key_of-end : goal.slice_bounds-key_of-end
unfolding FormFound
slice_bounds-key_of-end c =
    let f = c.in_ok-form in
    let inside = f.ensures.1.inside in
    sym (length-take-le f.form.contract _ (omega arith))

pub returns : goal.returns
unfolding FormFound
returns c =
    let a = c.args in
    let n = c.line_length in
    let f = c.in_ok-form in
    ap Some c.key_of.ensures
    ∙ slot-keyed a.fields a.slot.now n.result n.ensures f.form.contract f.ensures.1 (form_told a.fields _ f.form.fields f.ensures.0 ∙ not-false _ (sym c.ne.ensures ∙ c.if-ne.false))
