-- `card_reader::packed::Packing::step` goes on over one byte.
use Rattle.card_reader.proofs.Packing.{flag_small, outside_told, steps-other, steps_outside}
use borrow.Author.Tests.{eqb-false, not-true}
use Rattle.base.specs.Choice.{both_true}
use lib.Dec.{eqb}
use mathlib.Core.Bool.{not, ◌&&◌}
use Rattle.card_reader.specs.Places.{is_outside, place_meaning}
use mathlib.Core.Path.{◌≡◌, ap, sym, ◌∙◌}
use native.Mathlib.Omega.{arith}
use Rattle.card_reader.proofs.packed.Packing.step.Goals.{After-eq}
use Rattle.card_reader.proofs.packed.Packing.step.Goals as goal

told : (c : After-eq) → c.eq.result ≡ is_outside (place_meaning c.args.self.place)
told c = c.eq.ensures ∙ outside_told c.args.self.place

pub overflow_add-result : goal.overflow_add-result
overflow_add-result c = let small = flag_small (not c.is_blank.result) in omega arith

pub returns-then-eq-b : goal.returns-then-eq-b
returns-then-eq-b c =
    let a = c.args in
    let both = both_true _ _ c.if-eq-b.true in
    steps_outside a.self a.b c.is_blank.result (sym (told (goal.at.returns-then-eq-b c).After-eq) ∙ both.0)
    (eqb-false a.b 34 (not-true (eqb a.b 34) both.1)) c.is_blank.ensures

pub returns : goal.returns
returns c =
    let a = c.args in
    steps-other a.self a.b c.stays_whole.result c.after.result
    (ap (λ t. t && not (eqb a.b 34)) (sym (told (goal.at.returns c).After-eq)) ∙ c.if-eq-b.false)
    c.after.ensures c.stays_whole.ensures
