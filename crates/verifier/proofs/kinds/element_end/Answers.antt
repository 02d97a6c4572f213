-- `verifier::kinds::element_end` meets its contract.
use mathlib.Core.Bool.{Bool, ◌&&◌}
use mathlib.Core.Path.{sym, ◌∙◌, ap, ap₂}
use Prim.Native.Nat.{ℕ, ◌+◌}
use lib.Dec.{leb}
use native.Mathlib.Omega.{arith}
use Rattle.std.specs.Prelude.{Some}
use Rattle.encoding.specs.Meaning.{cell_meaning}
use Rattle.encoding.specs.Kinds.{Valuing}
use Rattle.verifier.specs.Asked.{cell_rule_asks}
use Rattle.verifier.specs.CellTests.{own_length, value_asked, asked_test, cell_test}
use Rattle.verifier.specs.Elements.{literal_test, element_ends, element_breaks, element_other, element_inside}
use Rattle.verifier.proofs.kinds.element_end.Goals as goal

pub returns-in_err-rule-clause-is : goal.returns-in_err-rule-clause-is
returns-in_err-rule-clause-is c =
    let a = c.args in
    c.from_residual.ensures ∙ element_other a.n.strings a.n.numbers a.n.steps a.high a.at (cell_meaning a.c) c.in_err-rule.ensures

pub returns-then-holds-clause-is : goal.returns-then-holds-clause-is
unfolding value_asked cell_rule_asks cell_test asked_test
returns-then-holds-clause-is c =
    let a = c.args in
    let asks = ap value_asked c.in_ok-rule.ensures in
    let holds =
    sym (ap₂ (λ (x y : Bool). ((leb 64 a.c.kind && leb a.c.kind a.high) && x) && y) (c.fits.ensures ∙ ap (λ o. asked_test a.n.strings a.n.numbers o (cell_meaning a.c)) c.in_ok-rule.ensures)
    (c.literal_holds.ensures ∙ ap (λ (w : Valuing). literal_test w a.at a.c.value) asks))
    ∙ c.if-holds.true in
    let size = c.own_length.ensures.0 ∙ ap (λ (w : Valuing). own_length w a.c.value) asks in
    sym (element_ends a.n.strings a.n.numbers a.n.steps a.high a.at (cell_meaning a.c) holds ∙ ap (λ (m : ℕ). Some (a.at + m)) (sym size))

pub returns-then-holds-clause-inside : goal.returns-then-holds-clause-inside
unfolding value_asked cell_rule_asks cell_test asked_test
returns-then-holds-clause-inside c =
    let a = c.args in
    let asks = ap value_asked c.in_ok-rule.ensures in
    let holds =
    sym (ap₂ (λ (x y : Bool). ((leb 64 a.c.kind && leb a.c.kind a.high) && x) && y) (c.fits.ensures ∙ ap (λ o. asked_test a.n.strings a.n.numbers o (cell_meaning a.c)) c.in_ok-rule.ensures)
    (c.literal_holds.ensures ∙ ap (λ (w : Valuing). literal_test w a.at a.c.value) asks))
    ∙ c.if-holds.true in
    let size = c.own_length.ensures.0 ∙ ap (λ (w : Valuing). own_length w a.c.value) asks in
    omega (arith, size, element_inside a.n.strings a.n.numbers a.n.steps a.high a.at (cell_meaning a.c) holds)

pub returns-clause-is : goal.returns-clause-is
unfolding value_asked cell_rule_asks cell_test asked_test
returns-clause-is c =
    let a = c.args in
    let asks = ap value_asked c.in_ok-rule.ensures in
    let holds =
    sym (ap₂ (λ (x y : Bool). ((leb 64 a.c.kind && leb a.c.kind a.high) && x) && y) (c.fits.ensures ∙ ap (λ o. asked_test a.n.strings a.n.numbers o (cell_meaning a.c)) c.in_ok-rule.ensures)
    (c.literal_holds.ensures ∙ ap (λ (w : Valuing). literal_test w a.at a.c.value) asks))
    ∙ c.if-holds.false in
    sym (element_breaks a.n.strings a.n.numbers a.n.steps a.high a.at (cell_meaning a.c) holds)
