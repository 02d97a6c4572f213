-- `lexer::constants::signed` meets its contract.
use mathlib.Core.Path.{sym, ap, subst, ◌∙◌}
use native.Mathlib.Omega.{arith}
use lib.IntN.{neg_ℤ}
use Rattle.lexer.specs.Constants.{ReadsSigned}
use Rattle.lexer.proofs.Signs.{sign_inside, reads_none, reads_negative, reads_positive}
use Rattle.lexer.proofs.constants.signed.Goals as goal

pub overflow_add-from : goal.overflow_add-from
overflow_add-from c =
    let a = c.args in
    let e = c.sign_at.ensures in
    rw e (omega (arith, sign_inside a.text.now a.at))

pub returns-in_err-value : goal.returns-in_err-value
returns-in_err-value c =
    let a = c.args in
    let e = c.sign_at.ensures in
    let u = c.in_err-value.ensures in
    subst (ReadsSigned a.text.now a.at) (sym c.from_residual.ensures) (reads_none a.text.now a.at (rw e at u))

pub returns-then-negative : goal.returns-then-negative
returns-then-negative c =
    let a = c.args in
    let e = c.sign_at.ensures in
    let u = c.in_ok-value.ensures in
    let n = c.negate-value.ensures in
    reads_negative a.text.now a.at c.in_ok-value.field-0 c.negate-value.result (rw e at u)
    (sym c.stands_at-negative.ensures ∙ c.if-negative.true) (record { value = n.value ∙ ap neg_ℤ c.int_of-size.ensures.value; range = n.range })

pub returns-else-negative : goal.returns-else-negative
returns-else-negative c =
    let a = c.args in
    let e = c.sign_at.ensures in
    let u = c.in_ok-value.ensures in
    reads_positive a.text.now a.at c.in_ok-value.field-0 c.int_of-size.result (rw e at u)
    (sym c.stands_at-negative.ensures ∙ c.if-negative.false) c.int_of-size.ensures
