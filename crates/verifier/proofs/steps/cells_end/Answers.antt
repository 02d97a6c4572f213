-- `verifier::steps::cells_end` meets its contract.
use mathlib.Core.Path.{◌∙◌}
use Rattle.std.specs.Prelude.{Some, None}
use Rattle.verifier.specs.Asked.{right_meaning}
use Rattle.verifier.specs.Tests.{places}
use Rattle.verifier.specs.Turns.{items_stop, cells_stop, cells_told}
use Rattle.verifier.proofs.steps.cells_end.Goals as goal

pub returns-in_err-known-clause-is : goal.returns-in_err-known-clause-is
returns-in_err-known-clause-is c =
    let a = c.args in
    c.from_residual.ensures ∙ items_stop a.n a.t.now a.p (right_meaning a.rule) a.reference a.s c.in_err-known.ensures

pub returns-then-not-holds-clause-is : goal.returns-then-not-holds-clause-is
returns-then-not-holds-clause-is c =
    let a = c.args in
    cells_stop a.n a.t.now a.p (right_meaning a.rule) a.reference a.s c.in_ok-known.known c.in_ok-known.ensures c.numbers_left.ensures
    c.pattern_holds-roles.ensures c.if-not-holds.true

pub returns-in_err-literals-clause-is : goal.returns-in_err-literals-clause-is
returns-in_err-literals-clause-is c =
    let a = c.args in
    c.from_residual-in_err-literals.ensures
    ∙ cells_told a.n a.t.now a.p (right_meaning a.rule) a.reference a.s c.in_ok-known.known c.in_ok-known.ensures c.numbers_left.ensures
    c.pattern_holds-roles.ensures c.if-not-holds.false c.last_kind.ensures None c.in_err-literals.ensures.is

pub returns-clause-is : goal.returns-clause-is
unfolding places
returns-clause-is c =
    let a = c.args in
    cells_told a.n a.t.now a.p (right_meaning a.rule) a.reference a.s c.in_ok-known.known c.in_ok-known.ensures c.numbers_left.ensures
    c.pattern_holds-roles.ensures c.if-not-holds.false c.last_kind.ensures (Some c.in_ok-literals.literals) c.in_ok-literals.ensures.is
