-- `verifier::kinds::roles_hold` meets its contract.
use mathlib.Core.Path.{◌≡◌, refl, sym, ◌∙◌, ap}
use Prim.Native.Nat.{◌+◌, ◌*◌, ◌-◌}
use native.Mathlib.Omega.{arith}
use lib.ListN.{get_or, replicate}
use mathlib.Core.Bool.{false}
use Rattle.encoding.specs.Table.{elements_at}
use Rattle.encoding.specs.TableReading.{cell_at}
use Rattle.verifier.specs.Roles.{roles_test, roles_more, roles_stop, roles_done, marks-filler, marks-other}
use Rattle.verifier.proofs.kinds.roles_hold.Goals as goal

pub loop-i-init : goal.loop-i-init
loop-i-init c =
    let a = c.args in
    let size : a.count ≡ a.k + a.count - a.k = omega arith in
    (refl, ap (roles_test a.t.now a.reference (replicate 256 false) a.k) size)

pub returns-then-not-role_holds : goal.returns-then-not-role_holds
unfolding elements_at cell_at
returns-then-not-role_holds c =
    let a = c.args in
    let l = c.loop-i in
    roles_stop a.t.now a.reference l.marks l.i (a.k + a.count) l.invariant.1 refl refl (sym c.if-not-role_holds.true ∙ c.role_holds.ensures) c.loop-i-test.true

pub loop-i-preserved : goal.loop-i-preserved
unfolding elements_at cell_at
loop-i-preserved c =
    let a = c.args in
    let l = c.loop-i in
    let kind = get_or a.t.now (6208 + 8 * l.i) 0 in
    let place = get_or a.t.now (6208 + 8 * l.i + 1) 0 in
    roles_more a.t.now a.reference l.marks l.i (a.k + a.count) l.invariant.1 refl refl (sym c.if-not-role_holds.false ∙ c.role_holds.ensures)
    c.loop-i-test.true l.invariant.0
    (grind (arith, marks-filler l.marks kind place, marks-other l.marks kind place))

pub returns : goal.returns
returns c =
    let a = c.args in
    let l = c.loop-i in
    roles_done a.t.now a.reference l.marks l.i (a.k + a.count) l.invariant.1 c.loop-i-test.false
