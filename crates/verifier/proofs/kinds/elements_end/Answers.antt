-- `verifier::kinds::elements_end` meets its contract.
use mathlib.Core.Path.{ap, ◌∙◌}
use Prim.Native.Nat.{◌+◌}
use native.Mathlib.Omega.{arith}
use Rattle.encoding.specs.Table.{elements_at}
use Rattle.verifier.specs.Elements.{element_end}
use Rattle.verifier.specs.Turns.{walk_start, walk_more, walk_stops, walk_done, elements_walk}
use Rattle.verifier.proofs.kinds.elements_end.Goals as goal

pub loop-i-init : goal.loop-i-init
loop-i-init c =
    let a = c.args in
    (omega arith, walk_start (elements_walk a.n.strings a.n.numbers a.n.steps a.high a.t.now) (a.k + a.count) a.k a.count a.at (omega arith))

pub loop-i-preserved : goal.loop-i-preserved
unfolding elements_at
loop-i-preserved c =
    let a = c.args in
    let l = c.loop-i in
    let made = c.in_ok-end.ensures.is ∙ ap (element_end a.n.strings a.n.numbers a.n.steps a.high l.end) c.cell_at-c.ensures.same in
    (omega (arith, c.in_ok-end.ensures.inside), walk_more (elements_walk a.n.strings a.n.numbers a.n.steps a.high a.t.now) (a.k + a.count) l.i l.end c.in_ok-end.end l.invariant.1 c.loop-i-test.true made)

pub returns-in_err-end-clause-is : goal.returns-in_err-end-clause-is
unfolding elements_at
returns-in_err-end-clause-is c =
    let a = c.args in
    let l = c.loop-i in
    let made = c.in_err-end.ensures.is ∙ ap (element_end a.n.strings a.n.numbers a.n.steps a.high l.end) c.cell_at-c.ensures.same in
    c.from_residual.ensures ∙ walk_stops (elements_walk a.n.strings a.n.numbers a.n.steps a.high a.t.now) (a.k + a.count) l.i l.end l.invariant.1 c.loop-i-test.true made

pub returns-clause-is : goal.returns-clause-is
returns-clause-is c =
    let a = c.args in
    let l = c.loop-i in
    walk_done (elements_walk a.n.strings a.n.numbers a.n.steps a.high a.t.now) (a.k + a.count) l.i l.end l.invariant.1 c.loop-i-test.false
