-- `verifier::steps::steps_end` meets its contract.
use mathlib.Core.Path.{◌∙◌}
use native.Mathlib.Omega.{arith}
use borrow.Author.Rules.{rules}
use Rattle.verifier.specs.Tests.{start}
use Rattle.verifier.specs.Turns.{walk_start, walk_more, walk_stops, walk_done, steps_walk}
use Rattle.verifier.proofs.steps.steps_end.Goals as goal

pub loop-k-init : goal.loop-k-init
loop-k-init c =
    let a = c.args in
    (search rules, walk_start (steps_walk a.n a.t.now) a.n.steps 0 a.n.steps start (omega arith))

pub step_end-requires : goal.step_end-requires
step_end-requires c =
    let inv = c.loop-k.invariant in
    (c.requires.0, omega (arith, c.requires.1.steps, c.loop-k-test.true), inv.0, c.requires.1)

pub loop-k-preserved : goal.loop-k-preserved
loop-k-preserved c =
    let l = c.loop-k in
    let a = c.args in
    let more = walk_more (steps_walk a.n a.t.now) a.n.steps l.k l.p c.in_ok-p.p l.invariant.1 c.loop-k-test.true c.in_ok-p.ensures.is in
    (c.in_ok-p.ensures.room, more)

pub returns-in_err-p : goal.returns-in_err-p
returns-in_err-p c =
    let l = c.loop-k in
    let a = c.args in
    c.from_residual.ensures
    ∙ walk_stops (steps_walk a.n a.t.now) a.n.steps l.k l.p l.invariant.1 c.loop-k-test.true c.in_err-p.ensures.is

pub returns : goal.returns
returns c =
    let l = c.loop-k in
    let a = c.args in
    walk_done (steps_walk a.n a.t.now) a.n.steps l.k l.p l.invariant.1 c.loop-k-test.false
