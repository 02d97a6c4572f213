-- `verifier::kinds::items_end` meets its contract.
use mathlib.Core.Path.{ap, ◌∙◌}
use Prim.Native.Nat.{◌+◌}
use native.Mathlib.Omega.{arith}
use Rattle.encoding.specs.Table.{items_at}
use Rattle.verifier.specs.Items.{item_end}
use Rattle.verifier.specs.Turns.{walk_start, walk_more, walk_stops, walk_done, items_walk}
use Rattle.verifier.proofs.kinds.items_end.Goals as goal

pub loop-i-init : goal.loop-i-init
loop-i-init c =
    let a = c.args in
    (omega arith, walk_start (items_walk a.n.strings a.n.numbers a.n.steps a.t.now) (a.k + a.count) a.k a.count 0 (omega arith))

pub loop-i-preserved : goal.loop-i-preserved
unfolding items_at
loop-i-preserved c =
    let a = c.args in
    let l = c.loop-i in
    let made = c.in_ok-known.ensures.is ∙ ap (item_end a.n.strings a.n.numbers a.n.steps l.known) c.cell_at-c.ensures.same in
    (c.in_ok-known.ensures.room, walk_more (items_walk a.n.strings a.n.numbers a.n.steps a.t.now) (a.k + a.count) l.i l.known c.in_ok-known.known l.invariant.1 c.loop-i-test.true made)

pub returns-in_err-known : goal.returns-in_err-known
unfolding items_at
returns-in_err-known c =
    let a = c.args in
    let l = c.loop-i in
    let made = c.in_err-known.ensures.is ∙ ap (item_end a.n.strings a.n.numbers a.n.steps l.known) c.cell_at-c.ensures.same in
    c.from_residual.ensures ∙ walk_stops (items_walk a.n.strings a.n.numbers a.n.steps a.t.now) (a.k + a.count) l.i l.known l.invariant.1 c.loop-i-test.true made

pub returns : goal.returns
returns c =
    let a = c.args in
    let l = c.loop-i in
    walk_done (items_walk a.n.strings a.n.numbers a.n.steps a.t.now) (a.k + a.count) l.i l.known l.invariant.1 c.loop-i-test.false
