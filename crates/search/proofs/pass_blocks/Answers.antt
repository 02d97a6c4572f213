-- `search::pass_blocks` passes only blocks where nothing was found. The invariant: no place passed has both bytes.
use Rattle.base.specs.ListLaws.{length_stretch}
use Rattle.search.proofs.Laws.{without_none, without_block}
use Prim.Native.Nat.{◌+◌, ◌-◌}
use mathlib.Core.Path.{sym, ◌∙◌}
use native.Mathlib.Omega.{arith}
use Rattle.search.proofs.pass_blocks.Goals as goal

pub loop-k-init : goal.loop-k-init
loop-k-init g c = without_none c.requires.0.start

pub hit-requires : goal.hit-requires
hit-requires g c =
    let a = c.args in
    let text = a.text.now in
    let size = g.row.SIZE in
    let k = c.loop-k.k in
    length_stretch text k (k + size - k) (omega arith)
    ∙ omega arith
    ∙ sym (length_stretch text (k + a.span) (k + a.span + size - (k + a.span)) (omega arith))

pub loop-k-preserved : goal.loop-k-preserved
loop-k-preserved g c =
    let a = c.args in
    let s = c.loop-k in
    let size = g.row.SIZE in
    let width = s.k + size - s.k in
    without_block s.invariant size width
    (s.k + a.span + size - (s.k + a.span)) (omega arith) (omega arith) (omega arith)
    (λ j h. c.hit.ensures c.if-hit.false j (omega (arith, length_stretch a.text.now s.k width (omega arith))))
