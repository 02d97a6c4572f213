-- `store::spans::blank` meets its contract.
use mathlib.Core.Path.{◌≡◌, sym, ◌∙◌, ap}
use Prim.Native.Nat.{ℕ, ◌-◌}
use lib.ListN.{replicate, length-replicate}
use native.Mathlib.Omega.{arith}
use Rattle.base.specs.ListLaws.{length_stretch}
use Rattle.encoding.specs.Splices.{splice, splice_nil}
use Rattle.store.specs.SpanLaws.{put_mid-splice}
use Rattle.store.proofs.spans.blank.Goals as goal

pub returns-then-from-to : goal.returns-then-from-to
returns-then-from-to c =
    let a = c.args in
    let n = a.to - a.from in
    rw (c.fill.ensures.after (λ y e. e), length_stretch a.out.now a.from n (omega arith))
    (put_mid-splice a.out.now a.from n (replicate n 0) (sym (length-replicate n 0)))

pub returns-else-from-to : goal.returns-else-from-to
returns-else-from-to c =
    let a = c.args in
    let none : a.to - a.from ≡ 0 = omega arith in
    sym (ap (λ (n : ℕ). splice a.out.now a.from (replicate n 0)) none ∙ splice_nil a.out.now a.from)
