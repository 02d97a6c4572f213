-- `store::spans::copy_turned` meets its contract: each turn puts one more byte of the list turned round.
use mathlib.Core.List.{List, reverse}
use mathlib.Core.Path.{sym, ap, ◌∙◌}
use Prim.Native.Nat.{ℕ, ◌-◌}
use lib.ListN.{length, get_or, set, length-reverse, length-set}
use native.Mathlib.Omega.{arith}
use Rattle.std.proofs.Common.{take_all}
use Rattle.encoding.specs.Splices.{splice, splice_nil}
use Rattle.store.specs.SpanLaws.{turned_put}
use Rattle.store.proofs.spans.copy_turned.Goals as goal

pub loop-i-init : goal.loop-i-init
loop-i-init c = (sym (splice_nil c.args.out.now 0), c.told-out)

pub loop-i-preserved : goal.loop-i-preserved
loop-i-preserved c =
    let s = c.args.s.now in
    let l = c.loop-i in
    let b = get_or s (length s - 1 - l.i) 0 in (
      ap (λ (d : List ℕ). set d l.i b) l.invariant.0
          ∙ turned_put c.args.out.now s l.i c.loop-i-test.true (omega (arith, c.requires, c.told-out)),
      length-set l.out l.i b ∙ l.invariant.1,
    )

pub returns : goal.returns
returns c =
    let r = reverse c.args.s.now in
    let l = c.loop-i in
    l.invariant.0 ∙ ap (splice c.args.out.now 0) (take_all l.i r (omega (arith, c.loop-i-test.false, length-reverse c.args.s.now)))
