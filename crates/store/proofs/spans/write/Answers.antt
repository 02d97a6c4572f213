-- `store::spans::write` meets its contract.
use Prim.Native.Nat.{◌+◌, ◌-◌}
use lib.ListN.{length}
use native.Mathlib.Omega.{arith}
use Rattle.store.specs.SpanLaws.{put_mid-splice}
use Rattle.store.proofs.spans.write.Goals as goal

pub returns : goal.returns
returns c =
    let a = c.args in
    rw c.copy_from_slice.ensures.after (put_mid-splice a.out.now a.at (a.at + length a.v.now - a.at) a.v.now (omega arith))
