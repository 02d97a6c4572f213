-- `decoder::behind_of` meets its contract.
use mathlib.Core.Path.{refl, ap₂}
use Prim.Native.Nat.{ℕ, ◌+◌}
use native.Mathlib.Omega.{arith}
use Rattle.encoding.specs.TableReading.{range_from, range_count, range_more}
use Rattle.decoder.proofs.behind_of.Goals as goal

pub overflow_add-result : goal.overflow_add-result
unfolding range_from range_count
overflow_add-result c = omega arith

pub returns : goal.returns
unfolding range_more
returns c =
    let s = c.stretch_of-s.ensures in
    record { from = ap₂ {C = ℕ} ◌+◌ s.from s.count; count = refl }
