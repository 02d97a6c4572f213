-- `search::same_until` counts the bytes that agree. The invariant: the bytes passed do.
use lib.ListN.{get_or}
use Prim.Native.Nat.{ℕ, ◌<◌}
use mathlib.Core.Path.{◌≡◌}
use Rattle.search.proofs.same_until.Given as goal

abbrev pub invariant-loop-i : goal.invariant-loop-i
invariant-loop-i l = (k : ℕ) → k < l.i → get_or l.rest k 0 ≡ get_or l.word k 0
