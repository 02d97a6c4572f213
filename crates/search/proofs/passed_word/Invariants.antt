-- `search::passed_word` passes only places where two of the word's bytes don't both stand or the bytes don't all agree. The invariant: so for k places.
use Rattle.search.specs.Passing.{WordPasses}
use lib.ListN.{length}
use Prim.Native.Nat.{◌-◌, ◌≤◌, ◌<◌}
use Rattle.search.proofs.passed_word.Given as goal

abbrev pub invariant-loop-place : goal.invariant-loop-place
invariant-loop-place l = (l.span < length l.word) × (l.k ≤ l.places) × WordPasses l.text l.word l.k

abbrev pub decreases-loop-place : goal.decreases-loop-place
decreases-loop-place l = l.places - l.k
