-- `store::spans::copy_turned` copies byte by byte, the last one first. The invariant: so many bytes of the list turned round stand there.
use Rattle.std.specs.Prelude.{◌≡◌, length, reverse, take}
use Rattle.encoding.specs.Splices.{splice}
use Rattle.store.proofs.spans.copy_turned.Given as goal

abbrev pub invariant-loop-i : goal.invariant-loop-i
invariant-loop-i l = (l.out ≡ splice l.initial.out 0 (take l.i (reverse l.s))) × (length l.out ≡ 1024)
