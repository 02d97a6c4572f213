-- `deck_reader::steps::write_steps`: entry after entry. The invariant: the steps from here on are left to be written.
use mathlib.Core.Path.{◌≡◌}
use Prim.Native.Nat.{◌+◌, ◌-◌}
use lib.ListN.{length}
use Rattle.deck_reader.specs.Steps.{DeckAccepted, next_at}
use Rattle.deck_reader.specs.StepsLaws.{Ongoing}
use Rattle.deck_reader.proofs.steps.write_steps.Given as goal

abbrev pub invariant-loop-p : goal.invariant-loop-p
invariant-loop-p l =
    (l.known ≡ next_at l.initial.known l.known.next)
    × ((w : DeckAccepted l.deck.bytes.now l.initial.known) → Ongoing l.deck.bytes.now l.initial.table w.whole l.p l.table)
    × (length l.table ≡ length l.initial.table)

abbrev pub decreases-loop-p : goal.decreases-loop-p
decreases-loop-p l =
    length l.deck.bytes.now + 1 - l.p.from
