-- `register_reading::read_slots` meets its contract. The loop's invariant: the slots before slot k are read, and those from it on are left.
use Rattle.std.proofs.Common.{◌≡◌, ◌*◌, drop}
use Rattle.register_reading.specs.SlotLaws.{SlotsReadTo}
use Rattle.register_reading.proofs.read_slots.Given as goal

abbrev pub invariant-loop-k : goal.invariant-loop-k
invariant-loop-k l =
    let i = l.k-iterator in
    SlotsReadTo l.fields l.slots l.keys.items l.marks i.count × (i.iter.rest.now ≡ drop (28 * i.count) l.slots) × (i.iter.size ≡ 28)
