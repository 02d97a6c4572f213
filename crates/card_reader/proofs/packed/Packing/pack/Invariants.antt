-- `card_reader::packed::Packing::pack` packs the bytes. The invariant: what is left leads to the same.
use Rattle.card_reader.proofs.Packing.{Going}
use Rattle.card_reader.proofs.packed.Packing.pack.Given as goal

abbrev pub invariant-loop-b : goal.invariant-loop-b
invariant-loop-b l = Going l.part l.initial.text l.initial.s l.text l.s l.b-index
