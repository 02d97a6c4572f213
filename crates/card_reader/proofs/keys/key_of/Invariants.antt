-- `card_reader::keys::key_of` answers the key. The invariant: the key is that of the bytes gone through.
use Rattle.card_reader.proofs.Labels.{Keyed}
use mathlib.Core.List.{map}
use Rattle.card_reader.proofs.keys.key_of.Given as goal

abbrev pub invariant-loop-b : goal.invariant-loop-b
invariant-loop-b l = Keyed (map (λ y. y.now) l.yielded) l.key
