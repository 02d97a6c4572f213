-- `fillers::name_fillers` meets its contract. The invariant: naming the pieces that are left leaves the memory asked for, and the string searched
-- is as it was.
use Rattle.std.proofs.Common.{◌≡◌, length, take, drop}
use Rattle.encoding.specs.Meaning.{direction_meaning}
use Rattle.store.specs.Clauses.{string_of}
use Rattle.effects.specs.Fillers.{lengths_in}
use Rattle.effects.specs.FillerLaws.{Namings}
use Rattle.effects.specs.References.{turned_reference}
use Rattle.effects.proofs.fillers.name_fillers.Given as goal

abbrev pub invariant-loop-name : goal.invariant-loop-name
invariant-loop-name l =
    Namings l.initial.store (turned_reference l.initial.store (direction_meaning l.d) l.at) l.names l.answer l.count l.start (length l.yielded) l.store
    × (string_of l.store l.at.place ≡ string_of l.initial.store l.at.place)
    × (l.name-iterator.a.rest.now ≡ drop (length l.yielded) (take l.count l.names))
    × (l.name-iterator.b.rest.now ≡ drop (length l.yielded) (lengths_in l.answer 20))
