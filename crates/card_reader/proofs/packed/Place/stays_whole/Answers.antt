-- `card_reader::packed::Place::stays_whole` answers whether the literals stay whole.
use Rattle.card_reader.proofs.Packing.{whole_told}
use lib.Dec.{eqb}
use mathlib.Core.Bool.{◌||◌}
use mathlib.Core.Path.{ap, sym, ◌∙◌}
use Rattle.card_reader.proofs.packed.Place.stays_whole.Goals as goal

pub returns-else-ne : goal.returns-else-ne
returns-else-ne c =
    let a = c.args in
    sym (ap (λ t. t || eqb a.b 34) (sym c.ne.ensures ∙ c.if-ne.false)) ∙ whole_told a.self a.b
