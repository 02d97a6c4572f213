-- `effects::asked` meets its contract: the length is negative, or its size is asked for.
use Rattle.effects.specs.Laws.{asks-natural}
use Rattle.effects.proofs.asked.Goals as goal

pub returns : goal.returns
returns c store = rw c.ok_or.ensures.value (asks-natural c.natural.result (c.length_value.ensures store) c.natural.ensures)
