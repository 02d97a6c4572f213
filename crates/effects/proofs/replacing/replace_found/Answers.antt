-- `replacing::replace_found` meets its contract, in either direction.
use mathlib.Core.Path.{ap}
use Rattle.machine.specs.Scanning.{turned}
use Rattle.encoding.specs.Meaning.{direction_meaning}
use Rattle.effects.specs.Replacing.{stored_turned}
use Rattle.effects.specs.ValuedLaws.{stored_as}
use Rattle.effects.proofs.replacing.replace_found.Goals as goal

pub returns-in-Forward : goal.returns-in-Forward
unfolding turned
returns-in-Forward c =
    let a = c.args in
    stored_as _ a.store.now _ a.state.now _ _
    (ap
    (λ d. stored_turned a.table.now a.store.now a.state.now (direction_meaning d) a.at.place a.at.from a.at.to a.s)
    c.in-Forward.is)
    c.set_value.ensures

pub returns-in-Backward : goal.returns-in-Backward
unfolding turned
returns-in-Backward c =
    let a = c.args in
    stored_as _ a.store.now _ a.state.now _ _
    (ap
    (λ d. stored_turned a.table.now a.store.now a.state.now (direction_meaning d) a.at.place a.at.from a.at.to a.s)
    c.in-Backward.is)
    c.set_turned.ensures
