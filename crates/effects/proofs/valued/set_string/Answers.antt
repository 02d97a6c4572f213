-- `valued::set_string` meets its contract: what a scan of the part would search gives way to the value, or a length is negative.
use mathlib.Core.Path.{ap, ◌∙◌}
use Rattle.evaluator.specs.Memory.{memory_in}
use Rattle.decoder.specs.Meaning.{elements_meaning, part_meaning}
use Rattle.effects.specs.Laws.{stays_same}
use Rattle.effects.specs.ValuedLaws.{set-searched, set_where, stored_as}
use Rattle.effects.proofs.valued.set_string.Goals as goal

pub returns-in_default : goal.returns-in_default
returns-in_default c =
    let a = c.args in
    let m = memory_in a.store.now a.state.now in
    let xs = elements_meaning a.table.now a.s in
    record {
      leaves = (
        stays_same a.store.now c.requires.value_spellable.ready.strings,
        set-searched m xs (part_meaning a.p) ∙ ap (set_where m xs) c.in_default.ensures,
      );
    }

pub returns : goal.returns
returns c =
    let a = c.args in
    let m = memory_in a.store.now a.state.now in
    let xs = elements_meaning a.table.now a.s in
    stored_as _ a.store.now _ a.state.now _ _
    (set-searched m xs (part_meaning a.p) ∙ ap (set_where m xs) c.in-Ok.ensures.work)
    c.set_value.ensures
