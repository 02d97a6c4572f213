-- `valued::write_record` meets its contract: the value spelt is put, or the work stops.
use Rattle.std.proofs.Common.{refl, arith}
use Rattle.std.proofs.lemmas.Result.{err_from_is_err_and}
use Rattle.evaluator.specs.Laws.{string-is, string_stops}
use Rattle.evaluator.specs.Memory.{memory_in}
use Rattle.values.specs.ResultLaws.{stopped}
use Rattle.effects.specs.ValuedLaws.{few_notes, spelt_puts}
use Rattle.effects.proofs.valued.write_record.Goals as goal

pub write_value-requires : goal.write_value-requires
write_value-requires c =
    let a = c.args in
    let written = c.string_value.ensures in
    let notes = few_notes a.table.now a.s (memory_in a.store.now a.state.now) (string-is written c.in_ok-length.was) in
    record { writable = c.requires.state_writable; room = written.room; few = omega (arith, notes, c.requires.value_spellable.elements.few) }

pub returns : goal.returns
returns c =
    let a = c.args in
    spelt_puts c.write_value.result a.state.now c.write_value.new.state a.output.now c.write_value.new.output
    (string-is c.string_value.ensures c.in_ok-length.was) c.write_value.ensures

pub returns-in_err-length : goal.returns-in_err-length
returns-in_err-length c =
    let p = err_from_is_err_and c.from_residual.result c.from_residual.ensures.1 in
    let stops = string_stops c.string_value.ensures c.in_err-length.was in
    rw (p.1, p.2) (record { state_same = refl; same = refl; work = λ z _. stopped _ _ _ stops })
