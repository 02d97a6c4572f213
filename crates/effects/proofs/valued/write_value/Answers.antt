-- `valued::write_value` meets its contract: the bytes put are those of the record, shortened.
use Rattle.std.proofs.Common.{ℕ, get_or, take, subst}
use Rattle.std.proofs.lemmas.Result.{err_from_is_err_and}
use Rattle.effects.specs.Leaving.{Full, RecordPuts, Wrote}
use Rattle.values.specs.Stops.{stop_number}
use Rattle.effects.specs.ValuedLaws.{not_recorded, recorded}
use Rattle.effects.proofs.valued.write_value.Goals as goal

pub returns : goal.returns
returns c =
    let a = c.args in
    let left = c.put_record.new.output in
    let put = subst (λ r. RecordPuts r a.output.now left (get_or a.state.now 4 0) (take c.min-kept.result a.v.now)) c.in_ok-to.was c.put_record.ensures in
    let at = get_or a.state.now 4 0 in
    recorded a.state.now a.output.now a.v.now a.length.value a.length.notes c.requires.room c.tail_notes.result
    c.tail_notes.ensures.0 c.in_ok-to.to left
    (subst (λ (n : ℕ). Wrote a.output.now left at c.in_ok-to.to (take n a.v.now)) c.min-kept.ensures put)

pub returns-in_err-to : goal.returns-in_err-to
returns-in_err-to c =
    let a = c.args in
    let left = c.put_record.new.output in
    let at = get_or a.state.now 4 0 in
    let p = err_from_is_err_and c.from_residual.result c.from_residual.ensures.1 in
    let full = subst (λ r. RecordPuts r a.output.now left (get_or a.state.now 4 0) (take c.min-kept.result a.v.now)) c.in_err-to.was c.put_record.ensures in
    rw (p.1, p.2) (not_recorded a.state.now a.output.now a.v.now a.length.value a.length.notes c.requires.room _ left
    (subst (λ (n : ℕ). Full a.output.now left at (stop_number c.in_err-to.field-0.0) (take n a.v.now)) c.min-kept.ensures full))
