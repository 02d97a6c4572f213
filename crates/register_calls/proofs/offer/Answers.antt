-- `register_calls::offer` meets its contract: a line that is taken is stored in its slot, and nothing changes by one that isn't.
use Rattle.std.proofs.Common.{Ok, refl, arith, ap, take, ◌∙◌}
use Rattle.encoding.specs.Splices.{splice}
use Rattle.std.proofs.lemmas.Result.{err_from_is_err_and}
use Rattle.register_reading.specs.ReadLaws.{keys_known}
use Rattle.register_reading.specs.Reading.{slot_at}
use Rattle.register_calls.specs.Putting.{stored_by}
use Rattle.register_calls.specs.PutLaws.{offer_kept, offer_put, offer_unopened, offer_room, place_free}
use Rattle.register_calls.proofs.offer.Goals as goal

pub returns-in_err-read_keys : goal.returns-in_err-read_keys
returns-in_err-read_keys c =
    let a = c.args in
    let p = err_from_is_err_and c.from_residual.result c.from_residual.ensures.1 in
    rw (p.1, p.2) (offer_unopened a.buffer.now c.read_keys.new.keys.items a.line.now _ c.in_err-read_keys.ensures)

pub returns-in_err-form : goal.returns-in_err-form
returns-in_err-form c =
    let a = c.args in
    let keys = c.read_keys.new.keys.items in
    let known = keys_known a.buffer.now keys _ c.in_ok-read_keys.ensures in
    let p = err_from_is_err_and c.from_residual-in_err-form.result c.from_residual-in_err-form.ensures.1 in
    rw (p.1, p.2) (offer_kept a.buffer.now a.line.now keys known _ c.in_err-form.ensures _ refl)

pub slot_at-requires : goal.slot_at-requires
slot_at-requires c =
    let a = c.args in
    let keys = c.read_keys.new.keys.items in
    let known = keys_known a.buffer.now keys _ c.in_ok-read_keys.ensures in
    let f = c.in_ok-form in
    omega (
      arith,
      c.len.ensures.value,
      place_free a.buffer.now a.line.now keys known (Ok f.form) f.ensures f.form refl,
    )

pub put_stored-requires : goal.put_stored-requires
put_stored-requires c =
    let a = c.args in
    let keys = c.read_keys.new.keys.items in
    let known = keys_known a.buffer.now keys _ c.in_ok-read_keys.ensures in
    let f = c.in_ok-form in
    let at = c.slot_at.ensures ∙ ap slot_at c.len.ensures.value in
    (omega (arith, at), omega (arith, at, offer_room a.buffer.now a.line.now keys known (Ok f.form) f.ensures f.form refl))

pub returns : goal.returns
returns c =
    let a = c.args in
    let keys = c.read_keys.new.keys.items in
    let known = keys_known a.buffer.now keys _ c.in_ok-read_keys.ensures in
    let f = c.in_ok-form in
    let put = c.put_stored in
    let at = c.slot_at.ensures ∙ ap slot_at c.len.ensures.value in
    offer_put a.buffer.now a.line.now keys known (Ok f.form) f.ensures f.form refl
    put.new.buffer
    (put.ensures ∙ ap (λ n. splice a.buffer.now n (stored_by f.form.fields (take 3 a.buffer.now) a.line.now)) at)
