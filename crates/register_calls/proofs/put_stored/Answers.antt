-- `register_calls::put_stored` meets its contract: the line, and behind one of four fields a comma and the house currency.
use Rattle.std.proofs.Common.{◌∷◌, ◌+◌, ◌-◌, ◌≤◌, ap, sym, subst, ◌∙◌, length, take, arith}
use Rattle.encoding.specs.Splices.{length-splice, splice}
use Rattle.register_calls.specs.Putting.{stored_by}
use Rattle.register_calls.specs.PutLaws.{copied, is_five, is_four, put_five, put_four, room_any, room_four}
use Rattle.register_calls.proofs.put_stored.Goals as goal

pub slice_bounds-copy_from_slice-end : goal.slice_bounds-copy_from_slice-end
slice_bounds-copy_from_slice-end c =
    let a = c.args in omega (arith, room_any a.buffer.now a.line.now a.at a.fields c.requires.1)

pub write_currency-requires : goal.write_currency-requires
write_currency-requires c =
    let a = c.args in
    let put = copied a.buffer.now a.at (a.at + length a.line.now - a.at) _ a.line.now c.copy_from_slice.ensures.after (omega arith) in
    let room = subst (λ f. a.at + length (stored_by f (take 3 a.buffer.now) a.line.now) ≤ length a.buffer.now)
    (is_four a.fields (sym c.eq.ensures ∙ c.if-eq.true)) c.requires.1 in
    omega (
      arith,
      c.copy_from_slice-then-eq.ensures.len,
      ap length put,
      length-splice a.buffer.now a.at a.line.now (room_any a.buffer.now a.line.now a.at a.fields c.requires.1),
      room_four a.buffer.now a.line.now a.at c.requires.0 room,
    )

pub returns-then-eq : goal.returns-then-eq
returns-then-eq c =
    let a = c.args in
    let put = copied a.buffer.now a.at (a.at + length a.line.now - a.at) _ a.line.now c.copy_from_slice.ensures.after (omega arith) in
    let copy = c.copy_from_slice-then-eq in
    let four = is_four a.fields (sym c.eq.ensures ∙ c.if-eq.true) in
    let room = subst (λ f. a.at + length (stored_by f (take 3 a.buffer.now) a.line.now) ≤ length a.buffer.now) four c.requires.1 in
    c.write_currency.ensures
    ∙ ap (λ d. splice d (a.at + length a.line.now) (44 ∷ copy.new.self)) put
    ∙ put_four a.buffer.now a.line.now a.at c.requires.0 room copy.new.self (copy.ensures.after ∙ ap (take 3) put)
    ∙ ap (λ f. splice a.buffer.now a.at (stored_by f (take 3 a.buffer.now) a.line.now)) (sym four)

pub returns-else-eq : goal.returns-else-eq
returns-else-eq c =
    let a = c.args in
    let five = is_five a.fields (sym c.eq.ensures ∙ c.if-eq.false) in
    copied a.buffer.now a.at (a.at + length a.line.now - a.at) _ a.line.now c.copy_from_slice.ensures.after (omega arith)
    ∙ put_five a.buffer.now a.line.now a.at
    ∙ ap (λ f. splice a.buffer.now a.at (stored_by f (take 3 a.buffer.now) a.line.now)) (sym five)
