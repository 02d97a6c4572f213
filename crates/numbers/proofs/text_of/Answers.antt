-- `numbers::text_of` meets its contract. Each way STRING may go is a law of Texts; what is asked for is read back from what was stored.
use mathlib.Core.Path.{◌≡◌, refl, sym, ap, ◌∙◌}
use Prim.Native.Nat.{ℕ, ◌-◌}
use native.Mathlib.Omega.{arith}
use lib.IntN.{nat_abs}
use lib.ListN.{length, take}
use Rattle.values.specs.Result.{done}
use Rattle.numbers.specs.Text.{filled_text}
use Rattle.numbers.proofs.Texts.{text_size_lem, plain_room, text_plain, text_stops, text_fills, text_cut, written_part, written-whole}
use Rattle.numbers.proofs.text_of.Goals as goal

pub put_text-length-requires : goal.put_text-length-requires
put_text-length-requires c = plain_room c.args.m c.requires.right

pub returns-then-asked-eq0 : goal.returns-then-asked-eq0
returns-then-asked-eq0 c =
    rw c.plain.ensures
    (written-whole c.put_text-length.ensures c.requires.room (plain_room c.args.m c.requires.right).room (omega (arith, c.put_text-length.ensures.ends))
    (text_plain c.args.n.value c.args.m.value (sym c.size-asked.ensures ∙ c.if-asked-eq0.true)))

pub returns-then-asked-gt-LONGEST : goal.returns-then-asked-gt-LONGEST
returns-then-asked-gt-LONGEST c =
    let size = c.size-asked.ensures in
    let some : nat_abs c.args.n.value ≡ 0 → ⊥ = λ e. c.if-asked-eq0.false (size ∙ e) in
    record {
      text = sym (text_stops c.args.n.value c.args.m.value some (omega arith));
      settled = refl;
      room = c.requires.room;
    }

pub put_text-requires : goal.put_text-requires
put_text-requires c =
    let asked = c.size-asked.result in
    let plain = c.plain_length-plain.result in
    let size = text_size_lem c.args.m.value c.fill_byte.result (asked - plain) in
    record { number = c.requires.right; room = omega (arith, c.plain_length-plain.ensures) }

pub returns-then-plain-asked : goal.returns-then-plain-asked
returns-then-plain-asked c =
    let asked = c.size-asked.result in
    let size = c.size-asked.ensures in
    let n = c.args.n.value in
    let m = c.args.m.value in
    let byte = c.fill_byte.result in
    let count = asked - c.plain_length-plain.result in
    let some : nat_abs n ≡ 0 → ⊥ = λ e. c.if-asked-eq0.false (size ∙ e) in
    let long = c.plain_length-plain.ensures in
    let whole : asked ≡ length (filled_text m byte count) = omega (arith, text_size_lem m byte count) in
    rw c.plain-then-plain-asked.ensures
    (written-whole c.put_text.ensures c.requires.room (omega arith) whole
    (text_fills n m some (omega arith) count (omega arith) (omega arith)
    ∙ ap (λ (b : ℕ). done (filled_text m b count) 0) (sym c.fill_byte.ensures)))

pub put_text-requires-2 : goal.put_text-requires-2
put_text-requires-2 c =
    plain_room c.args.m c.requires.right

pub returns : goal.returns
returns c =
    let size = c.size-asked.ensures in
    let n = c.args.n.value in
    let m = c.args.m.value in
    let some : nat_abs n ≡ 0 → ⊥ = λ e. c.if-asked-eq0.false (size ∙ e) in
    let long = c.plain_length-plain.ensures in
    written_part c.put_text-2.ensures c.requires.room (plain_room c.args.m c.requires.right).room (omega (arith, text_size_lem m 48 0))
    (text_cut n m some (omega arith) (omega arith) ∙ ap (λ (k : ℕ). done (take k (filled_text m 48 0)) 1) (sym size))
