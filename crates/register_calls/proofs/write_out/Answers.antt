-- `register_calls::write_out` meets its contract. The loop's invariant: the currency stands behind the first k lines.
use Rattle.std.proofs.Common.{arith}
use Rattle.register_calls.specs.OpenLaws.{all_done, none_written, place_few, slot_inside, size_is, write_room, written_next}
use Rattle.register_calls.proofs.write_out.Goals as goal

pub loop-k-init : goal.loop-k-init
loop-k-init c = none_written c.args.buffer.now c.args.n c.requires.0 c.args.currency.now c.requires.1

pub slot_at-at-requires : goal.slot_at-at-requires
slot_at-at-requires c = place_few c.args.buffer.now c.args.n c.requires.0 c.args.currency.now c.requires.1 c.loop-k.k c.loop-k-test.true

pub overflow_add-at : goal.overflow_add-at
overflow_add-at c =
    let l = c.loop-k in
    omega (arith, c.slot_at-at.ensures, slot_inside c.args.buffer.now c.args.n c.requires.0 c.args.currency.now c.requires.1 l.k c.loop-k-test.true, l.invariant.size)

pub slice_bounds-line_length-end : goal.slice_bounds-line_length-end
slice_bounds-line_length-end c =
    let l = c.loop-k in
    omega (arith, c.slot_at-at.ensures, slot_inside c.args.buffer.now c.args.n c.requires.0 c.args.currency.now c.requires.1 l.k c.loop-k-test.true, l.invariant.size)

pub overflow_add-at-in-loop-k : goal.overflow_add-at-in-loop-k
overflow_add-at-in-loop-k c =
    let l = c.loop-k in
    omega (arith, c.slot_at-at.ensures, slot_inside c.args.buffer.now c.args.n c.requires.0 c.args.currency.now c.requires.1 l.k c.loop-k-test.true, l.invariant.size)

pub write_currency-requires : goal.write_currency-requires
write_currency-requires c =
    let l = c.loop-k in
    let t = c.loop-k-test.true in
    let at = c.slot_at-at in
    let m = c.line_length-size in
    let size = size_is c.args.buffer.now c.args.n c.requires.0 c.args.currency.now c.requires.1 l.k t l.buffer l.invariant at.result m.result at.ensures m.ensures in
    write_room c.args.buffer.now c.args.n c.requires.0 c.args.currency.now c.requires.1 l.k t l.buffer l.invariant at.result m.result at.ensures size

pub loop-k-preserved : goal.loop-k-preserved
loop-k-preserved c =
    let l = c.loop-k in
    let t = c.loop-k-test.true in
    let at = c.slot_at-at in
    let m = c.line_length-size in
    let w = c.write_currency in
    let size = size_is c.args.buffer.now c.args.n c.requires.0 c.args.currency.now c.requires.1 l.k t l.buffer l.invariant at.result m.result at.ensures m.ensures in
    written_next c.args.buffer.now c.args.n c.requires.0 c.args.currency.now c.requires.1 l.k t l.buffer l.invariant
    at.result m.result at.ensures size w.new.buffer w.ensures w.auto.buffer

pub shape_of-buffer : goal.shape_of-buffer
shape_of-buffer c = c.loop-k.invariant.size

pub returns : goal.returns
returns c =
    let l = c.loop-k in
    all_done c.args.buffer.now c.args.n c.requires.0 c.args.currency.now c.requires.1 l.k l.buffer (omega arith) l.invariant
