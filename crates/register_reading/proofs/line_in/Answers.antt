-- `register_reading::line_in` meets its contract: the slot without the zeros at its end is the line.
use Rattle.std.proofs.Common.{arith}
use Rattle.register_reading.specs.ReadLaws.{line_stands, place_few, slot_room}
use Rattle.register_reading.proofs.line_in.Goals as goal

pub slot_at-at-requires : goal.slot_at-at-requires
slot_at-at-requires c = place_few c.args.buffer.now c.args.place c.requires

pub overflow_add-slot : goal.overflow_add-slot
overflow_add-slot c =
    omega (arith, c.slot_at-at.ensures, slot_room c.args.buffer.now c.args.place c.requires)

pub slice_bounds-slot-end : goal.slice_bounds-slot-end
slice_bounds-slot-end c =
    omega (arith, c.slot_at-at.ensures, slot_room c.args.buffer.now c.args.place c.requires)

pub returns : goal.returns
returns c =
    let at = c.slot_at-at in
    let n = c.line_length in
    line_stands c.args.buffer.now c.args.place c.requires at.result at.ensures n.result n.ensures
