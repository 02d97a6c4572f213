-- `register_reading::read_register` meets its contract: size and header, then the slots.
use Rattle.std.proofs.Common.{sym, arith, length-take-le}
use Rattle.register_reading.specs.ReadLaws.{buffer_small, header_bad, read_told}
use Rattle.register_reading.proofs.read_register.Goals as goal

pub returns-then-buffer-lt-SIZE : goal.returns-then-buffer-lt-SIZE
returns-then-buffer-lt-SIZE c = buffer_small c.args.buffer.now c.args.keys.now.items c.if-buffer-lt-SIZE.true

pub slice_bounds-header_fields-end : goal.slice_bounds-header_fields-end
slice_bounds-header_fields-end c = sym (length-take-le 1024 c.args.buffer.now (omega arith))

pub header_fields-requires : goal.header_fields-requires
header_fields-requires c = length-take-le 1024 c.args.buffer.now (omega arith)

pub returns-in_err-fields : goal.returns-in_err-fields
returns-in_err-fields c =
    rw c.from_residual.ensures
    (header_bad c.args.buffer.now c.args.keys.now.items c.if-buffer-lt-SIZE.false (sym c.in_err-fields.ensures))

pub returns : goal.returns
returns c =
    let f = c.in_ok-fields in
    let s = c.read_slots in
    rw c.then_some.ensures
    (read_told c.args.buffer.now f.fields c.if-buffer-lt-SIZE.false (sym f.ensures) s.new.keys.items s.result s.ensures)
