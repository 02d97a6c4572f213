-- `register_calls::open_old` meets its contract: the lines written out, then the house currency told.
use Rattle.std.proofs.Common.{arith}
use Rattle.register.specs.BufferLaws.{sound_size}
use Rattle.register.specs.LineLaws.{currency_size}
use Rattle.register_calls.specs.OpenLaws.{opened_old_gets}
use Rattle.register_calls.proofs.open_old.Goals as goal

pub tell_house-requires : goal.tell_house-requires
tell_house-requires c =
    let a = c.args in
    (currency_size a.currency.now c.requires.1, omega (arith, c.write_out.auto.buffer, sound_size a.buffer.now c.requires.0.keeps))

pub returns : goal.returns
returns c =
    let out = c.write_out in
    let t = c.tell_house in
    opened_old_gets c.args.buffer.now c.args.currency.now c.requires.1 c.args.n c.requires.0 out.new.buffer out.ensures t.new.buffer t.ensures
