-- `register_calls::tell_house` writes the house currency over the first three bytes.
use Rattle.std.proofs.Common.{arith}
use Rattle.register_calls.specs.PutLaws.{copied}
use Rattle.register_calls.proofs.tell_house.Goals as goal

pub returns : goal.returns
returns c = let a = c.args in copied a.buffer.now 0 3 _ a.currency.now c.copy_from_slice.ensures.after (omega (arith, c.requires.0))
