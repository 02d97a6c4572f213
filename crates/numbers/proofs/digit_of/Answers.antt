-- `numbers::digit_of` meets its contract. A byte below 48 counts as 0.
use mathlib.Core.Path.{sym}
use native.Mathlib.Omega.{arith}
use Rattle.numbers.proofs.Reading.{digit_low, digit_high}
use Rattle.numbers.proofs.digit_of.Goals as goal

pub returns-then-b-lt48 : goal.returns-then-b-lt48
returns-then-b-lt48 c = (sym (digit_low c.args.b c.if-b-lt48.true), omega arith)

pub returns-else-b-lt48 : goal.returns-else-b-lt48
returns-else-b-lt48 c = rw c.from.ensures (sym (digit_high c.args.b c.if-b-lt48.false), omega arith)
