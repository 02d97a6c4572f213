-- `store::spans::number8` reads eight bytes as a number.
use Rattle.std.proofs.Common.{arith, ◌≡◌, ◌+◌}
use Rattle.encoding.specs.Numerals.{numeral_at}
use Rattle.store.proofs.spans.number8.Goals as goal

pub returns : goal.returns
unfolding numeral_at
returns c =
    let at = c.args.at in
    let two : at + 1 + 1 ≡ at + 2 = omega arith in
    let three : at + 2 + 1 ≡ at + 3 = omega arith in
    let four : at + 3 + 1 ≡ at + 4 = omega arith in
    let five : at + 4 + 1 ≡ at + 5 = omega arith in
    let six : at + 5 + 1 ≡ at + 6 = omega arith in
    let seven : at + 6 + 1 ≡ at + 7 = omega arith in
    rw (two, three, four, five, six, seven) (omega (arith, c.from_le_bytes.ensures))
