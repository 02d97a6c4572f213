-- `printing::put_number` meets its contract.
use native.Mathlib.Omega.{arith}
use Rattle.base.specs.Text.{bytes}
use Rattle.printing.specs.PrintLaws.{digits_short, put-behind, put-stored}
use Rattle.printing.proofs.put_number.Goals as goal

pub put_digits-requires : goal.put_digits-requires
put_digits-requires c =
    let comma = c.put-from.ensures in
    omega (arith, comma.ends, comma.size, digits_short c.args.v (omega arith))

pub returns : goal.returns
unfolding bytes
returns c =
    let comma = c.put-from.ensures in
    let put = c.put_digits.ensures in
    let few = digits_short c.args.v (omega arith) in
    record {
      put = put-behind comma (put-stored (omega (arith, comma.ends, comma.size)) put);
      short = omega (arith, comma.ends, put.ends);
    }
