-- `decoder::number6` meets its contract. Three numbers of 2 bytes make one of 6.
use native.Mathlib.Omega.{arith}
use Rattle.decoder.proofs.Numbers.{six}
use Rattle.decoder.proofs.number6.Goals as goal

pub returns : goal.returns
returns c =
    let start = c.args in
    omega (arith, six start.t.now start.at)
