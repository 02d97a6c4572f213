-- `scan::number4` reads four bytes as a number.
use Rattle.scanning.specs.Call.{number4}
use native.Mathlib.Omega.{arith}
use Rattle.scan.proofs.number4.Goals as goal

pub returns : goal.returns
unfolding number4
returns c = (omega (arith, c.from_le_bytes.ensures), c.from_le_bytes.type_inv)
