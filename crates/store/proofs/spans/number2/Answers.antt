-- `store::spans::number2` meets its contract.
use native.Mathlib.Omega.{arith}
use Rattle.encoding.specs.Numerals.{numeral_at}
use Rattle.store.proofs.spans.number2.Goals as goal

pub returns : goal.returns
unfolding numeral_at
returns c = (omega (arith, c.from_le_bytes.ensures), c.from_le_bytes.type_inv)
