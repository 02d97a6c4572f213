-- `replacing::found_from` meets its contract, in either direction.
use mathlib.Core.Path.{refl}
use native.Mathlib.Omega.{arith}
use Rattle.scan_statement.proofs.replacing.found_from.Goals as goal

pub returns-in-Forward : goal.returns-in-Forward
returns-in-Forward c =
    let p = c.requires in
    rw c.in-Forward.is (refl, omega arith, omega (arith, p.from_le_to, p.n_bound))

pub returns-in-Backward : goal.returns-in-Backward
returns-in-Backward c =
    let p = c.requires in
    rw c.in-Backward.is (omega (arith, p.from_le_to, p.n_bound), omega (arith, p.from_le_to, p.n_bound), omega (arith, p.from_le_to, p.n_bound))
