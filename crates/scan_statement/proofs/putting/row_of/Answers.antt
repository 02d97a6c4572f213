-- `putting::row_of` meets its contract: each kind of element has its number.
use mathlib.Core.Path.{refl, subst}
use native.Mathlib.Omega.{arith}
use Rattle.scan.specs.Rows.{scan_row}
use Rattle.scan_statement.specs.Putting.{RowSmall}
use Rattle.scan_statement.proofs.putting.row_of.Goals as goal

pub returns-in-Part : goal.returns-in-Part
unfolding scan_row RowSmall
returns-in-Part c =
    let small = subst RowSmall c.in-Part.is c.requires in
    rw c.in-Part.is (refl, small.0, small.1)

pub returns-in-Fixed : goal.returns-in-Fixed
unfolding scan_row RowSmall
returns-in-Fixed c = rw c.in-Fixed.is (refl, subst RowSmall c.in-Fixed.is c.requires, omega arith)

pub returns-in-Free : goal.returns-in-Free
unfolding scan_row
returns-in-Free c = rw c.in-Free.is (refl, omega arith, omega arith)
