-- `scan::fail` leaves the numbers of no split.
use Rattle.scanning.specs.Call.{most_elements, split_numbers}
use mathlib.Core.Path.{refl}
use Rattle.scan.proofs.fail.Goals as goal

pub returns : goal.returns
unfolding split_numbers most_elements
returns c = refl
