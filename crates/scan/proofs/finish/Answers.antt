-- `scan::finish` writes the four numbers before the lengths.
use mathlib.Core.Path.{refl}
use Rattle.scan.proofs.finish.Goals as goal

pub returns : goal.returns
returns c = refl
