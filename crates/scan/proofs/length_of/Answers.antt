-- `scan::length_of` tells an element's length.
use Rattle.scan.proofs.Tests.{sized_part, sized_fixed, sized_free}
use native.Mathlib.Omega.{arith}
use Rattle.scan.proofs.length_of.Goals as goal

pub overflow_sub-result : goal.overflow_sub-result
overflow_sub-result c = (sized_part c.args.e _ _ c.in-Part.is c.requires).0

pub returns-in-Part : goal.returns-in-Part
returns-in-Part c =
    let s = sized_part c.args.e _ _ c.in-Part.is c.requires in
    (s.1, s.2)

pub returns-in-Fixed : goal.returns-in-Fixed
returns-in-Fixed c = sized_fixed c.args.e _ c.in-Fixed.is c.requires

pub returns-in-Free : goal.returns-in-Free
returns-in-Free c = (sized_free c.args.e c.in-Free.is, omega arith)
