-- `scan::pass_places` passes over places at which an element fails.
use Rattle.scan.proofs.Tests.{good_part, skip_part, skip_none}
use Rattle.scan.specs.Rows.{GoodPart}
use mathlib.Core.Path.{refl}
use Rattle.scan.proofs.pass_places.Goals.{In-Part}
use Rattle.scan.proofs.pass_places.Goals as goal

-- a string's part of the values
part : (c : In-Part) → GoodPart c.args.values.now c.in-Part.from c.in-Part.to
part c = good_part c.args.e c.args.values.now _ _ c.in-Part.is c.requires

pub slice_bounds-passed-count : goal.slice_bounds-passed-count
slice_bounds-passed-count c = (part c).order

pub slice_bounds-passed-start : goal.slice_bounds-passed-start
slice_bounds-passed-start c = (part c).order

pub slice_bounds-passed-end : goal.slice_bounds-passed-end
slice_bounds-passed-end c = (part c).inside

pub returns-in-Part : goal.returns-in-Part
returns-in-Part c = let a = c.args in skip_part a.values.now a.rest.now a.e _ _ _ c.passed.result c.in-Part.is refl c.passed.ensures

pub returns-in-Fixed : goal.returns-in-Fixed
returns-in-Fixed c = let a = c.args in skip_none a.values.now a.rest.now a.e
