-- `scan::test_element` tests an element at the start of some bytes.
use Rattle.scan.proofs.Tests.{good_part, test_part, test_fixed_few, test_fixed_piece, test_free}
use Rattle.scan.specs.Rows.{GoodPart}
use mathlib.Core.Path.{refl}
use Rattle.scan.proofs.test_element.Goals.{In-Part}
use Rattle.scan.proofs.test_element.Goals as goal

-- a string's part of the values
part : (c : In-Part) → GoodPart c.args.values.now c.in-Part.from c.in-Part.to
part c = good_part c.args.e c.args.values.now _ _ c.in-Part.is c.requires

pub slice_bounds-test_string-count : goal.slice_bounds-test_string-count
slice_bounds-test_string-count c = (part c).order

pub slice_bounds-test_string-start : goal.slice_bounds-test_string-start
slice_bounds-test_string-start c = (part c).order

pub slice_bounds-test_string-end : goal.slice_bounds-test_string-end
slice_bounds-test_string-end c = (part c).inside

pub returns-in-Part : goal.returns-in-Part
returns-in-Part c = let a = c.args in test_part a.values.now a.rest.now a.e _ _ _ c.test_string.result c.in-Part.is refl c.test_string.ensures

pub returns-then-rest-n : goal.returns-then-rest-n
returns-then-rest-n c = let a = c.args in test_fixed_few a.values.now a.rest.now a.e _ c.in-Fixed.is c.if-rest-n.true

pub returns-else-rest-n : goal.returns-else-rest-n
returns-else-rest-n c = let a = c.args in test_fixed_piece a.values.now a.rest.now a.e _ c.in-Fixed.is c.if-rest-n.false

pub returns-in-Free : goal.returns-in-Free
returns-in-Free c = let a = c.args in test_free a.values.now a.rest.now a.e c.in-Free.is
