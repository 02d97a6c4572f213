-- `scan::row_element` reads the element of a row.
use mathlib.Core.Path.{◌∙◌, ap, ap₂}
use Rattle.scan.specs.declared.Element.TheVariants.{Part, Fixed}
use Rattle.scan.specs.Rows.{scan_row_at}
use Rattle.scan.proofs.Tests.{kind_element, row_told}
use Rattle.scan.proofs.row_element.Goals as goal

pub returns-in-String : goal.returns-in-String
unfolding scan_row_at kind_element
returns-in-String c =
    ap₂ Part c.number4.ensures.0 c.number4-in-String.ensures.0 ∙ row_told _ _ _ c.of.ensures c.unwrap_or.ensures c.in-String.is

pub returns-in-Fixed : goal.returns-in-Fixed
unfolding scan_row_at kind_element
returns-in-Fixed c = ap Fixed c.number4-in-Fixed.ensures.0 ∙ row_told _ _ _ c.of.ensures c.unwrap_or.ensures c.in-Fixed.is

pub returns-in-Free : goal.returns-in-Free
unfolding scan_row_at kind_element
returns-in-Free c = row_told _ _ _ c.of.ensures c.unwrap_or.ensures c.in-Free.is
