-- `scan::scan_filled` leaves the scan's answer.
use mathlib.Core.Path.{sym, ◌∙◌}
use borrow.Author.Tests.{eqb-true}
use Rattle.std.specs.List.{concat}
use Rattle.scan.proofs.Answers.{scan-found, scan_none}
use Rattle.scan.proofs.scan_filled.Goals as goal

pub returns-then-is_empty : goal.returns-then-is_empty
returns-then-is_empty c =
    let p = c.args.pattern in
    let none = eqb-true _ 0 (sym c.is_empty.ensures ∙ c.if-is_empty.true) in
    c.finish.ensures
    ∙ scan-found c.args.reference.now p.values.now (concat p.rows.now) _ _ 0 (scan_none c.args.reference.now p.values.now _ _ _ none c.requires.answer_value)
