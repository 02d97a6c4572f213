-- `scan::strigol_scan` keeps the scan call's promise.
use mathlib.Core.Path.{subst}
use Rattle.scanning.specs.Call.{scan_call}
use Rattle.scan.specs.Steps.{CallSays}
use Rattle.scan.proofs.Calls.{promise_kept, promise_refused}
use Rattle.scan.proofs.strigol_scan.Goals as goal

pub returns-in-Ok : goal.returns-in-Ok
unfolding CallSays
returns-in-Ok c =
    let a = c.args in
    let called = scan_call a.reference.now a.values.now a.elements.now in
    promise_kept a.reference.now a.values.now a.elements.now 0 c.scan_rows.new.answer
    (subst (λ r. CallSays called r c.scan_rows.new.answer) c.in-Ok.is c.scan_rows.ensures)

pub returns-in-Err : goal.returns-in-Err
unfolding CallSays
returns-in-Err c =
    let a = c.args in
    let called = scan_call a.reference.now a.values.now a.elements.now in
    promise_refused a.reference.now a.values.now a.elements.now c.number.result c.fail.new.answer
    (subst (λ r. CallSays called r c.scan_rows.new.answer) c.in-Err.is c.scan_rows.ensures) c.number.ensures c.fail.ensures
