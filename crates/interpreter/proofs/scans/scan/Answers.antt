-- `scans::scan` meets its contract: it goes to the step for a split or for none.
use mathlib.Core.Path.{◌≡◌, subst}
use Rattle.calls.specs.Calls.{buffers}
use Rattle.std.proofs.lemmas.Result.{err_from_is_err_and}
use Rattle.scan_statement.specs.Scans.{ScanDone, Scanned, scanning_of}
use Rattle.values.specs.Stops.{stop_number}
use Rattle.interpreter.specs.Laws.{scan_works, scan_stops}
use Rattle.interpreter.proofs.scans.scan.Goals.{After-scan_step}
use Rattle.interpreter.proofs.scans.scan.Goals as goal

-- what the scan came to
scanned : (c : After-scan_step) {r : Scanned} → c.scan_step.result ≡ r
    → (let a = c.args in
    let left = c.scan_step.new in
    ScanDone r a.store.now left.store a.state.now left.answer (scanning_of a.table.now a.store.now a.state.now a.s))
scanned c e =
    let a = c.args in
    let left = c.scan_step.new in
    subst (λ (d : Scanned). ScanDone d a.store.now left.store a.state.now left.answer (scanning_of a.table.now a.store.now a.state.now a.s))
    e c.scan_step.ensures.scan_leaves.scans

pub scan_step-requires : goal.scan_step-requires
scan_step-requires c = c.requires

pub returns : goal.returns
returns c =
    let went = (goal.at.returns c).After-scan_step in
    let a = c.args in
    let ends = scanned went c.in_ok-split.was in record {
      does_scan = λ input output p stands. rw c.take_branch.ensures (record { works = scan_works stands a.table.now a.s ends });
      kept_stays = c.scan_step.ensures.kept_stays;
    }

pub returns-in_err-split : goal.returns-in_err-split
returns-in_err-split c =
    let went = (goal.at.returns-in_err-split c).After-scan_step in
    let a = c.args in
    let halted = scanned went c.in_err-split.was in
    let p = err_from_is_err_and c.from_residual.result c.from_residual.ensures.1 in
    rw (p.1, p.2)
    (record {
      does_scan = λ input output q stands.
          record {
            works =
                scan_stops input (buffers a.store.now a.state.now output) a.table.now a.s c.scan_step.new.store
                (stop_number c.in_err-split.field-0.0) halted.0 halted.1;
          };
      kept_stays = c.scan_step.ensures.kept_stays;
    })
