-- `scan_step` meets its contract: there is no reference, or it is searched.
use mathlib.Core.Path.{◌≡◌, refl, sym, subst}
use Rattle.std.specs.Prelude as std
use Rattle.std.proofs.lemmas.Result.{err_from_is_err_and}
use Rattle.evaluator.specs.Memory.{memory_in}
use Rattle.machine.specs.Scanning.{searched_in}
use Rattle.decoder.specs.Meaning.{part_meaning}
use Rattle.encoding.specs.Meaning.{direction_meaning}
use Rattle.effects.specs.References.{Refers}
use Rattle.effects.specs.declared.Span.{Span}
use Rattle.values.specs.Stops.{stop_number}
use Rattle.values.specs.declared.Stop.{Stop}
use Rattle.scan_statement.specs.ReferenceLaws.{scanning_rest, scanning_stops}
use Rattle.scan_statement.specs.Scans.{ScanDone}
use Rattle.scan_statement.proofs.scan_step.Goals.{After-reference_ends}
use Rattle.scan_statement.proofs.scan_step.Goals as goal

-- where the reference lies, or what stops the scan for it
refers : (c : After-reference_ends) {r : std.Result Span Stop} → c.reference_ends.result ≡ r
    → (let a = c.args in
    Refers r a.store.now a.s.part (searched_in (memory_in a.store.now a.state.now) (direction_meaning a.s.direction) (part_meaning a.s.part)))
refers c e =
    let a = c.args in
    subst (λ (r : std.Result Span Stop). Refers r a.store.now a.s.part
    (searched_in (memory_in a.store.now a.state.now) (direction_meaning a.s.direction) (part_meaning a.s.part)))
    e c.reference_ends.ensures

pub scan_span-requires : goal.scan_span-requires
scan_span-requires c =
    let found = refers (goal.at.scan_span-requires c).After-reference_ends c.in_ok-at.was in record {
      referred = record { scannable = c.requires.scannable; names = found.names; between = found.between };
      kept_good = c.requires.kept_good;
    }

pub returns : goal.returns
returns c =
    let a = c.args in
    let found = refers (goal.at.returns c).After-reference_ends c.in_ok-at.was in record {
      scan_leaves = record {
        scans =
            subst (ScanDone c.scan_span.result a.store.now c.scan_span.new.store a.state.now c.scan_span.new.answer)
            (sym (scanning_rest a.table.now a.store.now a.state.now a.s c.in_ok-at.at found.work)) c.scan_span.ensures.scan_leaves.scans;
      };
      kept_stays = c.scan_span.ensures.kept_stays;
    }

pub returns-in_err-at : goal.returns-in_err-at
returns-in_err-at c =
    let a = c.args in
    let why = c.in_err-at.field-0.0 in
    let p = err_from_is_err_and c.from_residual.result c.from_residual.ensures.1 in
    rw (p.1, p.2)
    (record {
      scan_leaves = record {
        scans = (refl, scanning_stops a.table.now a.store.now a.state.now a.s (stop_number why) (refers (goal.at.returns-in_err-at c).After-reference_ends c.in_err-at.was));
      };
      kept_stays = c.requires.kept_good;
    })
