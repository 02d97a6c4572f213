-- `scan::scan_into` scans by the first rows.
use mathlib.Core.List.{List}
use mathlib.Core.Path.{refl, ◌∙◌, ap}
use Rattle.scanning.specs.Call.{answer_numbers}
use Rattle.scanning.specs.Splits.{Element}
use Rattle.scanning.specs.Trials.{scan}
use Rattle.scan.proofs.Calls.{first_good, first_pattern}
use Rattle.scan.proofs.scan_into.Goals as goal

pub invariant_of-pattern : goal.invariant_of-pattern
invariant_of-pattern c =
    let a = c.args in
    record { ready = first_good a.values.now a.rows.now a.count c.requires.good_rows _ refl c.as_chunks.result.0.now c.as_chunks.ensures.front }

pub returns : goal.returns
returns c =
    let a = c.args in
    c.scan_filled.ensures
    ∙ ap (λ (p : List Element). answer_numbers 0 (scan p a.reference.now))
    (first_pattern a.values.now a.rows.now a.count c.requires.good_rows _ refl c.as_chunks.result.0.now c.as_chunks.ensures.front)
