-- `scan::scan_rows` scans, or says why it doesn't.
use mathlib.Core.Bool.{true, false}
use mathlib.Core.Path.{sym, ◌∙◌}
use native.Mathlib.Omega.{arith}
use borrow.Author.Tests.{eqb-true, eqb-false}
use Rattle.scanning.specs.Call.{longest_reference, most_elements, scan_row_size, row_count}
use Rattle.scan.specs.Steps.{CallSays}
use Rattle.scan.proofs.Calls.{count_most, cut_pattern, cut_good, cut_read, call_long, call_many, call_bad, call_scans}
use Rattle.scan.proofs.scan_rows.Goals.{then-not-is_empty-via-then-not-is_empty, then-not-is_empty-via-else-not-is_empty+then-not-read_rows}
use Rattle.scan.proofs.scan_rows.Goals as goal

pub returns-then-reference-gt-LONGEST : goal.returns-then-reference-gt-LONGEST
unfolding CallSays longest_reference
returns-then-reference-gt-LONGEST c =
    let a = c.args in
    call_long a.reference.now a.values.now a.elements.now c.if-reference-gt-LONGEST.true

pub returns-then-elements-gt-ROWS_SIZE : goal.returns-then-elements-gt-ROWS_SIZE
unfolding CallSays longest_reference most_elements row_count scan_row_size
returns-then-elements-gt-ROWS_SIZE c =
    let a = c.args in
    call_many a.reference.now a.values.now a.elements.now c.if-reference-gt-LONGEST.false (omega arith)

pub returns-then-not-is_empty : goal.returns-then-not-is_empty
unfolding CallSays longest_reference most_elements
returns-then-not-is_empty c =
    let a = c.args in
    let chunks = c.as_chunks.ensures in
    call_bad a.reference.now a.values.now a.elements.now c.if-reference-gt-LONGEST.false (count_most a.elements.now c.if-elements-gt-ROWS_SIZE.false)
    (elim c.then-not-is_empty.branch [
      | then-not-is_empty-via-then-not-is_empty w ↦
          let some = eqb-false _ 0 (sym c.is_empty.ensures ∙ w.if-not-is_empty.true) in
          cut_read a.values.now a.elements.now (λ e. some (chunks.back_len ∙ e))
      | then-not-is_empty-via-else-not-is_empty+then-not-read_rows w ↦
          let even = sym chunks.back_len ∙ eqb-true _ 0 (sym c.is_empty.ensures ∙ w.if-not-is_empty.false) in
          cut_pattern a.values.now a.elements.now _ chunks.front even false (sym w.read_rows.ensures.all ∙ w.if-not-read_rows.true)
    ])

pub invariant_of-scan_filled : goal.invariant_of-scan_filled
invariant_of-scan_filled c =
    let a = c.args in
    let chunks = c.as_chunks.ensures in
    let even = sym chunks.back_len ∙ eqb-true _ 0 (sym c.is_empty.ensures ∙ c.if-not-is_empty.false) in
    record {
      ready =
          cut_good a.values.now a.elements.now _ chunks.front even c.if-elements-gt-ROWS_SIZE.false (λ i. (c.type_inv.elements i).fits)
          (sym c.read_rows.ensures.all ∙ c.if-not-read_rows.false);
    }

pub returns : goal.returns
unfolding CallSays longest_reference most_elements
returns c =
    let a = c.args in
    let chunks = c.as_chunks.ensures in
    let even = sym chunks.back_len ∙ eqb-true _ 0 (sym c.is_empty.ensures ∙ c.if-not-is_empty.false) in
    call_scans a.reference.now a.values.now a.elements.now c.if-reference-gt-LONGEST.false (count_most a.elements.now c.if-elements-gt-ROWS_SIZE.false)
    (cut_pattern a.values.now a.elements.now _ chunks.front even true (sym c.read_rows.ensures.all ∙ c.if-not-read_rows.false))
    c.scan_filled.ensures
