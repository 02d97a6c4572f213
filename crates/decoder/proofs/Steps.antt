-- What a row of the steps stands for, kind by kind. Assumes nothing.
use Rattle.std.specs.Prelude as Prelude
use Rattle.std.specs.Prelude.{Some, None}
use mathlib.Core.List.{List}
use mathlib.Core.Path.{◌≡◌, refl, sym, ◌∙◌, ap, ap₂, subst}
use Prim.Native.Nat.{ℕ}
use borrow.Author.Tests.{eq-eqb, ne_eqb}
use Rattle.syntax.specs.Program as Program
use Rattle.encoding.specs.Kinds as Kinds
use Rattle.encoding.specs.Kinds.{parts, both_steps, pattern_right}
use Rattle.encoding.specs.Table.{Row}
use Rattle.encoding.specs.TableReading.{part_of_cell, operand_of_cell, comparison_of, direction_of, steps_in, right_in, statement_of_row}
use Rattle.encoding.specs.Meaning.{branch_meaning, row_meaning, direction_meaning}
use Rattle.encoding.specs.declared.cells.Row as Cells
use Rattle.decoder.specs.Meaning.{part_meaning, patterns_meaning, replacement_meaning}
use Rattle.decoder.specs.Reading.{StretchRead, BehindRead, ReplacementDecoded, IfDecoded, ScanDecoded, StatementDecoded}
use Rattle.decoder.specs.declared.Part.{Part}
use Rattle.encoding.specs.declared.cells.Branch.{Branch}
use Rattle.decoder.specs.declared.Stretch.{Stretch}
use Rattle.decoder.specs.declared.If.{If}
use Rattle.encoding.specs.declared.cells.Direction.TheVariants.{Forward, Backward}
use Rattle.decoder.specs.declared.Scan as Scan
use Rattle.decoder.specs.declared.Statement.TheVariants as statements

-- the steps of a row that leads to both
pub branch_read : (r : Cells.Row) → branch_meaning r.branch ≡ steps_in both_steps (row_meaning r)
unfolding steps_in
branch_read r = refl

-- the direction of a scan
pub goes_forward : (flag : ℕ) → flag ≡ 1 → direction_meaning Forward ≡ direction_of flag
unfolding direction_of
goes_forward flag h = rw (eq-eqb flag 1 h)

pub goes_backward : (flag : ℕ) → (flag ≡ 1 → ⊥) → direction_meaning Backward ≡ direction_of flag
unfolding direction_of
goes_backward flag h = rw (ne_eqb flag 1 h)

-- a statement of each kind
module _ (r : Row) (t : List ℕ) where
  pub set_number_lem : (s : Stretch) → r.kind ≡ (Kinds.set_number_kind).number → StretchRead r.right.value s
      → StatementDecoded t r (statements.SetNumber r.left.place s)
  unfolding statement_of_row
  set_number_lem s h e = record { means = rw (h, e.from, e.count); stretches = e }

  pub set-string : (p : Part) (s : Stretch) → r.kind ≡ (Kinds.set_string_kind).number → part_meaning p ≡ part_of_cell parts r.left
      → StretchRead r.right.value s → StatementDecoded t r (statements.SetString p s)
  unfolding statement_of_row
  set-string p s h x e = record { means = rw (h, x, e.from, e.count); stretches = e }

  pub goes_to : r.kind ≡ (Kinds.goto_kind).number → StatementDecoded t r (statements.Goto r.success)
  unfolding statement_of_row
  goes_to h = record { means = rw h; stretches = tt }

  pub finishes : r.kind ≡ (Kinds.finish_kind).number → StatementDecoded t r statements.Finish
  unfolding statement_of_row
  finishes h = record { means = rw h; stretches = tt }

  pub executes : r.kind ≡ (Kinds.execute_kind).number → StatementDecoded t r (statements.Execute r.success)
  unfolding statement_of_row
  executes h = record { means = rw h; stretches = tt }

  pub returns_there : r.kind ≡ (Kinds.return_kind).number → StatementDecoded t r statements.Return
  unfolding statement_of_row
  returns_there h = record { means = rw h; stretches = tt }

  -- IF of each kind
  null_row : r.kind ≡ (Kinds.null_kind).number → statement_of_row t r ≡ Program.if_test (Program.is_null r.left.place) (steps_in both_steps r)
  unfolding statement_of_row
  null_row h = rw h

  pub tests_null : (b : Branch) → r.kind ≡ (Kinds.null_kind).number → branch_meaning b ≡ steps_in both_steps r
      → StatementDecoded t r (statements.IfNull r.left.place b)
  tests_null b h f = record { means = ap (Program.if_test (Program.is_null r.left.place)) f ∙ sym (null_row h); stretches = tt }

  numeric_row : r.kind ≡ (Kinds.numeric_kind).number
      → statement_of_row t r ≡ Program.if_test (Program.is_numeric (part_of_cell parts r.left)) (steps_in both_steps r)
  unfolding statement_of_row
  numeric_row h = rw h

  pub tests_numeric : (p : Part) (b : Branch) → r.kind ≡ (Kinds.numeric_kind).number → part_meaning p ≡ part_of_cell parts r.left
      → branch_meaning b ≡ steps_in both_steps r → StatementDecoded t r (statements.IfNumeric p b)
  tests_numeric p b h e f =
      record { means = (λ i. Program.if_test (Program.is_numeric (e i)) (f i)) ∙ sym (numeric_row h); stretches = tt }

  compare_row : r.kind ≡ (Kinds.compare_kind).number
      → statement_of_row t r
      ≡ Program.if_test (Program.compares (operand_of_cell r.left) (comparison_of r.flag) (operand_of_cell r.right)) (steps_in both_steps r)
  unfolding statement_of_row
  compare_row h = rw h

  pub compares : (x : If) (b : Branch) → r.kind ≡ (Kinds.compare_kind).number → IfDecoded r x → branch_meaning b ≡ steps_in both_steps r
      → StatementDecoded t r (statements.If x b)
  compares x b h e f =
      record {
        means = (λ i. Program.if_test (Program.compares (e.left i) (e.sign i) (e.right i)) (f i)) ∙ sym (compare_row h);
        stretches = tt;
      }

  -- SCAN and BACKSCAN, without a replacement and with one
  scan-row : r.kind ≡ (Kinds.scan_kind).number
      → statement_of_row t r
      ≡ Program.scan (direction_of r.flag) (part_of_cell parts r.left) (right_in t pattern_right r.right) (replacement_meaning t None)
      (steps_in both_steps r)
  unfolding statement_of_row
  scan-row h = rw h

  replace_row : (s : Stretch) → r.kind ≡ (Kinds.replace_kind).number → BehindRead r.right.value s
      → statement_of_row t r
      ≡ Program.scan (direction_of r.flag) (part_of_cell parts r.left) (right_in t pattern_right r.right) (replacement_meaning t (Some s))
      (steps_in both_steps r)
  unfolding statement_of_row
  replace_row s h e = rw (h, e.from, e.count)

  scans_by : (x : Scan.Scan) (put : Prelude.Option Stretch)
      → statement_of_row t r
      ≡ Program.scan (direction_of r.flag) (part_of_cell parts r.left) (right_in t pattern_right r.right) (replacement_meaning t put)
      (steps_in both_steps r)
      → ReplacementDecoded r.right.value put → ScanDecoded r put x → StatementDecoded t r (statements.Scan x)
  unfolding right_in
  scans_by x put row behind e =
      let pattern : patterns_meaning t x.pattern ≡ right_in t pattern_right r.right = rw (e.pattern.from, e.pattern.count) in
      record {
        means =
            (λ i. Program.scan (e.direction i) (e.part i) (pattern i) (replacement_meaning t (e.replacement i)) (e.branch i)) ∙ sym row;
        stretches =
            record { pattern = e.pattern; replacement = subst (ReplacementDecoded r.right.value) (sym e.replacement) behind };
      }

  pub scans : (x : Scan.Scan) → r.kind ≡ (Kinds.scan_kind).number → ScanDecoded r None x → StatementDecoded t r (statements.Scan x)
  scans x h e = scans_by x None (scan-row h) tt e

  pub replaces : (x : Scan.Scan) (s : Stretch) → r.kind ≡ (Kinds.replace_kind).number → BehindRead r.right.value s → ScanDecoded r (Some s) x
      → StatementDecoded t r (statements.Scan x)
  replaces x s h b e = scans_by x (Some s) (replace_row s h b) b e

  read-row : r.kind ≡ (Kinds.read_kind).number → statement_of_row t r ≡ Program.read (part_of_cell parts r.left) (steps_in both_steps r)
  unfolding statement_of_row
  read-row h = rw h

  pub reads : (p : Part) (b : Branch) → r.kind ≡ (Kinds.read_kind).number → part_meaning p ≡ part_of_cell parts r.left
      → branch_meaning b ≡ steps_in both_steps r → StatementDecoded t r (statements.Read p b)
  reads p b h e f = record { means = ap₂ {C = Program.Statement} Program.read e f ∙ sym (read-row h); stretches = tt }

  pub writes : (s : Stretch) → r.kind ≡ (Kinds.write_kind).number → StretchRead r.right.value s → StatementDecoded t r (statements.Write s)
  unfolding statement_of_row
  writes s h e = record { means = rw (h, e.from, e.count); stretches = e }
