-- `decoder::statement_of` meets its contract. Each kind has its law.
use borrow.Author.Rules.{rules}
use mathlib.Core.Bool.{false}
use mathlib.Core.Path.{◌≡◌}
use Prim.Native.Nat.{ℕ}
use lib.Dec.{eqb}
use borrow.Author.Tests.{ne_eqb}
use Rattle.encoding.specs.TableReading.{statement_of_row}
use Rattle.encoding.specs.Meaning.{row_meaning}
use Rattle.decoder.proofs.Steps.{branch_read, set_number_lem, set-string, goes_to, finishes, executes, returns_there, tests_null, tests_numeric, compares}
use Rattle.decoder.proofs.Steps.{scans, replaces, reads, writes}
use Rattle.decoder.proofs.statement_of.Goals as goal

pub returns-in-16 : goal.returns-in-16
returns-in-16 c t =
    set_number_lem (row_meaning c.args.r) t c.stretch_of.result c.in-16.is c.stretch_of.ensures

pub returns-in-17 : goal.returns-in-17
returns-in-17 c t =
    let part = c.part_of in
    let stretch = c.stretch_of-in-17 in
    set-string (row_meaning c.args.r) t part.result stretch.result c.in-17.is
    part.ensures stretch.ensures

pub returns-in-32 : goal.returns-in-32
returns-in-32 c t = goes_to (row_meaning c.args.r) t c.in-32.is

pub returns-in-33 : goal.returns-in-33
returns-in-33 c t = finishes (row_meaning c.args.r) t c.in-33.is

pub returns-in-34 : goal.returns-in-34
returns-in-34 c t = executes (row_meaning c.args.r) t c.in-34.is

pub returns-in-35 : goal.returns-in-35
returns-in-35 c t = returns_there (row_meaning c.args.r) t c.in-35.is

pub returns-in-48 : goal.returns-in-48
returns-in-48 c t =
    tests_null (row_meaning c.args.r) t c.args.r.branch c.in-48.is (branch_read c.args.r)

pub returns-in-49 : goal.returns-in-49
returns-in-49 c t =
    let part = c.part_of-in-49 in
    tests_numeric (row_meaning c.args.r) t part.result c.args.r.branch c.in-49.is
    part.ensures (branch_read c.args.r)

pub returns-in-50 : goal.returns-in-50
returns-in-50 c t =
    let operands = c.if_of in
    compares (row_meaning c.args.r) t operands.result c.args.r.branch c.in-50.is
    operands.ensures (branch_read c.args.r)

pub returns-in-64 : goal.returns-in-64
returns-in-64 c t = scans (row_meaning c.args.r) t c.scan_of.result c.in-64.is c.scan_of.ensures

pub returns-in-65 : goal.returns-in-65
returns-in-65 c t =
    let behind = c.behind_of in
    replaces (row_meaning c.args.r) t c.scan_of-in-65.result behind.result c.in-65.is
    behind.ensures c.scan_of-in-65.ensures

pub returns-in-80 : goal.returns-in-80
returns-in-80 c t =
    let part = c.part_of-in-80 in
    reads (row_meaning c.args.r) t part.result c.args.r.branch c.in-80.is
    part.ensures (branch_read c.args.r)

pub returns-in-81 : goal.returns-in-81
returns-in-81 c t =
    writes (row_meaning c.args.r) t c.stretch_of-in-81.result c.in-81.is c.stretch_of-in-81.ensures

pub returns-in_default : goal.returns-in_default
unfolding statement_of_row
returns-in_default c t =
    let kind = c.args.r.kind in
    let none : (n : ℕ) → (kind ≡ n → ⊥) → eqb kind n ≡ false = ne_eqb kind in
    record {
      means =
          rw (
            none 16 (search rules),
            none 17 (search rules),
            none 32 (search rules),
            none 33 (search rules),
            none 34 (search rules),
            none 35 (search rules),
            none 48 (search rules),
            none 49 (search rules),
            none 50 (search rules),
            none 64 (search rules),
            none 65 (search rules),
            none 80 (search rules),
            none 81 (search rules),
          );
      stretches = tt;
    }
