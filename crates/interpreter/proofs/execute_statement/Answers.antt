-- `execute_statement` meets its contract: each kind of statement is carried out by its own function.
use mathlib.Core.Path.{◌≡◌, sym}
use Prim.Native.Nat.{◌+◌, ◌<◌, ◌^◌}
use native.Mathlib.Omega.{arith}
use lib.ListN.{length, take, get_or}
use lib.Seq.{length-take-le}
use Rattle.calls.specs.Calls.{buffers}
use Rattle.scan_statement.specs.Scans.{holds_scannable}
use Rattle.interpreter.specs.Clauses.{StepGoing}
use Rattle.interpreter.specs.Laws.{allowed_going, going_standing, going_ready, going_holds, going_returns, executes_works, works_next}
use Rattle.interpreter.specs.Laws.{few_returns, next_inside, place_inside, written_inside}
use Rattle.interpreter.proofs.execute_statement.Goals.{After-statement_at}
use Rattle.interpreter.proofs.execute_statement.Goals as goal

pub statement_at-requires : goal.statement_at-requires
statement_at-requires c =
    let inside = next_inside c.requires.allowed.given in
    (c.requires.allowed.given.bytes, omega (arith, inside.0, inside.1, c.next_step.ensures))

going : (c : After-statement_at)
    → (let a = c.args in
    StepGoing a.table.now a.input.now (buffers a.store.now a.state.now a.output.now) c.statement_at.result)
going c = allowed_going c.requires.allowed c.next_step.ensures c.statement_at.ensures

-- the front of the values has room for a string
room : (c : After-statement_at) → length (take 1024 c.args.values.now) ≡ 1024
room c = length-take-le 1024 c.args.values.now (omega (arith, c.told-values))

-- the step behind the next one has a number
behind : (c : After-statement_at) → get_or c.args.state.now 1 0 + 1 < 2 ^ 64
behind c =
    let inside = next_inside c.requires.allowed.given in
    omega (arith, inside.0, inside.1)

pub set_number-requires : goal.set_number-requires
set_number-requires c =
    let g = going (goal.at.set_number-requires c).After-statement_at in
    let holds = going_holds g c.in-SetNumber.is in record {
      valuable = record { bytes = g.given.bytes; ready = going_ready g; items = holds.1 };
      place_bound = (holds.0, behind (goal.at.set_number-requires c).After-statement_at);
    }

pub slice_bounds-set_string-end : goal.slice_bounds-set_string-end
slice_bounds-set_string-end c = omega (arith, c.told-values)

pub slice_bounds-set_string-end-in-SetString : goal.slice_bounds-set_string-end-in-SetString
slice_bounds-set_string-end-in-SetString c = sym (room (goal.at.slice_bounds-set_string-end-in-SetString c).After-statement_at)

pub set_string-requires : goal.set_string-requires
set_string-requires c =
    let g = going (goal.at.set_string-requires c).After-statement_at in
    let holds = going_holds g c.in-SetString.is in record {
      value_spellable = record {
        bytes = g.given.bytes;
        ready = going_ready g;
        elements = holds.1;
      };
      part_holds = (holds.0, behind (goal.at.set_string-requires c).After-statement_at);
      out_len = room (goal.at.set_string-requires c).After-statement_at;
    }

pub if_null-requires : goal.if_null-requires
if_null-requires c =
    let g = going (goal.at.if_null-requires c).After-statement_at in
    let holds = going_holds g c.in-IfNull.is in
    ((going_ready g).strings, holds.0)

pub if_numeric-requires : goal.if_numeric-requires
if_numeric-requires c =
    let g = going (goal.at.if_numeric-requires c).After-statement_at in
    let holds = going_holds g c.in-IfNumeric.is in record {
      memory_ready = going_ready g;
      part_holds = holds.0;
    }

pub if_compares-requires : goal.if_compares-requires
if_compares-requires c =
    let g = going (goal.at.if_compares-requires c).After-statement_at in
    let holds = going_holds g c.in-If.is in record {
      memory_ready = going_ready g;
      if_holds = holds.0;
    }

pub scan-requires : goal.scan-requires
scan-requires c =
    let read = (goal.at.scan-requires c).After-statement_at in
    let pre = c.requires in
    let g = going read in
    let holds = going_holds g c.in-Scan.is in record {
      scannable = holds_scannable g.given.bytes (going_ready g) holds;
      kept_good = pre.kept_good;
    }

pub read-requires : goal.read-requires
read-requires c =
    let g = going (goal.at.read-requires c).After-statement_at in
    let holds = going_holds g c.in-Read.is in record {
      memory_ready = going_ready g;
      part_holds = (holds.0, place_inside g.given);
    }

pub slice_bounds-write-end : goal.slice_bounds-write-end
slice_bounds-write-end c = omega (arith, c.told-values)

pub slice_bounds-write-end-in-Write : goal.slice_bounds-write-end-in-Write
slice_bounds-write-end-in-Write c = sym (room (goal.at.slice_bounds-write-end-in-Write c).After-statement_at)

pub write-requires : goal.write-requires
write-requires c =
    let g = going (goal.at.write-requires c).After-statement_at in
    let holds = going_holds g c.in-Write.is in record {
      value_spellable = record {
        bytes = g.given.bytes;
        ready = going_ready g;
        elements = holds;
      };
      state_writable = (record { size = g.given.size; written = written_inside g.given }, behind (goal.at.write-requires c).After-statement_at);
      out_len = room (goal.at.write-requires c).After-statement_at;
    }

pub execute-requires : goal.execute-requires
execute-requires c =
    let g = going (goal.at.execute-requires c).After-statement_at in
    (going_returns g c.in-Execute.is, behind (goal.at.execute-requires c).After-statement_at)

pub return_to-requires : goal.return_to-requires
return_to-requires c =
    let g = going (goal.at.return_to-requires c).After-statement_at in (
      going_returns g c.in-Return.is,
      few_returns g.given,
    )

pub returns-in-SetNumber : goal.returns-in-SetNumber
returns-in-SetNumber c =
    let read = (goal.at.returns-in-SetNumber c).After-statement_at in
    let pre = c.requires in
    let g = going read in record {
      works_on = executes_works g c.in-SetNumber.is pre.answer_value
          (c.set_number.ensures _ _ _ (going_standing g));
      kept_stays = pre.kept_good;
    }

pub returns-in-SetString : goal.returns-in-SetString
returns-in-SetString c =
    let read = (goal.at.returns-in-SetString c).After-statement_at in
    let pre = c.requires in
    let g = going read in record {
      works_on = executes_works g c.in-SetString.is pre.answer_value
          (c.set_string.ensures _ _ _ (going_standing g));
      kept_stays = pre.kept_good;
    }

pub returns-in-Goto : goal.returns-in-Goto
returns-in-Goto c =
    let read = (goal.at.returns-in-Goto c).After-statement_at in
    let pre = c.requires in
    let g = going read in record {
      works_on = executes_works g c.in-Goto.is pre.answer_value
          (c.go_to.ensures _ _ _ _ (going_standing g));
      kept_stays = pre.kept_good;
    }

pub returns-in-Finish : goal.returns-in-Finish
returns-in-Finish c =
    let read = (goal.at.returns-in-Finish c).After-statement_at in
    let pre = c.requires in
    let g = going read in record {
      works_on = executes_works g c.in-Finish.is pre.answer_value
          (c.finish.ensures _ _ _ _ (going_standing g));
      kept_stays = pre.kept_good;
    }

pub returns-in-IfNull : goal.returns-in-IfNull
returns-in-IfNull c =
    let read = (goal.at.returns-in-IfNull c).After-statement_at in
    let pre = c.requires in
    let g = going read in record {
      works_on = executes_works g c.in-IfNull.is pre.answer_value
          (c.if_null.ensures _ _ _ (going_standing g));
      kept_stays = pre.kept_good;
    }

pub returns-in-IfNumeric : goal.returns-in-IfNumeric
returns-in-IfNumeric c =
    let read = (goal.at.returns-in-IfNumeric c).After-statement_at in
    let pre = c.requires in
    let g = going read in record {
      works_on = executes_works g c.in-IfNumeric.is pre.answer_value
          (c.if_numeric.ensures _ _ _ (going_standing g));
      kept_stays = pre.kept_good;
    }

pub returns-in-If : goal.returns-in-If
returns-in-If c =
    let read = (goal.at.returns-in-If c).After-statement_at in
    let pre = c.requires in
    let g = going read in record {
      works_on = executes_works g c.in-If.is pre.answer_value
          (c.if_compares.ensures _ _ _ (going_standing g));
      kept_stays = pre.kept_good;
    }

pub returns-in-Scan : goal.returns-in-Scan
returns-in-Scan c =
    let g = going (goal.at.returns-in-Scan c).After-statement_at in record {
      works_on = works_next g c.in-Scan.is
          (c.scan.ensures.does_scan _ _ _
          (going_standing g));
      kept_stays = c.scan.ensures.kept_stays;
    }

pub returns-in-Read : goal.returns-in-Read
returns-in-Read c =
    let read = (goal.at.returns-in-Read c).After-statement_at in
    let pre = c.requires in
    let g = going read in record {
      works_on = executes_works g c.in-Read.is pre.answer_value
          (c.read.ensures _ _ (going_standing g));
      kept_stays = pre.kept_good;
    }

pub returns-in-Write : goal.returns-in-Write
returns-in-Write c =
    let read = (goal.at.returns-in-Write c).After-statement_at in
    let pre = c.requires in
    let g = going read in record {
      works_on = executes_works g c.in-Write.is pre.answer_value
          (c.write.ensures _ _ (going_standing g));
      kept_stays = pre.kept_good;
    }

pub returns-in-Execute : goal.returns-in-Execute
returns-in-Execute c =
    let read = (goal.at.returns-in-Execute c).After-statement_at in
    let pre = c.requires in
    let g = going read in record {
      works_on = executes_works g c.in-Execute.is pre.answer_value
          (c.execute.ensures _ _ _ _ (going_standing g));
      kept_stays = pre.kept_good;
    }

pub returns-in-Return : goal.returns-in-Return
returns-in-Return c =
    let read = (goal.at.returns-in-Return c).After-statement_at in
    let pre = c.requires in
    let g = going read in record {
      works_on = executes_works g c.in-Return.is pre.answer_value
          (c.return_to.ensures _ _ _ _ (going_standing g));
      kept_stays = pre.kept_good;
    }
