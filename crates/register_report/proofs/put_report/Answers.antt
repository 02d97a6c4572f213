-- `register_report::put_report` meets its contract: the lines, and the TOTAL lines behind them.
use mathlib.Core.Path.{sym}
use native.Mathlib.Omega.{arith}
use lib.Seq.{length-take-le}
use Rattle.register_report.specs.PutLaws.{report-done, report_full, report_small, size_is, totals_fit}
use Rattle.register_report.proofs.put_report.Goals as goal

pub overflow_add-size : goal.overflow_add-size
overflow_add-size c =
    let t = c.make_totals-sizes in
    omega (
      arith,
      report_small c.args.register.buffer.now c.args.register.lines c.args.register.counted,
      size_is c.args.register.buffer.now c.args.register.lines c.args.register.counted t.new.out t.result t.ensures,
    )

pub returns-then-output-size : goal.returns-then-output-size
returns-then-output-size c =
    let t = c.make_totals-sizes in
    report_full c.args.register.buffer.now c.args.register.lines c.args.register.counted t.new.out t.result t.ensures c.args.output.now
    (omega arith)

pub slice_bounds-write-end : goal.slice_bounds-write-end
slice_bounds-write-end c =
    let t = c.make_totals-sizes in
    sym (length-take-le t.result.totals t.new.out t.ensures.put.within)

pub write-requires : goal.write-requires
write-requires c =
    let t = c.make_totals-sizes in
    let l = c.put_lines-at in
    totals_fit c.args.register.buffer.now c.args.register.lines c.args.register.counted t.new.out t.result t.ensures c.args.output.now
    (omega arith) l.new.output l.result l.ensures

pub overflow_cast-result : goal.overflow_cast-result
overflow_cast-result c =
    let t = c.make_totals-sizes in
    record {
      fits = omega (
        arith,
        report_small c.args.register.buffer.now c.args.register.lines c.args.register.counted,
        size_is c.args.register.buffer.now c.args.register.lines c.args.register.counted t.new.out t.result t.ensures,
      );
    }

pub returns : goal.returns
returns c =
    let t = c.make_totals-sizes in
    let l = c.put_lines-at in
    let w = c.write in
    report-done c.args.register.buffer.now c.args.register.lines c.args.register.counted t.new.out t.result t.ensures c.args.output.now
    (omega arith) l.new.output l.result l.ensures w.new.out w.ensures
