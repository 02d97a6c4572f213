-- `register_report::make_totals` meets its contract: the lines weighed, and the TOTAL lines of these. The loop's invariant: the lines before the place
-- are weighed, with their bytes.
use Rattle.std.proofs.Common.{◌≡◌, arith, subst, sym}
use Rattle.register.specs.Buffer.{register_in}
use Rattle.register_report.specs.PutLaws.{FilledTo, bytes_fit, columns_fit, filled_columns, filled_none, filled_size, line-filled, line_good, worths_few}
use Rattle.register_report.specs.Sums.{WorthsFit, WorthsOf}
use Rattle.register_report.proofs.make_totals.Goals as goal

pub loop-place-init : goal.loop-place-init
loop-place-init c = filled_none (register_in c.args.register.buffer.now).lines _ c.new-worths.ensures

pub worth_of-requires : goal.worth_of-requires
worth_of-requires c =
    let r = c.args.register in
    let e = c.line-line in
    line_good r.buffer.now r.lines r.counted c.loop-place.place c.loop-place-test.true e.result.now e.ensures

pub push-requires : goal.push-requires
push-requires c =
    let r = c.args.register in
    let l = c.loop-place in
    let e = c.line-line in
    let few = worths_few r.buffer.now r.lines r.counted l.place c.loop-place-test.true e.result.now e.ensures l.worths.items l.lines l.invariant in
    (omega arith, omega (arith, few))

pub overflow_add-lines-in-loop-place : goal.overflow_add-lines-in-loop-place
overflow_add-lines-in-loop-place c =
    let r = c.args.register in
    let l = c.loop-place in
    let e = c.line-line in
    omega (
      arith,
      bytes_fit r.buffer.now r.lines r.counted l.place c.loop-place-test.true e.result.now e.ensures l.worths.items l.lines l.invariant,
    )

pub loop-place-preserved : goal.loop-place-preserved
loop-place-preserved c =
    let r = c.args.register in
    let l = c.loop-place in
    let e = c.line-line in
    line-filled r.buffer.now r.lines r.counted l.place c.loop-place-test.true e.result.now e.ensures l.worths.items l.lines l.invariant
    c.push.new.self.items c.worth_of.result c.push.ensures.items c.worth_of.ensures

pub put_totals-totals-requires : goal.put_totals-totals-requires
put_totals-totals-requires c =
    let r = c.args.register in
    let l = c.loop-place in
    let lines = (register_in r.buffer.now).lines in
    let all : l.place ≡ r.lines = omega arith in
    let filled = subst (FilledTo lines l.worths.items l.lines) all l.invariant in
    subst WorthsFit (sym c.as_slice.ensures.value) (columns_fit lines _ (filled_columns r.buffer.now r.lines r.counted l.worths.items l.lines filled))

pub returns : goal.returns
returns c =
    let r = c.args.register in
    let l = c.loop-place in
    let lines = (register_in r.buffer.now).lines in
    let all : l.place ≡ r.lines = omega arith in
    let filled = subst (FilledTo lines l.worths.items l.lines) all l.invariant in
    record {
      size = filled_size r.buffer.now r.lines r.counted l.worths.items l.lines filled;
      put = c.put_totals-totals.ensures lines
          (subst (WorthsOf lines) (sym c.as_slice.ensures.value) (filled_columns r.buffer.now r.lines r.counted l.worths.items l.lines filled));
    }
