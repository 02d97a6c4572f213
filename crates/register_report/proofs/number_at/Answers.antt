-- `register_report::number_at` meets its contract. The loop's invariant: the digits before the place are read.
use native.Mathlib.Omega.{arith}
use Rattle.register_report.specs.FieldLaws.{digit_here, field_comma, field_end, read_all, read_more, read_none, read_small}
use Rattle.register_report.proofs.number_at.Goals as goal

pub loop-end-init : goal.loop-end-init
loop-end-init c = read_none c.args.line.now c.args.at c.requires

pub returns-then-b-eq44 : goal.returns-then-b-eq44
returns-then-b-eq44 c =
    let l = c.loop-end in
    let read = read_all c.args.line.now c.args.at l.value l.end l.invariant
    (field_comma c.args.line.now l.end c.loop-end-test.true c.if-b-eq44.true) in
    record { number = read.0; ends = read.1 }

pub overflow_mul-value : goal.overflow_mul-value
overflow_mul-value c =
    let l = c.loop-end in
    omega (arith, read_small c.args.line.now c.args.at l.value l.end c.requires l.invariant)

pub overflow_sub-value : goal.overflow_sub-value
overflow_sub-value c =
    let l = c.loop-end in
    omega (arith, (digit_here c.args.line.now c.args.at l.value l.end l.invariant c.loop-end-test.true c.if-b-eq44.false).0)

pub overflow_cast-value : goal.overflow_cast-value
overflow_cast-value c =
    let l = c.loop-end in
    let b = digit_here c.args.line.now c.args.at l.value l.end l.invariant c.loop-end-test.true c.if-b-eq44.false in
    record { fits = omega (arith, b.1) }

pub overflow_add-value : goal.overflow_add-value
overflow_add-value c =
    let l = c.loop-end in
    omega (
      arith,
      read_small c.args.line.now c.args.at l.value l.end c.requires l.invariant,
      (digit_here c.args.line.now c.args.at l.value l.end l.invariant c.loop-end-test.true c.if-b-eq44.false).1,
    )

pub loop-end-preserved : goal.loop-end-preserved
loop-end-preserved c =
    let l = c.loop-end in
    read_more c.args.line.now c.args.at l.value l.end l.invariant c.loop-end-test.true c.if-b-eq44.false

pub returns : goal.returns
returns c =
    let l = c.loop-end in
    let read = read_all c.args.line.now c.args.at l.value l.end l.invariant (field_end c.args.line.now l.end (omega arith)) in
    record { number = read.0; ends = omega (arith, read.1, l.invariant.inside) }
