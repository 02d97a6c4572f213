-- `register_report::sums_of` meets its contract. The loop's invariant: with the sums of the lines left they are the sums of all.
use Rattle.std.proofs.Common.{arith}
use Rattle.std.proofs.lemmas.List.{length-map}
use Rattle.register_report.specs.SumLaws.{line_count, line_here, line_past, line_value, line_weight, summed_all, summed_none}
use Rattle.register_report.specs.Sums.{codes_in, tonnes_in, values_in}
use Rattle.register_report.proofs.sums_of.Goals as goal
use Rattle.register_report.proofs.sums_of.Goals.{then-worth-code, else-worth-code}

pub loop-worth-init : goal.loop-worth-init
loop-worth-init c = let a = c.args in summed_none a.code (codes_in a.worths.now) (tonnes_in a.worths.now) (values_in a.worths.now)

pub overflow_add-count : goal.overflow_add-count
overflow_add-count c =
    let l = c.loop-worth in
    omega (arith, line_count c.args.code c.args.worths.now c.requires l.count l.tonnes l.value l.worth-index l.invariant c.loop-worth-test.true _ c.if-worth-code.true)

pub overflow_add-tonnes : goal.overflow_add-tonnes
overflow_add-tonnes c =
    let l = c.loop-worth in
    omega (arith, line_weight c.args.code c.args.worths.now c.requires l.count l.tonnes l.value l.worth-index l.invariant c.loop-worth-test.true _ c.if-worth-code.true)

pub overflow_add-value : goal.overflow_add-value
overflow_add-value c =
    let l = c.loop-worth in
    omega (arith, line_value c.args.code c.args.worths.now c.requires l.count l.tonnes l.value l.worth-index l.invariant c.loop-worth-test.true _ c.if-worth-code.true)

pub loop-worth-preserved : goal.loop-worth-preserved
loop-worth-preserved c =
    let l = c.loop-worth in
    let a = c.args in
    elim c.if-worth-code.branch [
      | then-worth-code w ↦
          rw (w.count-is, w.tonnes-is, w.value-is)
          (line_here a.code a.worths.now c.requires l.count l.tonnes l.value l.worth-index l.invariant c.loop-worth-test.true _ w.if-worth-code.true)
      | else-worth-code w ↦
          rw (w.count-is, w.tonnes-is, w.value-is)
          (line_past a.code a.worths.now c.requires l.count l.tonnes l.value l.worth-index l.invariant c.loop-worth-test.true _ w.if-worth-code.false)
    ]

pub returns : goal.returns
returns c =
    let l = c.loop-worth in
    let a = c.args in
    summed_all a.code (codes_in a.worths.now) (tonnes_in a.worths.now) (values_in a.worths.now) c.requires l.count l.tonnes l.value l.worth-index
    l.invariant (omega (arith, length-map a.worths.now (λ w. w.code)))
