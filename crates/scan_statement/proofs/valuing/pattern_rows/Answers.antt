-- `valuing::pattern_rows` meets its contract. The loop's invariant: the whole comes to the values so far and what the elements left come
use Prim.Native.Nat.{◌+◌}
use native.Mathlib.Omega.{arith}
use Rattle.std.proofs.lemmas.Result.{err_from_is_err_and}
use Rattle.evaluator.specs.Memory.{memory_in}
use Rattle.scan_statement.specs.ValuingLaws.{valuing_begins, valuing_ends, valuing_more, valuing_noted, valuing_stops}
use Rattle.scan_statement.proofs.valuing.pattern_rows.Goals.{After-put_element}
use Rattle.scan_statement.proofs.valuing.pattern_rows.Goals as goal

pub loop-i-init : goal.loop-i-init
loop-i-init c =
    let a = c.args in (
      valuing_begins (memory_in a.memory.store.now a.memory.state.now) a.table.now a.pattern.from a.pattern.count a.values.now a.rows.now
          a.names.now,
      c.told-rows,
      c.told-names,
    )

pub overflow_add-from : goal.overflow_add-from
overflow_add-from c =
    let l = c.loop-i in
    record { fits = omega (arith, c.requires.pattern.inside, c.loop-i-test.true) }

pub pattern_at-x-requires : goal.pattern_at-x-requires
pattern_at-x-requires c =
    (c.requires.bytes, omega (arith, c.requires.pattern.inside, c.loop-i-test.true))

pub put_element-requires : goal.put_element-requires
put_element-requires c =
    let l = c.loop-i in
    record {
      bytes = c.requires.bytes;
      searched = c.requires.searched;
      holds =
          c.requires.pattern.each (c.args.pattern.from + l.i) c.pattern_at-x.result
          (record { low = omega arith; high = omega (arith, c.loop-i-test.true) }) c.pattern_at-x.ensures;
      few = omega (arith, c.loop-i-test.true, c.requires.pattern.few);
    }

pub overflow_add-notes : goal.overflow_add-notes
overflow_add-notes c =
    let l = c.loop-i in
    let more =
    valuing_noted l.invariant.0 c.loop-i-test.true c.requires.pattern.few c.pattern_at-x.result c.pattern_at-x.ensures
    c.put_element.ensures c.in_ok-notes.was in
    omega (arith, more, l.invariant.0.few, l.invariant.0.most, c.requires.pattern.few)

pub returns-in_err-notes : goal.returns-in_err-notes
returns-in_err-notes c =
    let l = c.loop-i in
    let p = err_from_is_err_and c.from_residual.result c.from_residual.ensures.1 in
    rw (p.1, p.2)
    (valuing_stops l.invariant.0 c.loop-i-test.true c.requires.pattern.few c.pattern_at-x.result c.pattern_at-x.ensures
    c.put_element.ensures c.in_err-notes.was)

pub loop-i-preserved : goal.loop-i-preserved
loop-i-preserved c =
    let l = c.loop-i in
    let put = c.put_element in (
      valuing_more l.invariant.0 c.loop-i-test.true c.requires.pattern.few c.pattern_at-x.result c.pattern_at-x.ensures
          put.ensures c.in_ok-notes.was put.array_long l.invariant.1 l.invariant.2,
      put.array_long2,
      put.array_long3,
    )

pub returns : goal.returns
returns c = valuing_ends c.loop-i.invariant.0 c.loop-i-test.false
