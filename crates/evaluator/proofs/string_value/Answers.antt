-- `evaluator::string_value` meets its contract. The loop's invariant: the whole comes to the bytes so far and what the elements left come to.
use Prim.Native.Nat.{◌≤◌}
use native.Mathlib.Omega.{arith}
use Rattle.std.proofs.lemmas.Result.{err_from_is_err_and}
use Rattle.base.specs.Current.{table_size}
use Rattle.evaluator.specs.Meaning.{memory_meaning}
use Rattle.evaluator.proofs.Spelling.{spelling_begins, spelling_ends, spelling_noted, spelling_stops, spelling_more}
use Rattle.evaluator.proofs.string_value.Goals.{In_ok-more}
use Rattle.evaluator.proofs.string_value.Goals as goal

pub loop-at-init : goal.loop-at-init
loop-at-init c =
    spelling_begins (memory_meaning c.args.memory) c.args.table.now c.args.s.from c.args.s.count
    c.args.out.now c.requires.out_len

pub append_element-requires : goal.append_element-requires
append_element-requires c =
    let l = c.loop-at in
    let read = c.element_at-x in
    record {
      bytes = c.requires.elements_hold.0;
      holds = c.requires.elements_hold.1.each l.at read.result (record { low = l.auto.at; high = c.loop-at-test.true }) read.ensures;
      room = l.invariant.room;
    }

-- what an element adds: few bytes, and at most one note
noted : (c : In_ok-more) → (c.in_ok-more.more.value ≤ table_size) × (c.in_ok-more.more.notes ≤ 1)
noted c =
    let read = c.element_at-x in
    spelling_noted c.loop-at.invariant c.loop-at-test.true read.result read.ensures c.append_element.ensures c.in_ok-more.was

pub returns-in_err-more : goal.returns-in_err-more
returns-in_err-more c =
    let read = c.element_at-x in
    let p = err_from_is_err_and c.from_residual.result c.from_residual.ensures.1 in
    rw (p.1, p.2)
    (record {
      spelt = spelling_stops c.loop-at.invariant c.loop-at-test.true read.result read.ensures c.append_element.ensures c.in_err-more.was;
      room = c.append_element.ensures.room;
    })

pub overflow_add-length : goal.overflow_add-length
overflow_add-length c = omega (arith, (noted (goal.at.overflow_add-length c).In_ok-more).0, c.loop-at.invariant.short, c.requires.elements_hold.1.few)

pub overflow_add-notes : goal.overflow_add-notes
overflow_add-notes c = omega (arith, (noted (goal.at.overflow_add-notes c).In_ok-more).1, c.loop-at.invariant.few, c.requires.elements_hold.1.few)

pub loop-at-preserved : goal.loop-at-preserved
loop-at-preserved c =
    let read = c.element_at-x in
    spelling_more c.loop-at.invariant c.loop-at-test.true read.result read.ensures c.append_element.ensures c.in_ok-more.was

pub returns : goal.returns
returns c =
    let l = c.loop-at in
    record { spelt = spelling_ends l.invariant c.loop-at-test.false; room = l.invariant.room }
