-- `evaluator::items_value` meets its contract. The loop's invariant: the whole comes to what the waiting numbers and the items left come to.
use mathlib.Core.Path.{sym}
use native.Mathlib.Omega.{arith}
use Rattle.std.proofs.lemmas.Result.{err_from_is_err_and}
use Rattle.evaluator.specs.Meaning.{memory_meaning}
use Rattle.evaluator.proofs.Valuing.{valuing_begins, valuing_one, valuing_ends, valuing_finds, valuing_noted, valuing_stops, valuing_more}
use Rattle.evaluator.proofs.items_value.Goals as goal

pub loop-at-init : goal.loop-at-init
loop-at-init c =
    valuing_begins (memory_meaning c.args.memory) c.args.table.now c.args.s.from c.args.s.count
    c.requires.1.whole

pub take_item-requires : goal.take_item-requires
take_item-requires c =
    let l = c.loop-at in
    let read = c.item_at-x in
    record {
      holds = c.requires.1.each l.at read.result (record { low = l.auto.at; high = c.loop-at-test.true }) read.ensures;
      waits = l.invariant.waits;
      finds = valuing_finds l.invariant c.loop-at-test.true read.result read.ensures;
    }

pub returns-in_err-notes : goal.returns-in_err-notes
returns-in_err-notes c =
    let read = c.item_at-x in
    let p = err_from_is_err_and c.from_residual.result c.from_residual.ensures.1 in
    rw (p.1, p.2)
    (record {
      work = sym (valuing_stops c.loop-at.invariant c.loop-at-test.true read.result read.ensures c.take_item.ensures c.in_err-notes.was);
      range = tt;
    })

pub overflow_add-notes : goal.overflow_add-notes
overflow_add-notes c =
    let l = c.loop-at in
    let read = c.item_at-x in
    let more = valuing_noted l.invariant c.loop-at-test.true read.result read.ensures c.take_item.ensures c.in_ok-notes.was in
    omega (arith, more, l.invariant.few, c.requires.1.inside)

pub loop-at-preserved : goal.loop-at-preserved
loop-at-preserved c =
    let read = c.item_at-x in
    valuing_more c.loop-at.invariant c.loop-at-test.true read.result read.ensures c.take_item.ensures c.in_ok-notes.was

pub pop-requires : goal.pop-requires
pop-requires c =
    let l = c.loop-at in
    record { waits = l.invariant.waits; some = omega (arith, valuing_one l.invariant c.loop-at-test.false) }

pub returns : goal.returns
returns c =
    record {
      work = sym (valuing_ends c.loop-at.invariant c.loop-at-test.false c.pop.ensures.0);
      range = c.pop.ensures.2;
    }
