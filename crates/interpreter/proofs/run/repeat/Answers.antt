-- `run::repeat` meets its contract. The loop's invariant: the run is the steps made with their notes, and the run of those that are left on
-- the buffers as they are, which may be given to a step; the store that keeps its fillers is a good one.
use mathlib.Core.Path.{ap, ◌≡◌, refl, sym, ◌∙◌}
use Prim.Native.Nat.{◌<◌}
use native.Mathlib.Omega.{arith}
use Rattle.calls.specs.Calls.{buffers}
use Rattle.interpreter.specs.Endings.{halted_number, step_number}
use Rattle.interpreter.specs.Laws.{zeros_good}
use Rattle.interpreter.specs.RunLaws.{alone_none, alone_ends, alone_more, alone_spent}
use Rattle.interpreter.specs.RunLaws.{repeats_none, repeats_halted, repeats_finished, repeats_more, repeats_all}
use Rattle.interpreter.proofs.run.repeat.Goals as goal

pub loop-done-init : goal.loop-done-init
loop-done-init c =
    let a = c.args in
    let b = buffers a.store.now a.state.now a.output.now in
    (repeats_none a.table.now a.input.now b a.count c.requires, zeros_good, alone_none a.table.now a.input.now b a.answer.now)

pub step_on-step-requires : goal.step_on-step-requires
step_on-step-requires c =
    record {
      given = c.loop-done.invariant.0.given;
      kept_good = c.loop-done.invariant.1;
    }

pub overflow_add-notes : goal.overflow_add-notes
overflow_add-notes c =
    let l = c.loop-done in
    let inside = rw c.in-Ok.is at c.step_on-step.type_inv in
    omega (arith, l.invariant.0.few, l.invariant.0.most, c.ranges.count, inside)

pub returns-in-Err : goal.returns-in-Err
returns-in-Err c =
    let s = c.step_on-step.ensures.step_taken in
    let at = c.loop-done in
    let below : at.done < c.args.count = omega arith in
    let halt = c.in-Err.halt in
    rw c.halted.ensures
    (record {
      run_answers = repeats_halted at.invariant.0 s below halt c.in-Err.is;
      step_answers = alone_ends at.invariant.2 s.answers below (halted_number halt at.done at.notes ∙ sym (ap step_number c.in-Err.is));
    })

pub returns-then-is_finished : goal.returns-then-is_finished
returns-then-is_finished c =
    let s = c.step_on-step.ensures.step_taken in
    let at = c.loop-done in
    let below : at.done < c.args.count = omega arith in
    record {
      run_answers = repeats_finished at.invariant.0 s below c.in-Ok.is (sym c.is_finished.ensures ∙ c.if-is_finished.true);
      step_answers = alone_ends at.invariant.2 s.answers below (sym (ap step_number c.in-Ok.is));
    }

pub loop-done-preserved : goal.loop-done-preserved
loop-done-preserved c =
    let s = c.step_on-step in
    let taken = s.ensures.step_taken in
    let at = c.loop-done in
    let below : at.done < c.args.count = omega arith in (
      repeats_more at.invariant.0 taken below c.in-Ok.is (sym c.is_finished.ensures ∙ c.if-is_finished.false)
          (let inside = rw c.in-Ok.is at s.type_inv in omega (arith, inside)),
      s.ensures.kept_stays,
      alone_more at.invariant.2 taken.answers (ap step_number c.in-Ok.is),
    )

pub returns : goal.returns
returns c =
    let at = c.loop-done in
    let all : at.done ≡ c.args.count = omega arith in
    record {
      run_answers = repeats_all at.invariant.0 all;
      step_answers = alone_spent at.invariant.2 at.invariant.0.most (λ below. omega (arith, below, all)) refl;
    }
