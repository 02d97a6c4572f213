-- A call that keeps its equation keeps its whole promise. Assumes nothing.
use Rattle.std.specs.Prelude.{List, ◌≡◌, refl, ℕ, ◌+◌, ◌≤◌, ◌<◌, length}
use Rattle.std.proofs.Common.{sym, ◌∙◌, ap}
use Rattle.std.proofs.Math.Path.{subst}
use Rattle.base.specs.Current.{current}
use Rattle.base.specs.Edition.{Edition}
use Rattle.validation.specs.Deck.{accepted}
use Rattle.machine.specs.Costs.{StepWithin}
use Rattle.scanning.specs.Call.{no_answer, trials_in}
use Rattle.scanning.specs.Costs.{TrialsWithin}
use Rattle.values.specs.Conversion.{longest_string}
use Rattle.encoding.specs.Buffers.{state_size}
use Rattle.calls.specs.Calls.{ReadCalled, read_call, Buffers, StepCalled, step_call, RunReturned, returned, run_call}
use Rattle.calls.specs.DemandLaws.{accepted_tabled, demand3}
use Rattle.encoding.specs.Conditions.{current-limit, current_wide, current_size}
use Rattle.calls.specs.Costs.{steps_size, size_given}
use Rattle.calls.specs.CostLaws.{call_within, call_most, after_within}
use Rattle.calls.specs.Demands.{Linked, observed_run, observed_step, steps_tried}
use Rattle.encoding.specs.Numerals.{bias}
use Rattle.calls.specs.Promises.{HoldsProgram, ReadPromise, Keeps, StepPromise, RunPromise}
use Rattle.calls.specs.RunLaws.{run_tried}
use Rattle.calls.specs.StartLaws.{read_accepted}
use Rattle.calls.specs.StopLaws.{LastKeeps, step_keeps, step_silent, run_keeps}
use Rattle.encoding.specs.Table.{literals_at}

-- numbers fit their places, and tables and string lengths their sizes
module _ (e : Edition) (limit : e.limit < bias) (wide : longest_string ≤ e.limit) (size : literals_at + 4096 ≤ e.table_size) where
  read_promised : (deck table : List ℕ) (back : ReadCalled) → back ≡ read_call e deck table → ReadPromise e deck table back
  read_promised deck table back does =
      record {
        does = does;
        holds =
            λ zero.
            let number = sym (ap (λ x. x.number) does) ∙ zero in
            let judged = read_accepted e deck table number in
            let t = accepted_tabled e limit wide size deck table judged.0 judged.1 number in
            subst (λ (x : ReadCalled). HoldsProgram e deck x.table) (sym does)
            (record { accepts = judged.1 ∙ ap accepted (sym t.reads); keeps = t.keeps });
      }

  module _ (table input : List ℕ) (b : Buffers) where
    step_promised : (back : StepCalled) → length b.state ≡ state_size → back ≡ step_call e table input b → StepPromise e table input b back
    unfolding Linked
    step_promised back sized does =
        record {
          does = does;
          keeps = subst (λ (x : StepCalled). Keeps b x.number x.left) (sym does) (step_keeps e table input b limit wide sized);
          silent =
              subst (λ (x : StepCalled). ¬ (x.number ≡ 0) → x.answer ≡ no_answer) (sym does) (step_silent e table input b limit wide sized);
          list = λ h. demand3 e limit wide size table input b h (observed_step b back) back.left (refl, does, refl);
          trials =
              subst (λ (x : StepCalled). StepWithin (size_given e table input b) (trials_in x.answer)) (sym does) (call_within e table input b);
          most = subst (λ (x : StepCalled). TrialsWithin (steps_size 1) (trials_in x.answer)) (sym does) (call_most e table input b);
        }

    run_promised : (count : ℕ) (back : RunReturned) → (0 < count → length b.state ≡ state_size)
        → back ≡ returned (run_call e table input count b) → RunPromise e table input count b back
    unfolding Linked returned
    run_promised count back sized does =
        record {
          does = does;
          keeps =
              λ some.
              subst (LastKeeps e table input b) (sym does)
              (run_keeps e table input limit wide count b sized (λ none. some (ap (λ x. x.number) does ∙ none)));
          list = λ h. demand3 e limit wide size table input b h (observed_run count b back) back.left (refl, does, refl);
          tried = subst (λ (x : RunReturned). steps_tried x ≤ count) (sym does) (run_tried e table input count b);
          trials = after_within e table input (steps_tried back) b;
        }

-- of edition 1
pub read_promise : {deck table : List ℕ} {back : ReadCalled} → back ≡ read_call current deck table → ReadPromise current deck table back
read_promise {deck} {table} {back} = read_promised current current-limit current_wide current_size deck table back

module _ {table input : List ℕ} {b : Buffers} where
  pub step_promise : {back : StepCalled} → length b.state ≡ state_size → back ≡ step_call current table input b
      → StepPromise current table input b back
  step_promise {back} = step_promised current current-limit current_wide current_size table input b back

  pub run_promise : {count : ℕ} {back : RunReturned} → (0 < count → length b.state ≡ state_size)
      → back ≡ returned (run_call current table input count b) → RunPromise current table input count b back
  run_promise {count} {back} = run_promised current current-limit current_wide current_size table input b count back
