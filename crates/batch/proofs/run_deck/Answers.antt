-- `batch::run_deck` meets its contract. A refused deck has its line; behind an accepted one's run stand the records, and the line behind them.
use mathlib.Core.List.{List, ◌++◌}
use mathlib.Core.Path.{◌≡◌, sym, ap, ◌∙◌}
use Prim.Native.Nat.{ℕ, ◌+◌, ◌≤◌}
use native.Mathlib.Omega.{arith}
use lib.ListN.{length, take, drop, replicate, length-replicate}
use lib.Seq.{length-take-le, length_front}
use Rattle.base.specs.Current.{current, table_size}
use Rattle.encoding.specs.Buffers.{store_size}
use Rattle.calls.specs.Calls.{Buffers}
use Rattle.calls.specs.Promises.{read_back}
use Rattle.calls.specs.Strigol.{lent_output, most_steps}
use Rattle.base.specs.Text.{bytes}
use Rattle.interpreter.specs.Endings.{outcome_meaning, ran_back}
use Rattle.batch.specs.Printing.{longest_line}
use Rattle.batch.specs.PrintLaws.{word_short, refused_line, refused_printed, RunPrints, run-printed, ran-prints}
use Rattle.batch.proofs.run_deck.Goals.{After-run-ran}
use Rattle.batch.proofs.run_deck.Goals as goal

-- the output lent is a part of what is lent
room : (out : List ℕ) → length out ≡ lent_output + longest_line → 16384 ≤ length out
unfolding lent_output
room out e = omega arith

-- behind the run, as many bytes as before
lent_back : (c : After-run-ran)
    → length (c.run-ran.new.output ++ drop 16384 c.args.out.now) ≡ length c.args.out.now
lent_back c = length_front c.args.out.now c.run-ran.new.output 16384 c.run-ran.auto.output

-- and the run leaves as much output as it was lent
output-back : (c : After-run-ran) → length c.run-ran.new.output ≡ 16384
output-back c = c.run-ran.auto.output ∙ length-take-le 16384 c.args.out.now (room c.args.out.now c.requires.room)

-- the buffers that the run leaves
abbrev lent_after : After-run-ran → Buffers
lent_after c = let ran = c.run-ran in record { store = ran.new.store; state = ran.new.state; output = ran.new.output }

-- the run leaves what is printed
printing : (c : After-run-ran) →
    let ran = c.run-ran in
    RunPrints c.args.deck.now c.args.input.now (ran_back ran.result (lent_after c))
unfolding lent_output most_steps
printing c =
    let read = c.strigol_read-number in
    run-printed (replicate table_size 0) (replicate store_size 0) (take 16384 c.args.out.now) read.new.card
    (ap (λ (n : ℕ). read_back n read.new.card read.new.table) (sym c.if-number-ne0.false) ∙ read.ensures.does)
    c.strigol_start.ensures.does
    c.run-ran.ensures
    (omega (arith, length-replicate {A = ℕ} store_size 0))
    (length-take-le 16384 c.args.out.now (room c.args.out.now c.requires.room))
    c.requires.kept_input_lem

pub returns-then-number-ne0 : goal.returns-then-number-ne0
unfolding current bytes
returns-then-number-ne0 c =
    let read = c.strigol_read-number in
    let put = c.put_line.ensures in
    record {
      within = put.within;
      bytes = put.holds
          ∙ refused_line read.result read.new.card
          ∙ sym
          (refused_printed c.args.deck.now c.args.input.now (replicate table_size 0) c.requires.kept_deck_lem
          (read_back read.result read.new.card read.new.table) read.ensures.does (omega (arith, length-replicate {A = ℕ} table_size 0))
          c.if-number-ne0.true);
    }

pub slice_bounds-run-end-3 : goal.slice_bounds-run-end-3
slice_bounds-run-end-3 c = room c.args.out.now c.requires.room

pub slice_bounds-run-end-4 : goal.slice_bounds-run-end-4
slice_bounds-run-end-4 c =
    sym (length-take-le 16384 c.args.out.now (room c.args.out.now c.requires.room))

pub put_line-requires-2 : goal.put_line-requires-2
unfolding lent_output
put_line-requires-2 c =
    let ran = (goal.at.put_line-requires-2 c).After-run-ran in
    let word = word_short (outcome_meaning ran.run-ran.result.outcome) in
    (rw c.word.ensures word, omega (arith, (printing ran).within, output-back ran, lent_back ran, c.requires.room))

pub shape_of-out : goal.shape_of-out
shape_of-out c =
    let ran = (goal.at.shape_of-out c).After-run-ran in
    c.put_line-2.ensures.size ∙ lent_back ran

pub returns : goal.returns
unfolding lent_output
returns c =
    let ran = (goal.at.returns c).After-run-ran in
    ran-prints ran.run-ran.result (lent_after ran) (drop 16384 c.args.out.now) c.word.ensures c.number.ensures (printing ran) c.put_line-2.ensures
