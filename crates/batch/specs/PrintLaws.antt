-- What is printed for a deck that is refused, and for one that ran. Assumes nothing.
use Rattle.std.specs.Prelude.{Bool, true, false, cond, ◌≡◌, refl, ℕ, ◌≤◌, ltb, take}
use mathlib.Core.List.{List, [], ◌++◌}
use Rattle.std.proofs.Math.Path.{sym, ap}
use Rattle.std.proofs.Common.{ap₂, subst, ◌∙◌, arith, take_all, le-ltb}
use Rattle.std.proofs.Math.ListN.{length, get_or, length-take}
use Rattle.std.proofs.lemmas.List.{take-append-le}
use Rattle.base.specs.Current.{current}
use Rattle.base.specs.Limits.{longest_deck}
use Rattle.base.specs.Text.{bytes}
use Rattle.encoding.specs.Buffers.{store_size, state_in}
use Rattle.calls.specs.Calls.{ReadCalled, read_by, read_judged, read_call, StartCalled, start_call, Buffers, buffers, given_in}
use Rattle.calls.specs.Calls.{RunReturned, outcome_number, result_numbers}
use Rattle.calls.specs.Demands.{observed_run, RunClaim, ListClaim, Linked, History, Demand3}
use Rattle.calls.specs.Promises.{read_back, RunPromise}
use Rattle.calls.specs.StartLaws.{read_short}
use Rattle.calls.specs.Strigol.{kept_deck, kept_input, lent_output, most_steps, outcome_word, closing_line, printed_by, printed_for, printed}
use Rattle.validation.specs.Deck.{Judgement, accepted, refused, judge}
use Rattle.syntax.specs.Program.{Program}
use Rattle.machine.specs.Run.{Outcome, FINISHED, STOPPED, SPENT, REFUSED, Ran, run}
use Rattle.machine.specs.State.{State, fresh}
use Rattle.interpreter.specs.Endings.{outcome_meaning, ended_number, ran_back}
use Rattle.interpreter.specs.declared.run.Ran as code
use Rattle.printing.specs.Printing.{Put, numbers_text}
use Rattle.batch.specs.Printing.{longest_word, outcome_of, line_of, Prints}

-- the buffers behind a start, with the output lent
abbrev pub behind_start : StartCalled → List ℕ → Buffers
behind_start start output = buffers start.store start.state output

-- no word is longer than that
pub word_short : (o : Outcome) → length (outcome_word o) ≤ longest_word
unfolding outcome_word bytes
word_short FINISHED = omega arith
word_short STOPPED = omega arith
word_short SPENT = omega arith
word_short REFUSED = omega arith

-- a closing line is a word and its numbers
pub closing_parts : (o : Outcome) (number steps notes : ℕ) → outcome_word o ++ numbers_text number steps notes ≡ closing_line o number steps notes
unfolding closing_line numbers_text
closing_parts o number steps notes = refl

pub refused_line : (number card : ℕ) → bytes "REFUSED" ++ numbers_text number card 0 ≡ closing_line REFUSED number card 0
unfolding outcome_word
refused_line number card = closing_parts REFUSED number card 0

-- an outcome is told by its number
outcome_of_lem : (o : Outcome) → outcome_of (outcome_number o) ≡ o
unfolding outcome_of outcome_number
outcome_of_lem FINISHED = refl
outcome_of_lem STOPPED = refl
outcome_of_lem SPENT = refl
outcome_of_lem REFUSED = refl

-- the closing line of a run's result
line_of_lem : (o : Outcome) (number steps notes : ℕ) → line_of (result_numbers o number steps notes) ≡ closing_line o number steps notes
unfolding line_of result_numbers
line_of_lem o number steps notes = ap (λ (x : Outcome). closing_line x number steps notes) (outcome_of_lem o)

-- of a deck of which no more is there than is kept
printed-kept : (deck input : List ℕ) → length deck ≤ kept_deck
    → printed current deck input
    ≡ cond (ltb longest_deck (length deck)) (closing_line REFUSED 1 0 0) (printed_for current (take kept_input input) (judge current deck))
unfolding printed
printed-kept deck input kept =
    ap (λ (d : List ℕ). cond (ltb longest_deck (length d)) (closing_line REFUSED 1 0 0) (printed_for current (take kept_input input) (judge current d)))
    (take_all kept_deck deck kept)

-- a deck that the deck call refuses, given a table that is large enough: too long a one, or one that is judged so
refused_by : (input table : List ℕ) (long : Bool) (j : Judgement) (back : ReadCalled) → back ≡ read_by current table long false j
    → ¬ (back.number ≡ 0)
    → cond long (closing_line REFUSED 1 0 0) (printed_for current input j) ≡ closing_line REFUSED back.number back.card 0
unfolding read_judged printed_for
refused_by input table true j back e h = ap (λ (b : ReadCalled). closing_line REFUSED b.number b.card 0) (sym e)
refused_by input table false (accepted p) back e h = absurd (h (ap (λ (b : ReadCalled). b.number) e))
refused_by input table false (refused n card) back e h = ap (λ (b : ReadCalled). closing_line REFUSED b.number b.card 0) (sym e)

pub refused_printed : (deck input table : List ℕ) → length deck ≤ kept_deck → (back : ReadCalled) → back ≡ read_call current deck table
    → current.table_size ≤ length table → ¬ (back.number ≡ 0)
    → printed current deck input ≡ closing_line REFUSED back.number back.card 0
unfolding read_call
refused_printed deck input table kept back does large refuses =
    let long = ltb longest_deck (length deck) in
    let sized = does ∙ ap (λ (t : Bool). read_by current table long t (judge current deck)) (le-ltb (length table) current.table_size large) in
    printed-kept deck input kept ∙ refused_by (take kept_input input) table long (judge current deck) back sized refuses

-- a deck that is accepted prints what its run leaves
accepted_printed : (deck input : List ℕ) (p : Program) → length deck ≤ longest_deck → length input ≤ kept_input
    → judge current deck ≡ accepted p → printed current deck input ≡ printed_by (run current p lent_output most_steps (fresh input))
unfolding printed_for kept_deck
accepted_printed deck input p short kept judged =
    printed-kept deck input (omega arith)
    ∙ ap (λ (t : Bool). cond t (closing_line REFUSED 1 0 0) (printed_for current (take kept_input input) (judge current deck)))
    (le-ltb longest_deck (length deck) short)
    ∙ ap₂ (λ (i : List ℕ) (j : Judgement). printed_for current i j) (take_all kept_input input kept) judged

-- The calls of a deck that is accepted: it was read into the table, a store was started, and a run of so many steps was made.
module _ (deck before table store input output : List ℕ) (card : ℕ) (start : StartCalled) (back : RunReturned)
    (read : read_back 0 card table ≡ read_call current deck before) (started : start ≡ start_call store)
    (promise : RunPromise current table input most_steps (behind_start start output) back) where
  -- nothing came behind the start but this run
  history : History current table input (behind_start start output)
  unfolding Linked
  history =
      record {
        deck = deck;
        before = before;
        card = card;
        read = read;
        store = store;
        start = start;
        started = started;
        output = output;
        calls = [];
        linked = refl;
      }

  -- demand 3, of the list that this run alone is
  demand : Demand3 current table input history (observed_run most_steps (behind_start start output) back)
  demand = promise.list history

  accepts : judge current deck ≡ accepted demand.program
  unfolding history
  accepts = demand.accepts

  module _ (large : store_size ≤ length store) (lent : length output ≡ lent_output) where
    claim : RunClaim current demand.program table input (length output) most_steps (fresh input) (behind_start start output) back
    unfolding history ListClaim
    claim = (demand.claim large).0

    -- the run that the paper's machine makes of the deck
    paper_run : Ran
    paper_run = run current demand.program (length output) most_steps (fresh input)

    -- the records are as many bytes of the output as the state says
    records : take (get_or back.left.state 4 0) back.left.output ≡ paper_run.state.output
    unfolding paper_run given_in state_in
    records = ap (λ (c : State). c.output) claim.leaves

    closing : line_of back.result ≡ closing_line paper_run.outcome paper_run.number paper_run.steps paper_run.notes
    unfolding paper_run
    closing =
        let r = run current demand.program (length output) most_steps (fresh input) in
        ap line_of claim.result ∙ line_of_lem r.outcome r.number r.steps r.notes

    printed-run : length input ≤ kept_input
        → printed current deck input ≡ take (get_or back.left.state 4 0) back.left.output ++ line_of back.result
    unfolding paper_run printed_by
    printed-run kept =
        accepted_printed deck input demand.program (read_short current deck before (sym (ap (λ (x : ReadCalled). x.number) read))) kept accepts
        ∙ ap (λ (n : ℕ). printed_by (run current demand.program n most_steps (fresh input))) (sym lent)
        ∙ sym (ap₂ {C = List ℕ} ◌++◌ records closing)

    -- so the state says no more than the output has
    within : get_or back.left.state 4 0 ≤ length back.left.output
    unfolding paper_run
    within =
        let n = get_or back.left.state 4 0 in
        omega (arith, claim.written, ap length records, length-take n back.left.output)

-- what a run left is what is printed: the records, and the closing line of its result
pub record RunPrints (deck input : List ℕ) (back : RunReturned) : Type 0 where
  pub within : get_or back.left.state 4 0 ≤ length back.left.output
  pub bytes : printed current deck input ≡ take (get_or back.left.state 4 0) back.left.output ++ line_of back.result

pub run-printed : {deck table input : List ℕ} {start : StartCalled} {back : RunReturned} (before store output : List ℕ) (card : ℕ)
    → read_back 0 card table ≡ read_call current deck before → start ≡ start_call store
    → RunPromise current table input most_steps (behind_start start output) back
    → store_size ≤ length store → length output ≡ lent_output → length input ≤ kept_input → RunPrints deck input back
run-printed {deck} {table} {input} {start} {back} before store output card read started promise large lent kept =
    record {
      within = within deck before table store input output card start back read started promise large lent;
      bytes = printed-run deck before table store input output card start back read started promise large lent kept;
    }

-- so with that line put behind the records, all is printed
pub run-prints : {deck input after : List ℕ} {back : RunReturned} {r : ℕ} (rest : List ℕ) → RunPrints deck input back
    → Put (back.left.output ++ rest) after (get_or back.left.state 4 0) (line_of back.result) r → Prints deck input after r
run-prints {back = back} rest p put =
    let records = take-append-le (get_or back.left.state 4 0) back.left.output rest p.within in
    record { within = put.within; bytes = put.holds ∙ ap (λ (l : List ℕ). l ++ line_of back.result) records ∙ sym p.bytes }

-- so with the closing line that the code has of a run
pub ran-prints : {deck input after word : List ℕ} {number r : ℕ} (ran : code.Ran) (left : Buffers) (rest : List ℕ)
    → word ≡ outcome_word (outcome_meaning ran.outcome) → number ≡ ended_number ran.outcome → RunPrints deck input (ran_back ran left)
    → Put (left.output ++ rest) after (get_or left.state 4 0) (word ++ numbers_text number ran.steps ran.notes) r → Prints deck input after r
ran-prints {after = after} {r = r} ran left rest word_is number_is p put =
    let o = outcome_meaning ran.outcome in
    let n = ended_number ran.outcome in
    run-prints rest p
    (subst (λ (l : List ℕ). Put (left.output ++ rest) after (get_or left.state 4 0) l r)
    (ap₂ (λ (w : List ℕ) (k : ℕ). w ++ numbers_text k ran.steps ran.notes) word_is number_is
    ∙ closing_parts o n ran.steps ran.notes
    ∙ sym (line_of_lem o n ran.steps ran.notes)) put)
