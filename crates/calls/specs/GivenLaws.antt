-- What a step that nothing refuses is given: a table that holds a program in range, and buffers that hold a machine in range.
-- Assumes nothing.
use Rattle.std.specs.Prelude.{Bool, true, false, cond, not, ◌&&◌, List, reverse, ◌≡◌, refl, ℕ, ◌+◌, ◌≤◌, ◌<◌, leb, ltb, pos, drop, get_or}
use Rattle.std.proofs.Math.Bool.{and-eq-true_iff}
use Rattle.std.proofs.Common.{sym, ap, ◌∙◌, arith}
use Rattle.std.proofs.Math.ListN.{length, take, length-take, length-drop, length-map}
use Rattle.std.proofs.lemmas.List.{length-reverse}
use Rattle.std.proofs.Math.Seq.{length-take-le}
use borrow.Author.Tests.{leb-true, ltb-true, ltb-false, le-leb, lt-ltb, not-false}
use Rattle.base.specs.Edition.{Edition}
use Rattle.base.specs.ListLaws.{all-at, length_stretch}
use Rattle.base.specs.Lists.{all}
use Rattle.syntax.specs.Program.{Program}
use Rattle.machine.specs.Bounds.{MemoryBounded}
use Rattle.machine.specs.State.{State, string_at, number_at, most_strings, most_numbers}
use Rattle.machine.specs.Step.{most_returns, turned_down_by}
use Rattle.values.specs.Conversion.{longest_string}
use Rattle.values.specs.Numbers.{is_in_range}
use Rattle.encoding.specs.BufferLaws.{keeps_good, good_short, count-strings}
use Rattle.encoding.specs.Buffers.{store_keeps, state_size, returns_at, numbers_at, returns_in, numbers_in, state_keeps, state_in}
use Rattle.calls.specs.Calls.{Buffers, given_in, out_of_range, step_refusal}
use Rattle.calls.specs.Holding.{Holding, all_reverse}
use Rattle.calls.specs.Invariant.{StateSound, unread_any}
use Rattle.encoding.specs.Numerals.{unbiased}
use Rattle.encoding.specs.Rules.{keeps_rules}
use Rattle.calls.specs.StepLaws.{Tabled}
use Rattle.encoding.specs.TableReading.{program_in}

-- what is in range in a state
pub record StateInRange (e : Edition) (steps input output : ℕ) (state : List ℕ) : Type 0 where
  pub next : get_or state 1 0 < steps
  pub count : get_or state 2 0 ≤ most_returns
  pub returns : all (λ k. ltb k steps) (returns_in state) ≡ true
  pub numbers : all (is_in_range e) (numbers_in state) ≡ true
  pub place : get_or state 3 0 ≤ input
  pub written : get_or state 4 0 ≤ output

-- the test of a state tells so
pub state_in_range : (e : Edition) (steps input output : ℕ) (state : List ℕ) → state_keeps e steps input output state ≡ true
    → StateInRange e steps input output state
unfolding state_keeps
state_in_range e steps input output state h =
    let next = ltb (get_or state 1 0) steps in
    let count = leb (get_or state 2 0) most_returns in
    let returns = all (λ k. ltb k steps) (returns_in state) in
    let numbers = all (is_in_range e) (numbers_in state) in
    let place = leb (get_or state 3 0) input in
    let written = leb (get_or state 4 0) output in
    let one = (and-eq-true_iff next (count && (returns && (numbers && (place && written))))).0 h in
    let two = (and-eq-true_iff count (returns && (numbers && (place && written)))).0 one.1 in
    let three = (and-eq-true_iff returns (numbers && (place && written))).0 two.1 in
    let four = (and-eq-true_iff numbers (place && written)).0 three.1 in
    let five = (and-eq-true_iff place written).0 four.1 in
    record {
      next = ltb-true _ _ one.0;
      count = leb-true _ _ two.0;
      returns = three.0;
      numbers = four.0;
      place = leb-true _ _ five.0;
      written = leb-true _ _ five.1;
    }

-- a state holds as many returns as it says, where there are so many
pub returns-count : (state : List ℕ) → 5 + get_or state 2 0 ≤ length state → length (reverse (returns_in state)) ≡ get_or state 2 0
unfolding returns_in returns_at
returns-count state h = length-reverse (take (get_or state 2 0) (drop 5 state)) ∙ length_stretch state 5 (get_or state 2 0) h

-- buffers that pass the tests
module _ (e : Edition) (p : Program) (input : List ℕ) (b : Buffers) (size : length b.state ≡ state_size)
    (good : store_keeps b.store ≡ true)
    (range : state_keeps e (length p.steps) (length input) (length b.output) b.state ≡ true) where
  -- what the test of the state tells
  facts : StateInRange e (length p.steps) (length input) (length b.output) b.state
  facts = state_in_range e (length p.steps) (length input) (length b.output) b.state range

  -- every return held is a step
  given_returns : (i : ℕ) → get_or (reverse (returns_in b.state)) i 0 < length p.steps
  given_returns i =
      let steps = length p.steps in
      let first = lt-ltb 0 steps (omega (arith, facts.next)) in
      ltb-true _ _ (all-at (λ k. ltb k steps) (reverse (returns_in b.state)) 0 first (all_reverse _ (returns_in b.state) facts.returns) i)

  -- strings and numbers are within their bounds
  given_bounded : MemoryBounded e (state_in b.store b.state input b.output).memory
  unfolding state_in string_at number_at numbers_in is_in_range most_strings most_numbers numbers_at longest_string
  given_bounded =
      let numbers = take 32 (drop 21 b.state) in
      let enough : 32 ≤ length (drop 21 b.state) = simp length-drop (omega arith) in
      let zero_held = le-leb 0 e.limit (omega arith) in
      record {
        strings = count-strings b.store;
        short = good_short b.store (keeps_good b.store good);
        numbers = length-map numbers unbiased ∙ length-take-le 32 (drop 21 b.state) enough;
        held = λ i. leb-true _ _ (all-at (is_in_range e) (numbers_in b.state) (pos 0) zero_held facts.numbers i);
      }

  -- the machine they hold is in range
  pub given_sound : StateSound e p (length b.output) input (state_in b.store b.state input b.output)
  unfolding state_in returns_in
  given_sound =
      let output = b.output in
      let count : length (reverse (returns_in b.state)) ≤ most_returns =
      rw (length-reverse, returns_in, length-take) (omega (arith, facts.count)) in
      let written : length (take (get_or b.state 4 0) output) ≤ length output = simp length-take (omega arith) in
      record {
        next = facts.next;
        returns = given_returns;
        count = count;
        memory = given_bounded;
        unread = unread_any input (drop (get_or b.state 3 0) input) (get_or b.state 3 0) refl;
        written = written;
      }

  -- and they hold it
  pub given_holds : Holding e p (length b.output) input (state_in b.store b.state input b.output) b
  given_holds = record { given = refl; store_good = good; state_good = range; state_length = size; output_length = refl }

-- the state of buffers that hold a machine tells how much it has put
pub held-written : (e : Edition) (p : Program) (lent : ℕ) (input : List ℕ) (c : State) (b : Buffers) → Holding e p lent input c b
    → get_or b.state 4 0 ≡ length c.output
unfolding state_in
held-written e p lent input c b h =
    let n = get_or b.state 4 0 in
    let range = state_in_range e (length p.steps) (length input) lent b.state h.state_good in
    let room : n ≤ length b.output = omega (arith, range.written, h.output_length) in
    sym (length-take-le n b.output room) ∙ ap (λ (x : State). length x.output) h.given

-- what the tests in their order tell where nothing refuses
pub refusal_none : (small rules store bad : Bool) (n : ℕ) → cond small 2 (cond (not rules) 13 (cond (not store) 14 (cond bad 15 n))) ≡ 0
    → (small ≡ false) × (rules ≡ true) × (store ≡ true) × (bad ≡ false) × (n ≡ 0)
refusal_none true rules store bad n h = absurd (omega arith)
refusal_none false false store bad n h = absurd (omega arith)
refusal_none false true false bad n h = absurd (omega arith)
refusal_none false true true true n h = absurd (omega arith)
refusal_none false true true false n h = (refl, refl, refl, refl, h)

-- a step that nothing refuses: the table keeps its rules, store and state are in range, and the machine doesn't turn it down
pub record Unrefused (e : Edition) (table input : List ℕ) (b : Buffers) : Type 0 where
  pub tabled : Tabled e (program_in table) table
  pub store_good : store_keeps b.store ≡ true
  pub state_good : state_keeps e (length (program_in table).steps) (length input) (length b.output) b.state ≡ true
  pub goes : turned_down_by (program_in table) (given_in e table input b) ≡ 0

-- the refusals in their order tell so
pub unrefused : (e : Edition) (table input : List ℕ) (b : Buffers) → step_refusal e table input b ≡ 0 → Unrefused e table input b
unfolding step_refusal out_of_range
unrefused e table input b h =
    let all-five = refusal_none (ltb (length table) e.table_size) (keeps_rules e table) (store_keeps b.store) (out_of_range e table input b)
    (turned_down_by (program_in table) (given_in e table input b)) h in
    record {
      tabled = record { size = ltb-false _ _ all-five.0; keeps = all-five.1; reads = refl };
      store_good = all-five.2;
      state_good = not-false _ all-five.3;
      goes = all-five.4;
    }
