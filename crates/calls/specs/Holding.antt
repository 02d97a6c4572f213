-- The buffers that are left of a machine in range hold it. Assumes nothing.
use Rattle.std.proofs.Math.Bool.{Bool, true, and-eq-true_iff}
use mathlib.Core.List.{List, [], ◌∷◌, ◌++◌, map, reverse, reverse_aux, append_assoc, reverse-reverse}
use Rattle.std.specs.Prelude.{◌≡◌, ℤ, pos, get_or}
use Rattle.std.proofs.Math.Path.{refl, sym, ap}
use Rattle.std.proofs.Common.{◌∙◌, ap₂}
use Prim.Native.Nat.{ℕ, suc, ◌+◌, ◌-◌, ◌≤◌, ◌<◌}
use native.Mathlib.Omega.{arith}
use Rattle.std.proofs.Math.Dec.{ltb}
use Rattle.std.proofs.Math.IntN.{nat_abs}
use Rattle.std.proofs.Math.ListN.{length, take, drop, length-append, length-drop, length-map, length-reverse}
use Rattle.std.proofs.Math.Seq.{take_at, drop_at, length-take-le}
use borrow.Author.Tests.{le-leb, lt-ltb}
use Rattle.base.specs.Choice.{both_pass}
use Rattle.base.specs.Edition.{Edition}
use Rattle.base.specs.Lists.{all}
use Rattle.syntax.specs.Program.{Program}
use Rattle.machine.specs.State.{Status, running, finished, stopped, State, string_at, number_at, most_strings, most_numbers}
use Rattle.machine.specs.Step.{most_returns}
use Rattle.values.specs.Conversion.{longest_string}
use Rattle.values.specs.Numbers.{is_in_range}
use Rattle.encoding.specs.BufferLaws.{StoreGood, image-strings, image_good}
use Rattle.encoding.specs.Buffers.{store_size, store_keeps, store_image, state_size, returns_at, numbers_at, status_number, status_of}
use Rattle.encoding.specs.Buffers.{returns_in, numbers_in, state_keeps, state_in, store_left, state_left, output_left}
use Rattle.calls.specs.Calls.{Buffers, left_of}
use Rattle.calls.specs.Invariant.{StateSound}
use Rattle.encoding.specs.NumeralLaws.{unbiased-biased}
use Rattle.encoding.specs.Numerals.{bias, biased, unbiased}

-- the buffers hold the machine c: a step is given c, and nothing in them is out of range
pub record Holding (e : Edition) (p : Program) (lent : ℕ) (input : List ℕ) (c : State) (b : Buffers) : Type 0 where
  pub given : state_in b.store b.state input b.output ≡ c
  pub store_good : store_keeps b.store ≡ true
  pub state_good : state_keeps e (length p.steps) (length input) lent b.state ≡ true
  pub state_length : length b.state ≡ state_size
  pub output_length : length b.output ≡ lent

-- a status is read back from its number
pub status-back : (x : Status) → status_of (status_number x) ≡ x
unfolding status_of status_number
status-back running = refl
status-back finished = refl
status-back stopped = refl

-- a test that every element passes, and what is read behind the last, is passed by all
all_everywhere : {A : Type 0} (f : A → Bool) (l : List A) (d : A) → ((i : ℕ) → f (get_or l i d) ≡ true) → all f l ≡ true
unfolding all
all_everywhere f [] d h = refl
all_everywhere f (x ∷ l) d h = (and-eq-true_iff (f x) (all f l)).1 (h 0, all_everywhere f l d (λ i. h (suc i)))

all_onto : {A : Type 0} (f : A → Bool) (l r : List A) → all f l ≡ true → all f r ≡ true → all f (reverse_aux l r) ≡ true
unfolding all
all_onto f [] r h g = g
all_onto f (x ∷ l) r h g =
    let both = (and-eq-true_iff (f x) (all f l)).0 h in
    all_onto f l (x ∷ r) both.1 ((and-eq-true_iff (f x) (all f r)).1 (both.0, g))

-- a list turned round passes the tests that the list passes
pub all_reverse : {A : Type 0} (f : A → Bool) (l : List A) → all f l ≡ true → all f (reverse l) ≡ true
unfolding all
all_reverse f l h = all_onto f l [] h refl

-- numbers small enough are read back
numbers-back : (zs : List ℤ) → ((i : ℕ) → nat_abs (get_or zs i (pos 0)) < bias) → map unbiased (map biased zs) ≡ zs
numbers-back [] h = refl
numbers-back (z ∷ zs) h = ap₂ {C = List ℤ} ◌∷◌ (unbiased-biased z (h 0)) (numbers-back zs (λ i. h (suc i)))

-- the places for returns that aren't held, and the numbers behind them with what the state keeps behind those
abbrev unheld : List ℕ → State → List ℕ
unheld state c = take (most_returns - length c.returns) (drop (returns_at + length c.returns) state)

abbrev numbers_behind : List ℕ → State → List ℕ
numbers_behind state c = map biased c.memory.numbers ++ drop (numbers_at + most_numbers) state

-- numbers fit their places, and c is in range
module _ (e : Edition) (limit : e.limit < bias) (p : Program) (lent : ℕ) (input : List ℕ) (c : State) (s : StateSound e p lent input c) where
  module _ (state : List ℕ) (size : length state ≡ state_size) where
    -- all places for returns, held and not
    places : length (reverse c.returns ++ unheld state c) ≡ most_returns
    unfolding most_returns returns_at
    places =
        let n = length c.returns in
        let few : n ≤ 16 = s.count in
        let enough : 16 - n ≤ length (drop (5 + n) state) = simp length-drop (omega arith) in
        simp (length-append, length-reverse, length-take-le (16 - n) (drop (5 + n) state) enough) (omega arith)

    returns-left : returns_in (state_left state input c) ≡ reverse c.returns
    unfolding returns_in state_left returns_at
    returns-left =
        take_at (reverse c.returns) (unheld state c ++ numbers_behind state c) (length c.returns) (length-reverse c.returns)

    numbers-left : numbers_in (state_left state input c) ≡ c.memory.numbers
    unfolding numbers_in state_left numbers_at most_returns number_at
    numbers-left =
        let numbers = c.memory.numbers in
        let behind : drop 16 (reverse c.returns ++ (unheld state c ++ numbers_behind state c)) ≡ numbers_behind state c =
        ap (drop 16) (sym (append_assoc (reverse c.returns) (unheld state c) (numbers_behind state c)))
        ∙ drop_at (reverse c.returns ++ unheld state c) (numbers_behind state c) 16 places in
        let these : take most_numbers (numbers_behind state c) ≡ map biased numbers =
        take_at (map biased numbers) (drop (numbers_at + most_numbers) state) most_numbers (length-map numbers biased ∙ s.memory.numbers) in
        let small : (i : ℕ) → nat_abs (get_or numbers i (pos 0)) < bias = λ i. omega (arith, s.memory.held i) in
        ap (λ l. map unbiased (take most_numbers l)) behind ∙ ap (map unbiased) these ∙ numbers-back numbers small

    state_length_lem : length (state_left state input c) ≡ state_size
    unfolding state_left most_returns numbers_at most_numbers
    state_length_lem =
        let whole : length (reverse c.returns ++ (unheld state c ++ numbers_behind state c)) ≡ 59 =
        ap length (sym (append_assoc (reverse c.returns) (unheld state c) (numbers_behind state c)))
        ∙ length-append (reverse c.returns ++ unheld state c) (numbers_behind state c)
        ∙ simp (places, length-append, length-map, length-drop, s.memory.numbers) (omega arith) in
        ap (λ n. suc (suc (suc (suc (suc n))))) whole

    state_keeps_lem : state_keeps e (length p.steps) (length input) lent (state_left state input c) ≡ true
    unfolding state_keeps state_left is_in_range number_at
    state_keeps_lem =
        let steps = length p.steps in
        let inside : (k : ℕ) → Bool = λ k. ltb k steps in
        let returns : all inside (returns_in (state_left state input c)) ≡ true =
        ap (all inside) returns-left
        ∙ all_reverse inside c.returns
        (all_everywhere inside c.returns 0 (λ i. lt-ltb (get_or c.returns i 0) steps (s.returns i))) in
        let held : (i : ℕ) → is_in_range e (get_or c.memory.numbers i (pos 0)) ≡ true =
        λ i. le-leb (nat_abs (number_at c.memory i)) e.limit (s.memory.held i) in
        let numbers : all (is_in_range e) (numbers_in (state_left state input c)) ≡ true =
        ap (all (is_in_range e)) numbers-left
        ∙ all_everywhere (is_in_range e) c.memory.numbers (pos 0) held in
        let place : length input - length c.input ≤ length input = omega arith in
        both_pass (lt-ltb c.next steps s.next)
        (both_pass (le-leb (length c.returns) most_returns s.count)
        (both_pass returns
        (both_pass numbers
        (both_pass (le-leb (length input - length c.input) (length input) place) (le-leb (length c.output) lent s.written)))))

  -- what is left of the machine holds it
  pub left-holds : (b : Buffers) → length b.state ≡ state_size → length b.output ≡ lent → Holding e p lent input c (left_of input b c)
  unfolding store_left state_in output_left state_left most_strings string_at longest_string
  left-holds b size lends =
      let strings = c.memory.strings in
      let rest = drop store_size b.store in
      let good : StoreGood (store_image strings ++ rest) = image_good strings rest s.memory.strings s.memory.short in
      let strings-left = image-strings strings rest s.memory.strings s.memory.short in
      let returns : reverse (returns_in (state_left b.state input c)) ≡ c.returns =
      ap reverse (returns-left b.state size) ∙ reverse-reverse c.returns in
      let input_left = sym s.unread in
      let written : length c.output ≤ lent = s.written in
      let outputs : length (c.output ++ drop (length c.output) b.output) ≡ lent = simp (length-append, length-drop) (omega arith) in
      record {
        given =
            λ i.
            record {
              status = status-back c.status i;
              next = c.next;
              returns = returns i;
              memory = record { strings = strings-left i; numbers = numbers-left b.state size i };
              input = input_left i;
              output = take_at c.output (drop (length c.output) b.output) (length c.output) refl i;
            };
        store_good = good.keeps;
        state_good = state_keeps_lem b.state size;
        state_length = state_length_lem b.state size;
        output_length = outputs;
      }
