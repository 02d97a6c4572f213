-- The law of each kind of statement: its work on the machine that the buffers hold, and what that leaves in them. Assumes nothing.
use Rattle.std.specs.Prelude.{Ok, Err, Bool, ◌≡◌}
use mathlib.Core.List.{List, [], ◌∷◌, ◌++◌}
use Rattle.std.proofs.Math.Path.{refl, sym, ap, subst}
use Rattle.std.proofs.Common.{◌∙◌, arith, take-append-drop}
use Prim.Native.Nat.{ℕ, suc, ◌+◌, ◌-◌, ◌≤◌, ◌<◌}
use Rattle.std.proofs.Math.Numerals.{add-one}
use Rattle.std.proofs.Math.ListN.{length, take, drop, get_or, set, length-drop}
use Rattle.std.proofs.Math.Seq.{length-take-le, get_or-set_same, get_or-set_other}
use Rattle.base.specs.Current.{current}
use Rattle.encoding.specs.BufferLaws.{StoreGood, keeps_good}
use Rattle.encoding.specs.Numerals.{biased}
use Rattle.encoding.specs.Buffers.{strings_in, numbers_in, status_of, state_in, store_image, store_left, output_left, store_size}
use Rattle.calls.specs.Calls.{Buffers, left_of, buffers}
use Rattle.calls.specs.GivenLaws.{StateInRange, state_in_range, given_holds, returns-count}
use Rattle.calls.specs.StopLaws.{output_whole}
use Rattle.evaluator.specs.Memory.{memory_in}
use Rattle.syntax.specs.Program as Program
use Rattle.syntax.specs.Program.{Program, Branch, Part}
use Rattle.machine.specs.Expressions.{numeric_in, string_in, test_in}
use Rattle.machine.specs.State as Machine
use Rattle.machine.specs.State.{State, Memory, finished, is_running, with_number, going_to, with_returns, with_input, with_output, with_status}
use Rattle.machine.specs.Step.{Done, most_returns, no_scan, moving, chosen, set_string_in, reading, shortened, put_record, returning, execution}
use Rattle.effects.specs.Laws.{left_is, stays_same}
use Rattle.effects.specs.Leaving.{Completion, StoreStays, memory_of}
use Rattle.effects.specs.Reading.{MachineHas, Goes, Halts, onward}
use Rattle.effects.specs.Valued.{Assigns, RecordPutBy, ValueStored}
use Rattle.state.specs.Clauses.{Popped}
use Rattle.state.specs.Laws.{StateLeaves, leaves_all, holding-leaves, leaves_going, leaves_finished, leaves_stopped, leaves_input, leaves_output, leaves_number, leaves_push, leaves_return, numbers_stay}
use Rattle.values.specs.Result.{Result, done, stop, pure, ◌>>=◌}
use Rattle.values.specs.declared.Noted.{Noted}
use Rattle.values.specs.Stops.{stop_number}
use Rattle.values.specs.ResultLaws.{bound, stopped, bound-twice}
use Rattle.execution.specs.Executing.{StatementStanding, machine_in, Moved, Unmoved, Executes, moved_on}

-- a return changes no string and no output
returning_keeps : (rs : List ℕ) (c : State) → ((returning rs c).memory ≡ c.memory) × ((returning rs c).output ≡ c.output)
unfolding returning with_returns going_to
returning_keeps [] c = (refl, refl)
returning_keeps (k ∷ rs) c = (refl, refl)

-- buffers that a step may be given
module _ (p : Program) (input : List ℕ) (b : Buffers) (s : StatementStanding p input b) where
  -- the machine they hold
  abbrev c : State
  c = machine_in input b

  facts : StateInRange current (length p.steps) (length input) (length b.output) b.state
  facts = state_in_range current (length p.steps) (length input) (length b.output) b.state s.range

  pub good : StoreGood b.store
  good = keeps_good b.store s.store_good_lem

  -- its numbers
  pub given_leaves : StateLeaves b.state input c b.state
  unfolding state_in status_of is_running
  given_leaves =
      holding-leaves (given_holds current p input b s.size s.store_good_lem s.range) (ap (λ (n : ℕ). is_running (status_of n)) s.running)

  -- the output as it was
  pub output_same : (m : State) → m.output ≡ c.output → output_left b.output m ≡ b.output
  unfolding state_in
  output_same m e = output_whole b.output (get_or b.state 4 0) m facts.written e

  -- what is left of a machine, by its store, its numbers and its output
  pub left-parts : (m : State) (store state output : List ℕ) → StoreStays b.store store → m.memory.strings ≡ strings_in store
      → StateLeaves b.state input m state → output_left b.output m ≡ output → buffers store state output ≡ left_of input b m
  unfolding store_left
  left-parts m store state output stays strings leaves outputs =
      let stores : store ≡ store_left b.store m =
      sym (left_is b.store store stays) ∙ ap (λ (v : List (List ℕ)). store_image v ++ drop store_size b.store) (sym strings) in
      λ i. record { store = stores i; state = leaves_all leaves i; output = sym outputs i }

  -- a machine that has moved on, with the store and the output as they were
  pub stays_parts : (m : State) (state : List ℕ) → m.memory.strings ≡ strings_in b.store → m.output ≡ c.output
      → StateLeaves b.state input m state → buffers b.store state b.output ≡ left_of input b m
  stays_parts m state strings outputs leaves =
      left-parts m b.store state b.output (stays_same b.store good) strings leaves (output_same m outputs)

  -- a step that is stopped
  pub stops : buffers b.store (set b.state 0 2) b.output ≡ left_of input b (with_status Machine.stopped (machine_in input b))
  unfolding with_status state_in
  stops = stays_parts (with_status Machine.stopped c) _ refl refl (leaves_stopped given_leaves)

  -- SCAN and BACKSCAN
  pub scans : (store : List ℕ) (k : ℕ) → StoreStays b.store store
      → buffers store (set b.state 1 k) b.output ≡ left_of input b (going_to k (memory_in store b.state) (machine_in input b))
  unfolding going_to state_in
  scans store k stays =
      let m = going_to k (memory_in store b.state) c in
      left-parts m store _ b.output stays refl (leaves_going given_leaves k (memory_in store b.state) refl) (output_same m refl)

  -- GOTO
  pub goes : (k : ℕ) → Moved input b (buffers b.store (set b.state 1 k) b.output) 0
      (execution current (length b.output) (Program.goto k) (machine_in input b))
  unfolding execution moving pure going_to state_in
  goes k =
      let m = going_to k c.memory c in
      record { machine = m; work = refl; left_is = stays_parts m _ refl refl (leaves_going given_leaves k c.memory refl) }

  -- END
  pub finishes : Moved input b (buffers b.store (set b.state 0 1) b.output) 0
      (execution current (length b.output) Program.finish (machine_in input b))
  unfolding execution moving pure with_status state_in
  finishes =
      record { machine = with_status finished c; work = refl; left_is = stays_parts (with_status finished c) _ refl refl (leaves_finished given_leaves) }

  -- the step behind the next one
  behind : (state : List ℕ) → get_or state 1 0 ≡ get_or b.state 1 0 → get_or state 1 0 + 1 ≡ suc c.next
  unfolding state_in
  behind state e = ap (λ (n : ℕ). n + 1) e ∙ add-one (get_or b.state 1 0)

  -- a number set
  pub sets_number_lem : (r : Completion) (state : List ℕ) (place : ℕ) (xs : List Program.Item) → place < 32
      → Assigns r b.state state place (numeric_in current (memory_in b.store b.state) xs)
      → Executes r input b (buffers b.store (moved_on r state) b.output)
      (execution current (length b.output) (Program.set_number place xs) (machine_in input b))
  unfolding execution moving pure going_to with_number state_in
  sets_number_lem (Ok notes) state place xs h a =
      let z = a.value in
      let m = going_to (suc c.next) (with_number c.memory place z) c in
      let same = ap (λ (l : List ℕ). get_or l 1 0) a.left_is ∙ get_or-set_other b.state (21 + place) 1 (biased z) 0 (λ e. omega (arith, e)) in
      let moved : StateLeaves b.state input m (moved_on (Ok notes) state) =
      rw (behind state same, a.left_is) (leaves_number given_leaves place z (suc c.next) h) in
      record {
        machine = m;
        work = bound _ _ z notes (record { state = m; scanned = no_scan }) a.work refl;
        left_is = stays_parts m _ refl refl moved;
      }
  sets_number_lem (Err x) state place xs h a =
      record { work = stopped _ _ (stop_number x) a.1; same = ap (λ (l : List ℕ). buffers b.store l b.output) a.0 }

  -- a string set
  pub sets_string : (r : Completion) (store : List ℕ) (q : Part) (xs : List Program.Element)
      → ValueStored r b.store store b.state (set_string_in current (memory_in b.store b.state) q xs)
      → Executes r input b (buffers store (moved_on r b.state) b.output)
      (execution current (length b.output) (Program.set_string q xs) (machine_in input b))
  unfolding execution moving pure going_to state_in
  sets_string (Ok notes) store q xs a =
      let left = memory_of store (numbers_in b.state) in
      let m = going_to (suc c.next) left c in
      let moved : StateLeaves b.state input m (moved_on (Ok notes) b.state) = rw (behind b.state refl) (leaves_going given_leaves (suc c.next) left refl) in
      record {
        machine = m;
        work = bound _ _ left notes (record { state = m; scanned = no_scan }) a.leaves.1 refl;
        left_is = left-parts m store _ b.output a.leaves.0 refl moved (output_same m refl);
      }
  sets_string (Err x) store q xs a =
      record { work = stopped _ _ (stop_number x) a.leaves.1; same = ap (λ (l : List ℕ). buffers l b.state b.output) a.leaves.0 }

  -- IF
  pub tests : (holds : Bool) (notes : ℕ) (t : Program.Test) (f : Branch) → test_in current (memory_in b.store b.state) t ≡ done holds notes
      → Moved input b (buffers b.store (set b.state 1 (chosen holds f)) b.output) notes
      (execution current (length b.output) (Program.if_test t f) (machine_in input b))
  unfolding execution moving pure going_to state_in
  tests holds notes t f w =
      let m = going_to (chosen holds f) c.memory c in
      record {
        machine = m;
        work = bound _ _ holds notes (record { state = m; scanned = no_scan }) w refl;
        left_is = stays_parts m _ refl refl (leaves_going given_leaves (chosen holds f) c.memory refl);
      }

  pub test_stops : (k : ℕ) (t : Program.Test) (f : Branch) → test_in current (memory_in b.store b.state) t ≡ stop k
      → Unmoved b b k (execution current (length b.output) (Program.if_test t f) (machine_in input b))
  unfolding execution state_in
  test_stops k t f w = record { work = stopped _ _ k w; same = refl }

  -- READ
  has_all : MachineHas b.store b.state input c
  unfolding state_in
  has_all = record { memory = refl; input_left = refl }

  pub reads : (r : Noted Bool) (store state : List ℕ) (q : Part) (f : Branch) → Goes r b.store store b.state state input (reading q)
      → Moved input b (buffers store (set state 1 (chosen r.value f)) b.output) r.notes
      (execution current (length b.output) (Program.read q f) (machine_in input b))
  unfolding execution going_to with_input state_in
  reads r store state q f a =
      let k = chosen r.value f in
      let m = onward r.value store state input f c in
      let here : get_or state 3 0 ≡ a.to = ap (λ (l : List ℕ). get_or l 3 0) a.state_is ∙ get_or-set_same b.state 3 a.to 0 (omega (arith, s.size)) in
      let numbers : numbers_in state ≡ numbers_in b.state = ap numbers_in a.state_is ∙ numbers_stay b.state 3 a.to (omega arith) in
      let place : get_or state 3 0 ≡ length input - length (drop (get_or state 3 0) input) = simp length-drop (omega (arith, a.inside)) in
      let taken : StateLeaves b.state input (with_input (drop (get_or state 3 0) input) c) state =
      subst (StateLeaves b.state input (with_input (drop (get_or state 3 0) input) c))
      (ap (λ (n : ℕ). set b.state 3 n) here ∙ sym a.state_is)
      (leaves_input given_leaves (get_or state 3 0) (drop (get_or state 3 0) input) place) in
      record {
        machine = m;
        work = a.work f c has_all;
        left_is = left-parts m store _ b.output a.stays refl (leaves_going taken k (memory_in store state) numbers) (output_same m refl);
      }

  pub read_stops : (k : ℕ) (store state : List ℕ) (q : Part) (f : Branch) → Halts b.store store b.state state input k q
      → Unmoved b (buffers store state b.output) k (execution current (length b.output) (Program.read q f) (machine_in input b))
  unfolding execution
  read_stops k store state q f a =
      record { work = a.work f c has_all; same = λ i. record { store = a.same i; state = a.state_same i; output = b.output } }

  -- WRITE
  pub writes : (r : Completion) (state output : List ℕ) (xs : List Program.Element)
      → RecordPutBy r b.state state b.output output
      (λ m. string_in current (memory_in b.store b.state) xs >>= λ v. shortened v >>= λ w. put_record (length b.output) w m)
      → Executes r input b (buffers b.store (moved_on r state) output)
      (execution current (length b.output) (Program.write xs) (machine_in input b))
  unfolding execution moving pure going_to with_output state_in output_left
  writes (Ok notes) state output xs a =
      let n = a.reaches in
      let text = string_in current (memory_in b.store b.state) xs in
      let put : State → Result Done = λ d. moving (going_to (suc c.next) c.memory d) in
      let d = with_output (take n output) c in
      let m = going_to (suc c.next) c.memory d in
      let inside : n ≤ length output = omega (arith, a.inside, a.size) in
      let size = length-take-le n output inside in
      let outputs : take n output ++ drop (length (take n output)) b.output ≡ output = rw size (rw (sym a.rest) (take-append-drop n output)) in
      let same = ap (λ (l : List ℕ). get_or l 1 0) a.state_is ∙ get_or-set_other b.state 4 1 n 0 (λ e. omega (arith, e)) in
      let written : StateLeaves b.state input d state = rw a.state_is (leaves_output given_leaves n (take n output) (sym size)) in
      let moved : StateLeaves b.state input m (moved_on (Ok notes) state) = rw (behind state same) (leaves_going written (suc c.next) c.memory refl) in
      let order : (text >>= λ v. shortened v >>= λ w. put_record (length b.output) w c >>= put)
      ≡ (text >>= (λ v. shortened v >>= λ w. put_record (length b.output) w c) >>= put) =
      ap (λ (f : List ℕ → Result Done). text >>= f) (λ i v. bound-twice (shortened v) (λ w. put_record (length b.output) w c) put i)
      ∙ bound-twice text (λ v. shortened v >>= λ w. put_record (length b.output) w c) put in
      record {
        machine = m;
        work = order ∙ bound _ _ d notes (record { state = m; scanned = no_scan }) (a.work c refl) refl;
        left_is = left-parts m b.store _ output (stays_same b.store good) refl moved outputs;
      }
  writes (Err x) state output xs a =
      let text = string_in current (memory_in b.store b.state) xs in
      let put : State → Result Done = λ d. moving (going_to (suc c.next) c.memory d) in
      let order : (text >>= λ v. shortened v >>= λ w. put_record (length b.output) w c >>= put)
      ≡ (text >>= (λ v. shortened v >>= λ w. put_record (length b.output) w c) >>= put) =
      ap (λ (f : List ℕ → Result Done). text >>= f) (λ i v. bound-twice (shortened v) (λ w. put_record (length b.output) w c) put i)
      ∙ bound-twice text (λ v. shortened v >>= λ w. put_record (length b.output) w c) put in
      record {
        work = order ∙ stopped _ _ (stop_number x) (a.work c refl);
        same = λ i. record { store = b.store; state = a.state_same i; output = a.same i };
      }

  -- the returns held
  returns-held : length c.returns ≡ get_or b.state 2 0
  unfolding state_in most_returns
  returns-held = returns-count b.state (omega (arith, s.size, facts.count))

  -- EXECUTE
  pub executes : (k : ℕ) → get_or b.state 2 0 < 16
      → Moved input b
      (buffers b.store (set (set (set b.state (5 + get_or b.state 2 0) (get_or b.state 1 0 + 1)) 2 (get_or b.state 2 0 + 1)) 1 k) b.output) 0
      (execution current (length b.output) (Program.execute k) (machine_in input b))
  unfolding execution moving pure going_to with_returns state_in
  executes k h =
      let m = with_returns (suc c.next ∷ c.returns) (going_to k c.memory c) in
      let room : length c.returns < 16 = omega (arith, returns-held) in
      let held = leaves_push given_leaves (suc c.next) room in
      record { machine = m; work = refl; left_is = stays_parts m _ refl refl (rw (behind b.state refl) (leaves_going held k c.memory refl)) }

  -- RETURN
  pub returns_to : (state : List ℕ) (k : ℕ) → Popped b.state k state → 0 < get_or b.state 2 0
      → Moved input b (buffers b.store (set state 1 k) b.output) 0
      (execution current (length b.output) Program.return (machine_in input b))
  unfolding execution moving pure state_in
  returns_to state k a h =
      let m = returning c.returns c in
      let some : 0 < length c.returns = omega (arith, returns-held) in
      let kept = returning_keeps c.returns c in
      record {
        machine = m;
        work = refl;
        left_is = stays_parts m _ (ap (λ (x : Memory). x.strings) kept.0) kept.1 (rw (a.others, a.latest) (leaves_return given_leaves some));
      }
