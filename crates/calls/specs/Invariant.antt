-- What a machine that runs a program in range holds is in range, before the first step and behind every one. Assumes nothing.
use Rattle.std.specs.Prelude.{Bool, cond, ◌||◌, ◌≡◌, leb, eqb, nat_abs, drop, get_or}
use Rattle.std.proofs.Math.Bool.{true, false}
use mathlib.Core.List.{List, [], ◌∷◌, ◌++◌}
use Rattle.std.proofs.Math.Option.{Option, none, some}
use Rattle.std.proofs.Math.Path.{refl}
use Rattle.std.proofs.Common.{sym, ◌∙◌, ap, arith, length-drop}
use Prim.Native.Nat.{ℕ, zero, suc, ◌+◌, ◌-◌, ◌≤◌, ◌<◌, min}
use Rattle.std.proofs.Math.ListN.{length, take, length-append, length-take}
use Rattle.std.proofs.Math.Seq.{drop-drop}
use borrow.Author.Tests.{leb-true, leb-false, ltb-true, eqb-true}
use Rattle.base.specs.Choice.{cond_cases, both_true}
use Rattle.base.specs.Edition.{Edition}
use Rattle.base.specs.Lists.{is_nil}
use Rattle.cards.specs.Bytes.{newline}
use Rattle.syntax.specs.Program as Program
use Rattle.syntax.specs.Program.{Part, whole, first, PatternElement, Direction, Branch, Statement, set_number, set_string, goto}
use Rattle.syntax.specs.Program.{finish, if_test, read, write, execute, return, Program, is_finish}
use Rattle.machine.specs.Bounds.{MemoryBounded, fresh_bounded, string_bounded, number_bounded, expression_ends, replacement_bounded, scanning_bounded}
use Rattle.machine.specs.Ends.{Ending, ends, stops, AnyValue, ends_bind}
use Rattle.machine.specs.Expressions.{length_in}
use Rattle.machine.specs.State.{Status, stopped, finished, Memory, State, with_string, with_number, fresh, going_to, with_returns}
use Rattle.machine.specs.State.{with_input, with_output, with_status, is_running}
use Rattle.machine.specs.Step.{Done, moving, chosen, scanned_to, record_length, Taken, take_record, cut_noted, reading, shortened, put_record}
use Rattle.machine.specs.Step.{returning, execution, statement_at, most_returns, lacks_return, turned_down_by, Stepped, concluded, step}
use Rattle.scanning.specs.Splits.{Split}
use Rattle.values.specs.Conversion.{longest_string}
use Rattle.values.specs.Numbers.{is_negative}
use Rattle.values.specs.Result.{Result, done, stop, pure, stops_step}
use Rattle.calls.specs.NumberBounds.{expression_ranged, test_ends}
use Rattle.encoding.specs.ProgramLaws.{Runs, statement_holds_lem, step-behind, first_step}
use Rattle.encoding.specs.RuleLaws.{scan-parts, number_parts, branch_inside, test_parts}
use Rattle.encoding.specs.Rules.{part_holds, branch_holds, statement_holds}

-- every step, held return, string, number, and the places in input and output, are in range
pub record StateSound (e : Edition) (p : Program) (lent : ℕ) (input : List ℕ) (c : State) : Type 0 where
  pub next : c.next < length p.steps
  pub returns : (i : ℕ) → get_or c.returns i 0 < length p.steps
  pub count : length c.returns ≤ most_returns
  pub memory : MemoryBounded e c.memory
  pub unread : c.input ≡ drop (length input - length c.input) input
  pub written : length c.output ≤ lent

-- what is left behind some bytes tells how many they are
drop_unread : (input : List ℕ) (k : ℕ) → drop k input ≡ drop (length input - length (drop k input)) input
drop_unread input zero = let none-taken : length input - length input ≡ 0 = omega arith in rw none-taken
drop_unread [] (suc k) = refl
drop_unread (x ∷ xs) (suc k) =
    let one_more : suc (length xs) - length (drop k xs) ≡ suc (length xs - length (drop k xs)) = omega (arith, length-drop k xs) in
    drop_unread xs k ∙ ap (λ j. drop j (x ∷ xs)) (sym one_more)

-- any rest of the input tells how many bytes were taken
pub unread_any : (input rest : List ℕ) (k : ℕ) → rest ≡ drop k input → rest ≡ drop (length input - length rest) input
unread_any input rest k e = e ∙ drop_unread input k ∙ ap (λ r. drop (length input - length r) input) (sym e)

-- a step that the machine doesn't turn down has the returns it needs
pub returns_enough : (p : Program) (c : State) → turned_down_by p c ≡ 0 → lacks_return (statement_at p c.next) c.returns ≡ false
unfolding turned_down_by
returns_enough p c = enough (lacks_return (statement_at p c.next) c.returns)
  where
    enough : (lacks : Bool) → ◌≡◌ {A = ℕ} (cond lacks 15 (cond (is_running c.status) 0 16)) 0 → lacks ≡ false
    enough true h = absurd (omega arith)
    enough false h = refl

-- a string's length is a number in range, and p is a program that runs
module _ (e : Edition) (wide : longest_string ≤ e.limit) (p : Program) (runs : Runs e p) (lent : ℕ) (input : List ℕ) where
  abbrev Kept : State → Type 0
  Kept = StateSound e p lent input

  going_sound : (c : State) (k : ℕ) (m : Memory) → Kept c → k < length p.steps → MemoryBounded e m → Kept (going_to k m c)
  unfolding going_to
  going_sound c k m s inside b =
      record { next = inside; returns = s.returns; count = s.count; memory = b; unread = s.unread; written = s.written }

  status_sound : (c : State) (x : Status) → Kept c → Kept (with_status x c)
  unfolding with_status
  status_sound c x s =
      record { next = s.next; returns = s.returns; count = s.count; memory = s.memory; unread = s.unread; written = s.written }

  returns_sound : (c : State) (rs : List ℕ) → Kept c → ((i : ℕ) → get_or rs i 0 < length p.steps) → length rs ≤ most_returns
      → Kept (with_returns rs c)
  unfolding with_returns
  returns_sound c rs s inside few =
      record { next = s.next; returns = inside; count = few; memory = s.memory; unread = s.unread; written = s.written }

  input_sound : (c : State) (n : ℕ) → Kept c → Kept (with_input (drop n c.input) c)
  unfolding with_input
  input_sound c n s =
      let taken = length input - length c.input in
      record {
        next = s.next;
        returns = s.returns;
        count = s.count;
        memory = s.memory;
        unread = unread_any input (drop n c.input) (taken + n) (ap (drop n) s.unread ∙ drop-drop n taken input);
        written = s.written;
      }

  output_sound : (c : State) (o : List ℕ) → Kept c → length o ≤ lent → Kept (with_output o c)
  unfolding with_output
  output_sound c o s fits =
      record { next = s.next; returns = s.returns; count = s.count; memory = s.memory; unread = s.unread; written = fits }

  -- both steps of a branch field
  abbrev BranchInside : Branch → Type 0
  BranchInside b = (b.success < length p.steps) × (b.failure < length p.steps)

  taking_sound : (s most : ℕ) (b : Branch) (c : State) → Kept c → BranchInside b → Kept (take_record s most b c).state
  unfolding take_record going_to
  taking_sound s most b c k inside =
      let n = record_length c.input in
      let v = take (min most longest_string) (take n c.input) in
      let short : length v ≤ longest_string = simp length-take (omega arith) in
      let m = with_string c.memory s v in
      cond_cases (λ (t : Taken). Kept t.state) (eqb most 0 || is_nil c.input) (λ q. going_sound c b.failure c.memory k inside.1 k.memory)
      (λ q.
      input_sound (going_to b.success m c) (n + 1)
      (going_sound c b.success m k inside.0 (string_bounded e c.memory s v short k.memory)))

  abbrev KeptDone : Done → Type 0
  KeptDone d = Kept d.state

  reading_sound : (q : Part) (b : Branch) (c : State) → Kept c → BranchInside b → Ending KeptDone (reading q b c)
  unfolding reading cut_noted stops_step
  reading_sound (whole s) b c k inside = ends (taking_sound s longest_string b c k inside)
  reading_sound (first s n) b c k inside =
      let z = length_in c.memory n in
      cond_cases (Ending KeptDone) (is_negative z) (λ q. stops refl)
      (λ q. ends (taking_sound s (nat_abs z) b c k inside))

  shortened_ends : (v : List ℕ) → Ending AnyValue (shortened v)
  unfolding shortened
  shortened_ends v = cond_cases (Ending AnyValue) (leb (length v) longest_string) (λ q. ends tt) (λ q. ends tt)

  putting_sound : (v : List ℕ) (c : State) → Kept c → Ending Kept (put_record lent v c)
  unfolding put_record pure stops_step
  putting_sound v c k =
      let o = c.output ++ (v ++ (newline ∷ [])) in
      let size : length o ≡ length c.output + (length v + 1) = simp length-append (omega arith) in
      cond_cases (Ending Kept) (is_nil v) (λ q. ends k)
      (λ q.
      cond_cases (Ending Kept) (leb (length c.output + (length v + 1)) lent)
      (λ fits. let inside : length o ≤ lent = omega (arith, leb-true) in ends (output_sound c o k inside))
      (λ _. stops refl))

  returning_sound : (rs : List ℕ) (c : State) → Kept c → ((i : ℕ) → get_or rs i 0 < length p.steps) → length rs ≤ most_returns
      → Kept (returning rs c)
  unfolding returning
  returning_sound [] c k inside few = k
  returning_sound (r ∷ rs) c k inside few =
      returns_sound (going_to r c.memory c) rs (going_sound c r c.memory k (inside 0) k.memory) (λ i. inside (suc i)) (omega arith)

  chosen_inside : (r : Bool) (b : Branch) → BranchInside b → chosen r b < length p.steps
  unfolding chosen
  chosen_inside true b inside = inside.0
  chosen_inside false b inside = inside.1

  scanned_inside : (s : Option Split) (b : Branch) → BranchInside b → scanned_to s b < length p.steps
  unfolding scanned_to
  scanned_inside none b inside = inside.1
  scanned_inside (some s) b inside = inside.0

  abbrev Holds : Statement → Type 0
  Holds x = statement_holds e p.strings p.numbers (length p.steps) x ≡ true

  inside_of : (b : Branch) → branch_holds e p.strings p.numbers (length p.steps) b ≡ true → BranchInside b
  inside_of = branch_inside e p.strings p.numbers (length p.steps)

  scan-branch : (d : Direction) (q : Part) (xs : List PatternElement) (r : Option (List Program.Element)) (b : Branch)
      → Holds (Program.scan d q xs r b) → BranchInside b
  scan-branch d q xs r b h = inside_of b (scan-parts e p.strings p.numbers (length p.steps) d q xs r b h).branch

  read-branch : (q : Part) (b : Branch) → Holds (read q b) → BranchInside b
  unfolding statement_holds
  read-branch q b h =
      let steps = length p.steps in
      inside_of b (both_true (part_holds e p.strings p.numbers steps q) (branch_holds e p.strings p.numbers steps b) h).1

  -- what a statement in range makes of a state in range
  pub execution_sound : (c : State) (x : Statement) → Kept c → Holds x → (is_finish x ≡ false → suc c.next < length p.steps)
      → lacks_return x c.returns ≡ false → Ending KeptDone (execution e lent x c)
  unfolding execution statement_holds is_finish lacks_return moving pure
  execution_sound c (set_number i x) k h behind returns =
      let r = (number_parts e p.strings p.numbers (length p.steps) i x h).2 in
      ends_bind (expression_ranged e wide p.strings p.numbers (length p.steps) c.memory k.memory x r)
      (λ z inside.
      let m = with_number c.memory i z in
      ends (going_sound c (suc c.next) m k (behind refl) (number_bounded e c.memory i z inside k.memory)))
  execution_sound c (set_string q xs) k h behind returns =
      ends_bind (replacement_bounded e c.memory q xs k.memory) (λ m b. ends (going_sound c (suc c.next) m k (behind refl) b))
  execution_sound c (goto j) k h behind returns = ends (going_sound c j c.memory k (ltb-true _ _ h) k.memory)
  execution_sound c finish k h behind returns = ends (status_sound c finished k)
  execution_sound c (if_test t b) k h behind returns =
      let both = test_parts e p.strings p.numbers (length p.steps) t b h in
      ends_bind (test_ends e wide p.strings p.numbers (length p.steps) c.memory k.memory t both.0)
      (λ r _. ends (going_sound c (chosen r b) c.memory k (chosen_inside r b (inside_of b both.1)) k.memory))
  execution_sound c (Program.scan d q xs r b) k h behind returns =
      let inside = scan-branch d q xs r b h in
      ends_bind (scanning_bounded e c.memory d q xs r k.memory)
      (λ l b'. ends (going_sound c (scanned_to l.scanned.split b) l.memory k (scanned_inside l.scanned.split b inside) b'))
  execution_sound c (read q b) k h behind returns = reading_sound q b c k (read-branch q b h)
  execution_sound c (write xs) k h behind returns =
      ends_bind (expression_ends e c.memory xs)
      (λ v _.
      ends_bind (shortened_ends v)
      (λ w _.
      ends_bind (putting_sound w c k)
      (λ c' k'. ends (going_sound c' (suc c.next) c.memory k' (behind refl) k.memory))))
  execution_sound c (execute j) k h behind returns =
      let few : length c.returns < most_returns = leb-false most_returns (length c.returns) returns in
      ends
      (returns_sound (going_to j c.memory c) (suc c.next ∷ c.returns) (going_sound c j c.memory k (ltb-true _ _ h) k.memory)
      (elim [ zero ↦ behind refl | suc i ↦ k.returns i ]) (omega arith))
  execution_sound c return k h behind returns = ends (returning_sound c.returns c k k.returns k.count)

  -- how the statement that comes next ends, where the machine doesn't turn it down
  pub next_sound : (c : State) → Kept c → lacks_return (statement_at p c.next) c.returns ≡ false
      → Ending KeptDone (execution e lent (statement_at p c.next) c)
  unfolding statement_at
  next_sound c k returns =
      execution_sound c (statement_at p c.next) k
      (statement_holds_lem e p.strings p.numbers (length p.steps) p.steps c.next runs.hold)
      (step-behind p.steps c.next runs.last k.next)
      returns

  concluded_sound : (c : State) (w : Result Done) → Kept c → Ending KeptDone w → Kept (concluded c w).state
  unfolding concluded
  concluded_sound c (done d n) k (ends h) = h
  concluded_sound c (stop n) k (stops h) = status_sound c stopped k

  -- a step leaves a state in range
  pub step_sound : (c : State) → Kept c → Kept (step e p lent c).state
  unfolding step
  step_sound c k =
      let n = turned_down_by p c in
      cond_cases (λ (s : Stepped). Kept s.state) (eqb n 0)
      (λ q.
      concluded_sound c (execution e lent (statement_at p c.next) c) k (next_sound c k (returns_enough p c (eqb-true n 0 q))))
      (λ q. k)

  -- and so is the state before the first step
  pub fresh_sound : Kept (fresh input)
  unfolding fresh
  fresh_sound =
      let inside = first_step p.steps runs.last in
      record {
        next = inside;
        returns = λ i. inside;
        count = omega arith;
        memory = fresh_bounded e;
        unread = unread_any input input 0 refl;
        written = omega arith;
      }
