-- A program whose steps have scopes never lacks a return: what it holds stays nested, so no step of a run that goes on is turned down.
-- Assumes nothing.
use Rattle.std.specs.Prelude.{Bool, cond, ◌||◌, ◌≡◌, ℕ, suc, ◌+◌, leb, eqb, nat_abs, length}
use Rattle.std.proofs.Math.Bool.{true, false}
use mathlib.Core.List.{List, [], ◌∷◌}
use Rattle.std.proofs.Math.Option.{Option, none, some}
use Rattle.std.proofs.Math.Path.{refl, subst}
use Rattle.std.proofs.Common.{sym, ◌∙◌, arith}
use borrow.Author.Tests.{lt-leb}
use Rattle.base.specs.Choice.{cond_cases}
use Rattle.base.specs.Edition.{Edition}
use Rattle.base.specs.Lists.{is_nil}
use Rattle.syntax.specs.Program as Program
use Rattle.syntax.specs.Program.{Part, whole, first, Branch, Statement, set_number, set_string, goto, finish, if_test, read, write, execute}
use Rattle.syntax.specs.Program.{return, Program}
use Rattle.syntax.specs.Scopes.{BranchStays, Leads, Nested, Scoped}
use Rattle.machine.specs.Expressions.{length_in, numeric_in, test_in, string_in}
use Rattle.machine.specs.Scanning.{scanning_in}
use Rattle.machine.specs.State.{State, is_running, fresh, going_to, with_returns, with_input, with_output, with_status}
use Rattle.machine.specs.Step.{Done, moving, chosen, scanned_to, set_string_in, Taken, take_record, cut_noted, reading, shortened, put_record}
use Rattle.machine.specs.Step.{returning, execution, statement_at, most_returns, lacks_return, turned_down_by, Stepped, concluded, step}
use Rattle.scanning.specs.Splits.{Split}
use Rattle.values.specs.Conversion.{longest_string}
use Rattle.values.specs.Numbers.{is_negative}
use Rattle.values.specs.Result.{Result, done, stop, with_notes, pure, ◌>>=◌}

-- P holds of the value of work that is done
data Comes {A : Type 0} (P : A → Type 0) : Result A → Type 0 where
  comes : {a : A} {n : ℕ} → P a → Comes P (done a n)
  halts : {k : ℕ} → Comes P (stop k)

comes_notes : {A : Type 0} {P : A → Type 0} {w : Result A} (n : ℕ) → Comes P w → Comes P (with_notes n w)
unfolding with_notes
comes_notes n (comes h) = comes h
comes_notes n halts = halts

-- work behind work
comes_next : {A B : Type 0} {P : A → Type 0} {Q : B → Type 0} {w : Result A} (f : A → Result B) → Comes P w
    → ((a : A) → P a → Comes Q (f a)) → Comes Q (w >>= f)
unfolding ◌>>=◌
comes_next f (comes {a} {n} h) g = comes_notes n (g a h)
comes_next f halts g = halts

-- where nothing need hold of the first value
comes_behind : {A B : Type 0} {Q : B → Type 0} (w : Result A) (f : A → Result B) → ((a : A) → Comes Q (f a)) → Comes Q (w >>= f)
unfolding ◌>>=◌
comes_behind (done a n) f g = comes_notes n (g a)
comes_behind (stop k) f g = halts

module _ (scope : ℕ → List ℕ) (Executes : (first second : List ℕ) → Type 0) where
  abbrev pub NestedIn : State → Type 0
  NestedIn c = Nested scope Executes c.next c.returns

  -- another step of the same scope may come next
  nested_stays : (here there : ℕ) (rs : List ℕ) → scope there ≡ scope here → Nested scope Executes here rs
      → Nested scope Executes there rs
  unfolding Nested
  nested_stays here there [] same h = same ∙ h
  nested_stays here there (r ∷ rs) same h = (subst (Executes (scope r)) (sym same) h.0, h.1)

  -- either step of a branch field does
  chosen_nested : (r : Bool) (b : Branch) (here : ℕ) (rs : List ℕ) → BranchStays scope Executes here b → Nested scope Executes here rs
      → Nested scope Executes (chosen r b) rs
  unfolding chosen
  chosen_nested true b here rs stays h = nested_stays here b.success rs stays.0 h
  chosen_nested false b here rs stays h = nested_stays here b.failure rs stays.1 h

  scanned_nested : (s : Option Split) (b : Branch) (here : ℕ) (rs : List ℕ) → BranchStays scope Executes here b
      → Nested scope Executes here rs
      → Nested scope Executes (scanned_to s b) rs
  unfolding scanned_to
  scanned_nested none b here rs stays h = nested_stays here b.failure rs stays.1 h
  scanned_nested (some s) b here rs stays h = nested_stays here b.success rs stays.0 h

  taking_nested : (s most : ℕ) (b : Branch) (c : State) → BranchStays scope Executes c.next b → NestedIn c
      → NestedIn (take_record s most b c).state
  unfolding take_record going_to with_input
  taking_nested s most b c stays h =
      cond_cases (λ (t : Taken). NestedIn t.state) (eqb most 0 || is_nil c.input)
      (λ _. nested_stays c.next b.failure c.returns stays.1 h)
      (λ _. nested_stays c.next b.success c.returns stays.0 h)

  abbrev NestedDone : Done → Type 0
  NestedDone d = NestedIn d.state

  reading_nested : (q : Part) (b : Branch) (c : State) → BranchStays scope Executes c.next b → NestedIn c
      → Comes NestedDone (reading q b c)
  unfolding reading cut_noted
  reading_nested (whole s) b c stays h = comes (taking_nested s longest_string b c stays h)
  reading_nested (first s n) b c stays h =
      let z = length_in c.memory n in
      cond_cases (Comes NestedDone) (is_negative z) (λ _. halts) (λ _. comes (taking_nested s (nat_abs z) b c stays h))

  -- WRITE leaves the returns
  putting_returns : (lent : ℕ) (v : List ℕ) (c : State) → Comes (λ d. d.returns ≡ c.returns) (put_record lent v c)
  unfolding put_record pure with_output
  putting_returns lent v c =
      let P : Result State → Type 0 = Comes (λ d. d.returns ≡ c.returns) in
      cond_cases P (is_nil v) (λ _. comes refl) (λ _.
      cond_cases P (leb (length c.output + (length v + 1)) lent) (λ _. comes refl) (λ _. halts))

  returning_nested : (rs : List ℕ) (c : State) → Nested scope Executes c.next rs → c.returns ≡ rs → NestedIn (returning rs c)
  unfolding returning with_returns going_to Nested
  returning_nested [] c h same = subst (Nested scope Executes c.next) (sym same) h
  returning_nested (r ∷ rs) c h same = h.1

  -- what a statement that leads where it may makes of what is nested
  execution_nested : (e : Edition) (lent : ℕ) (x : Statement) (c : State) → Leads scope Executes c.next x → NestedIn c
      → Comes NestedDone (execution e lent x c)
  unfolding execution Leads Nested moving pure going_to with_status with_returns
  execution_nested e lent (set_number i x) c leads h =
      comes_behind (numeric_in e c.memory x) _ (λ _. comes (nested_stays c.next (suc c.next) c.returns leads h))
  execution_nested e lent (set_string p xs) c leads h =
      comes_behind (set_string_in e c.memory p xs) _ (λ _. comes (nested_stays c.next (suc c.next) c.returns leads h))
  execution_nested e lent (goto k) c leads h = comes (nested_stays c.next k c.returns leads h)
  execution_nested e lent finish c leads h = comes h
  execution_nested e lent (if_test t b) c leads h =
      comes_behind (test_in e c.memory t) _ (λ r. comes (chosen_nested r b c.next c.returns leads h))
  execution_nested e lent (Program.scan d p xs r b) c leads h =
      comes_behind (scanning_in e c.memory d p xs r) _ (λ l. comes (scanned_nested l.scanned.split b c.next c.returns leads h))
  execution_nested e lent (read p b) c leads h = reading_nested p b c leads h
  execution_nested e lent (write xs) c leads h =
      comes_behind (string_in e c.memory xs) _ (λ v.
      comes_behind (shortened v) _ (λ w.
      comes_next _ (putting_returns lent w c) (λ d same.
      comes (subst (Nested scope Executes (suc c.next)) (sym same) (nested_stays c.next (suc c.next) c.returns leads h)))))
  execution_nested e lent (execute k) c leads h =
      let entered : Nested scope Executes k (suc c.next ∷ c.returns) = (
        subst (λ (s : List ℕ). Executes s (scope k)) (sym leads.1) leads.0,
        nested_stays c.next (suc c.next) c.returns leads.1 h,
      ) in
      comes entered
  execution_nested e lent return c leads h = comes (returning_nested c.returns c h refl)

  -- a program with these scopes
  module _ (p : Program) (scoped : Scoped scope Executes p.steps) where
    -- before the first step nothing is held
    pub fresh_nested : (input : List ℕ) → NestedIn (fresh input)
    unfolding fresh Nested
    fresh_nested input = scoped.outside

    here-leads : (c : State) → Leads scope Executes c.next (statement_at p c.next)
    unfolding statement_at
    here-leads c = scoped.leads c.next

    -- what is held stays nested
    pub step_nested : (e : Edition) (lent : ℕ) (c : State) → NestedIn c → NestedIn (step e p lent c).state
    unfolding step concluded with_status
    step_nested e lent c h =
        let x = statement_at p c.next in
        cond_cases (λ (s : Stepped). NestedIn s.state) (eqb (turned_down_by p c) 0)
        (λ _. concludes (execution e lent x c) (execution_nested e lent x c (here-leads c) h)) (λ _. h)
      where
        concludes : (w : Result Done) → Comes NestedDone w → NestedIn (concluded c w).state
        concludes (done d n) (comes g) = g
        concludes (stop n) halts = h

    -- no statement lacks a return
    enough : (x : Statement) (here : ℕ) (rs : List ℕ) → Leads scope Executes here x → Nested scope Executes here rs
        → lacks_return x rs ≡ false
    unfolding lacks_return Leads Nested is_nil most_returns
    enough (set_number i x) here rs leads h = refl
    enough (set_string q xs) here rs leads h = refl
    enough (goto k) here rs leads h = refl
    enough finish here rs leads h = refl
    enough (if_test t b) here rs leads h = refl
    enough (Program.scan d q xs r b) here rs leads h = refl
    enough (read q b) here rs leads h = refl
    enough (write xs) here rs leads h = refl
    enough (execute k) here rs leads h =
        let inner = scoped.few k (here ∷ rs) (leads.0, h) in
        lt-leb _ (length rs) (omega arith)
    enough return here [] leads h = absurd (leads h)
    enough return here (r ∷ rs) leads h = refl

    -- Q15 never, Q16 once the run is over
    pub nested_turned : (c : State) → NestedIn c → turned_down_by p c ≡ cond (is_running c.status) 0 16
    unfolding turned_down_by
    nested_turned c h = rw (enough (statement_at p c.next) c.next c.returns (here-leads c) h)
