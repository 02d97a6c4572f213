-- How a step ends: turned down, with the state as it was; stopped, with the status changed alone; or done, and not stopped. What a scanning
-- statement that is done searched, scanned and left.
-- Assumes nothing.
use Rattle.std.specs.Prelude.{Bool, true, false, cond, ◌||◌, List, [], ◌∷◌, map, ◌⊎◌, ◌≡◌, refl, ℕ, ◌+◌, leb, eqb, nat_abs, length, drop}
use Rattle.std.proofs.Math.Option.{Option, none, some}
use Rattle.std.proofs.Common.{inl, inr, sym, ◌∙◌, ap, arith}
use Rattle.base.specs.Choice.{cond_cases}
use Rattle.base.specs.Edition.{Edition}
use Rattle.base.specs.Lists.{is_nil}
use Rattle.syntax.specs.Program as Program
use Rattle.syntax.specs.Program.{Part, whole, first, PatternElement, Direction, Branch, Statement, set_number, set_string, goto, finish}
use Rattle.syntax.specs.Program.{if_test, read, write, execute}
use Rattle.syntax.specs.Program.{return, Program}
use Rattle.machine.specs.Ends.{Ending, ends, stops, both-done, done_value, stop_not_done}
use Rattle.machine.specs.Expressions.{length_in, numeric_in, test_in, string_in}
use Rattle.machine.specs.Scanning.{Searched, turned, searched_in, Valued, pattern_in, without_fillers, naming, replacing, ScanLeft, leaving}
use Rattle.machine.specs.Scanning.{scanning_in}
use Rattle.machine.specs.State.{finished, stopped, is_running, Memory, State, going_to, with_returns, with_input, with_output, with_status}
use Rattle.machine.specs.Step.{no_scan, Done, moving, set_string_in, Taken, take_record, cut_noted, reading, shortened, put_record, returning}
use Rattle.machine.specs.Step.{execution, statement_at, lacks_return, turned_down_by, Stepped, concluded, step}
use Rattle.scanning.specs.Splits.{Split}
use Rattle.scanning.specs.Trials.{Scanned, scan}
use Rattle.values.specs.Conversion.{longest_string}
use Rattle.values.specs.Numbers.{is_negative}
use Rattle.values.specs.Result.{stops_step, Result, done, stop, pure}

-- a step that is turned down
pub step-turned : (e : Edition) (p : Program) (lent : ℕ) (c : State) → eqb (turned_down_by p c) 0 ≡ false
    → step e p lent c ≡ record { answer = record { number = turned_down_by p c; notes = 0; scanned = no_scan }; state = c }
unfolding step
step-turned e p lent c q = rw q

-- a statement's work that stops changes the status alone, and gives no notes and no split
concluded_undone : (c : State) (w : Result Done) → ¬ ((concluded c w).answer.number ≡ 0)
    → ((concluded c w).state ≡ with_status stopped c) × ((concluded c w).answer.notes ≡ 0) × ((concluded c w).answer.scanned ≡ no_scan)
unfolding concluded
concluded_undone c (done d n) h = absurd (h refl)
concluded_undone c (stop k) h = (refl, refl, refl)

-- a step that is not turned down and has a number stops the machine and changes nothing else
pub stopped_step : (e : Edition) (p : Program) (lent : ℕ) (c : State) → turned_down_by p c ≡ 0 → ¬ ((step e p lent c).answer.number ≡ 0)
    → (step e p lent c).state ≡ with_status stopped c
unfolding step
stopped_step e p lent c goes =
    cond_cases (λ (s : Stepped). ¬ (s.answer.number ≡ 0) → s.state ≡ with_status stopped c) (eqb (turned_down_by p c) 0)
    (λ q h. (concluded_undone c (execution e lent (statement_at p c.next) c) h).0)
    (λ q h. absurd (h goes))

-- a step that is not turned down, and whose work ends so, is done or has a number that stops
pub step_stops : {P : Done → Type 0} (e : Edition) (p : Program) (lent : ℕ) (c : State) → turned_down_by p c ≡ 0
    → Ending P (execution e lent (statement_at p c.next) c)
    → ¬ ((step e p lent c).answer.number ≡ 0) → stops_step (step e p lent c).answer.number ≡ true
unfolding step concluded
step_stops {P} e p lent c goes ended =
    cond_cases (λ (s : Stepped). ¬ (s.answer.number ≡ 0) → stops_step s.answer.number ≡ true) (eqb (turned_down_by p c) 0)
    (λ q. stopping (execution e lent (statement_at p c.next) c) ended)
    (λ q h. absurd (h goes))
  where
    stopping : (w : Result Done) → Ending P w → ¬ ((concluded c w).answer.number ≡ 0) → stops_step (concluded c w).answer.number ≡ true
    stopping (done d n) (ends k) h = absurd (h refl)
    stopping (stop n) (stops k) h = k

-- the machine turns down by numbers that stop nothing
pub turned_down_unstopped : (p : Program) (c : State) → stops_step (turned_down_by p c) ≡ false
unfolding turned_down_by stops_step
turned_down_unstopped p c =
    cond_cases (λ n. stops_step n ≡ false) (lacks_return (statement_at p c.next) c.returns) (λ q. refl)
    (λ q. cond_cases (λ n. stops_step n ≡ false) (is_running c.status) (λ q. refl) (λ q. refl))

-- a step that is not done gives no notes and no split
pub undone_answer : (e : Edition) (p : Program) (lent : ℕ) (c : State) → ¬ ((step e p lent c).answer.number ≡ 0)
    → ((step e p lent c).answer.notes ≡ 0) × ((step e p lent c).answer.scanned ≡ no_scan)
unfolding step
undone_answer e p lent c =
    cond_cases (λ (s : Stepped). ¬ (s.answer.number ≡ 0) → (s.answer.notes ≡ 0) × (s.answer.scanned ≡ no_scan)) (eqb (turned_down_by p c) 0)
    (λ q h.
    let undone = concluded_undone c (execution e lent (statement_at p c.next) c) h in
    (undone.1, undone.2))
    (λ q h. (refl, refl))

-- a machine that doesn't turn its step down is running
pub still_running : (p : Program) (c : State) → turned_down_by p c ≡ 0 → ¬ (c.status ≡ stopped)
unfolding turned_down_by is_running
still_running p c h is =
    let lacks = lacks_return (statement_at p c.next) c.returns in
    never lacks (ap (λ x. cond lacks 15 (cond (is_running x) 0 16)) (sym is) ∙ h)
  where
    never : (lacks : Bool) → ¬ (◌≡◌ {A = ℕ} (cond lacks 15 16) 0)
    never true g = omega arith
    never false g = omega arith

-- naming and replacement leave what was scanned
left_scanned : (e : Edition) (d : Direction) (x : Searched) (vs : List Valued) (r : Option (List Program.Element)) (m : Memory) (a : Scanned)
    (s : Option Split) (l : ScanLeft) (n : ℕ) → leaving e d x vs r m a s ≡ done l n → l.scanned ≡ a
unfolding leaving pure
left_scanned e d x vs r m a none l n h = ap (λ (y : ScanLeft). y.scanned) (sym (done_value h))
left_scanned e d x vs r m a (some s) l n h =
    let named = naming vs (drop s.start (turned d x.reference)) s.lengths m in
    let parts = both-done (replacing e d x s r named) (λ w. pure (record { memory = w; scanned = a })) l n h in
    ap (λ (y : ScanLeft). y.scanned) (sym (done_value parts.is_behind))

-- a scanning statement that is done: what it searched, for which values, what it scanned and left
pub record ScanningDone (e : Edition) (m : Memory) (d : Direction) (q : Part) (xs : List PatternElement) (r : Option (List Program.Element))
    (l : ScanLeft) : Type 0 where
  pub searched : Searched
  pub searched_notes : ℕ
  pub is_searched : searched_in m d q ≡ done searched searched_notes
  pub valued : List Valued
  pub valued_notes : ℕ
  pub is_valued : pattern_in e m xs ≡ done valued valued_notes
  pub left_notes : ℕ
  pub is_left : (let a = scan (map (λ v. v.element) valued) (turned d searched.reference) in
      leaving e d searched valued r (without_fillers xs m) a a.split ≡ done l left_notes)
  pub is_scanned : l.scanned ≡ scan (map (λ v. v.element) valued) (turned d searched.reference)

pub scanning_done : (e : Edition) (m : Memory) (d : Direction) (q : Part) (xs : List PatternElement) (r : Option (List Program.Element))
    (l : ScanLeft) (n : ℕ) → scanning_in e m d q xs r ≡ done l n → ScanningDone e m d q xs r l
unfolding scanning_in
scanning_done e m d q xs r l n h =
    let front = both-done (searched_in m d q) _ l n h in
    let behind = both-done (pattern_in e m xs) _ l front.notes front.is_behind in
    let x = front.front in
    let vs = behind.front in
    let a = scan (map (λ v. v.element) vs) (turned d x.reference) in
    record {
      searched = x;
      searched_notes = front.front_notes;
      is_searched = front.is_front;
      valued = vs;
      valued_notes = behind.front_notes;
      is_valued = behind.is_front;
      left_notes = behind.notes;
      is_left = behind.is_behind;
      is_scanned = left_scanned e d x vs r (without_fillers xs m) a a.split l behind.notes behind.is_behind;
    }

-- the status as it was, or finished
abbrev pub Alive : State → State → Type 0
Alive c d = (d.status ≡ c.status) ⊎ (d.status ≡ finished)

-- work that ends by `moving` leaves the state given to it and scans nothing
pub moving_done : (s : State) (d : Done) (n : ℕ) → moving s ≡ done d n → d ≡ record { state = s; scanned = no_scan }
unfolding moving pure
moving_done s d n q = sym (done_value q)

-- so its state is the one given
moved : (s : State) (d : Done) (n : ℕ) → moving s ≡ done d n → d.state ≡ s
moved s d n q = ap (λ x. x.state) (moving_done s d n q)

-- what a READ that is done took, so many bytes at most for a string
pub reading_done : (q : Part) (b : Branch) (c : State) (d : Done) (n : ℕ) → reading q b c ≡ done d n
    → (s : ℕ) × (most : ℕ) × (d ≡ record { state = (take_record s most b c).state; scanned = no_scan })
unfolding reading cut_noted
reading_done (whole s) b c d n h = (s, longest_string, sym (done_value h))
reading_done (first s k) b c d n h =
    let z = length_in c.memory k in (
      s,
      nat_abs z,
      cond_cases (λ w. w ≡ done d n → d ≡ record { state = (take_record s (nat_abs z) b c).state; scanned = no_scan }) (is_negative z)
          (λ q g. absurd (stop_not_done 17 d n g)) (λ q g. sym (done_value g)) h,
    )

-- READ and WRITE and RETURN leave the status
taking_status : (s most : ℕ) (b : Branch) (c : State) → (take_record s most b c).state.status ≡ c.status
unfolding take_record going_to with_input
taking_status s most b c = cond_cases (λ (t : Taken). t.state.status ≡ c.status) (eqb most 0 || is_nil c.input) (λ q. refl) (λ q. refl)

reading-status : (q : Part) (b : Branch) (c : State) (d : Done) (n : ℕ) → reading q b c ≡ done d n → d.state.status ≡ c.status
reading-status q b c d n h =
    let took = reading_done q b c d n h in
    ap (λ (x : Done). x.state.status) took.2 ∙ taking_status took.0 took.1 b c

putting_status : (lent : ℕ) (v : List ℕ) (c d : State) (n : ℕ) → put_record lent v c ≡ done d n → d.status ≡ c.status
unfolding put_record pure with_output
putting_status lent v c d n =
    cond_cases (λ w. w ≡ done d n → d.status ≡ c.status) (is_nil v) (λ q h. ap {A = State} (λ x. x.status) (sym (done_value h)))
    (λ q.
    cond_cases (λ w. w ≡ done d n → d.status ≡ c.status) (leb (length c.output + (length v + 1)) lent)
    (λ q h. ap {A = State} (λ x. x.status) (sym (done_value h)))
    (λ q h. absurd (stop_not_done 21 d n h)))

returning-status : (rs : List ℕ) (c : State) → (returning rs c).status ≡ c.status
unfolding returning with_returns going_to
returning-status [] c = refl
returning-status (k ∷ rs) c = refl

-- a statement that is done leaves the status or finishes
pub execution_alive : (e : Edition) (lent : ℕ) (x : Statement) (c : State) (d : Done) (n : ℕ) → execution e lent x c ≡ done d n
    → Alive c d.state
unfolding execution going_to with_returns with_status pure
execution_alive e lent (set_number i x) c d n q =
    let parts = both-done (numeric_in e c.memory x) _ d n q in
    inl (ap (λ s. s.status) (moved _ d parts.notes parts.is_behind))
execution_alive e lent (set_string p xs) c d n q =
    let parts = both-done (set_string_in e c.memory p xs) _ d n q in
    inl (ap (λ s. s.status) (moved _ d parts.notes parts.is_behind))
execution_alive e lent (goto k) c d n q = inl (ap (λ s. s.status) (moved _ d n q))
execution_alive e lent finish c d n q = inr (ap (λ s. s.status) (moved _ d n q))
execution_alive e lent (if_test t b) c d n q =
    let parts = both-done (test_in e c.memory t) _ d n q in
    inl (ap (λ s. s.status) (moved _ d parts.notes parts.is_behind))
execution_alive e lent (Program.scan k p xs r b) c d n q =
    let parts = both-done (scanning_in e c.memory k p xs r) _ d n q in
    inl (ap (λ (x : Done). x.state.status) (sym (done_value parts.is_behind)))
execution_alive e lent (read p b) c d n q = inl (reading-status p b c d n q)
execution_alive e lent (write xs) c d n q =
    let one = both-done (string_in e c.memory xs) _ d n q in
    let two = both-done (shortened one.front) _ d one.notes one.is_behind in
    let three = both-done (put_record lent two.front c) _ d two.notes two.is_behind in
    inl
    (ap (λ s. s.status) (moved _ d three.notes three.is_behind)
    ∙ putting_status lent two.front c three.front three.front_notes three.is_front)
execution_alive e lent (execute k) c d n q = inl (ap (λ s. s.status) (moved _ d n q))
execution_alive e lent return c d n q = inl (ap (λ s. s.status) (moved _ d n q) ∙ returning-status c.returns c)
