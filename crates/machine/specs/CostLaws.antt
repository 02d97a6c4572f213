-- A step makes no more trials than the size of its scan allows, in every state. Assumes nothing.
use Rattle.std.specs.Prelude.{List, [], ◌∷◌, map, ◌≡◌, refl, ℕ, suc, eqb, min, nat_abs, length}
use Rattle.std.proofs.Math.Option.{Option, none, some}
use Rattle.std.proofs.Common.{sym, ◌∙◌, ap, subst, subst₂, arith}
use Rattle.base.specs.Choice.{cond_cases}
use Rattle.base.specs.Edition.{Edition}
use Rattle.syntax.specs.Program as Program
use Rattle.syntax.specs.Program.{Part, whole, first, PatternElement, value, free_filler, fixed_filler, Direction, Branch, Statement}
use Rattle.syntax.specs.Program.{set_number, set_string, goto, finish, if_test, read, write, execute, return, Program}
use Rattle.scanning.specs.Costs.{tested_elements, ScanSize, scan_size, TrialsWithin}
use Rattle.scanning.specs.CostLaws.{scan_within}
use Rattle.scanning.specs.Splits.{Element, string}
use Rattle.scanning.specs.Trials.{Scanned}
use Rattle.values.specs.Numbers.{is_negative}
use Rattle.values.specs.Result.{Result, done, stop, pure}
use Rattle.machine.specs.Bounds.{turned-length, restricted_size}
use Rattle.machine.specs.StepEnds.{scanning_done, moving_done, reading_done}
use Rattle.machine.specs.Costs.{pattern_tested, reference_bytes, statement_size, scan_size_in, StepWithin}
use Rattle.machine.specs.Ends.{both-done, done_value, stop_not_done}
use Rattle.machine.specs.Expressions.{length_in, element_in, numeric_in, string_in, test_in}
use Rattle.machine.specs.Scanning.{turned, Searched, searched_in, Valued, fixed_at, valued_in, pattern_in}
use Rattle.machine.specs.Scanning.{ScanLeft, scanning_in}
use Rattle.machine.specs.State.{Memory, State, string_at}
use Rattle.machine.specs.Step.{no_scan, Done, moving, set_string_in, shortened, put_record, execution}
use Rattle.machine.specs.Step.{statement_at, turned_down_by, Stepped, concluded, step}

-- m: of an element's value as of the element itself
tested_value : (e : Edition) (m : Memory) (x : PatternElement) (v : Valued) (k : ℕ) → valued_in e m x ≡ done v k
    → (xs : List PatternElement) (p : List Element) → tested_elements p ≡ pattern_tested xs
    → tested_elements (v.element ∷ p) ≡ pattern_tested (x ∷ xs)
unfolding valued_in fixed_at pattern_tested tested_elements pure
tested_value e m (value y) v k h xs p same =
    let parts = both-done (element_in e m y) _ v k h in
    let is : record { names = none; element = string parts.front } ≡ v = done_value parts.is_behind in
    ap (λ (w : Valued). tested_elements (w.element ∷ p)) (sym is) ∙ ap suc same
tested_value e m (free_filler s) v k h xs p same = ap (λ (w : Valued). tested_elements (w.element ∷ p)) (sym (done_value h)) ∙ same
tested_value e m (fixed_filler s n) v k h xs p same =
    cond_cases (λ w. w ≡ done v k → tested_elements (v.element ∷ p) ≡ suc (pattern_tested xs)) (is_negative (length_in m n))
    (λ _ g. ap (λ (w : Valued). tested_elements (w.element ∷ p)) (sym (done_value g)) ∙ ap suc same)
    (λ _ g. ap (λ (w : Valued). tested_elements (w.element ∷ p)) (sym (done_value g)) ∙ ap suc same) h

-- of a pattern's values as of the pattern
tested_values : (e : Edition) (m : Memory) (xs : List PatternElement) (vs : List Valued) (k : ℕ) → pattern_in e m xs ≡ done vs k
    → tested_elements (map (λ v. v.element) vs) ≡ pattern_tested xs
unfolding pattern_in pattern_tested tested_elements pure
tested_values e m [] vs k h = ap (λ (ws : List Valued). tested_elements (map (λ v. v.element) ws)) (sym (done_value h))
tested_values e m (x ∷ xs) vs k h =
    let one = both-done (valued_in e m x) _ vs k h in
    let rest = both-done (pattern_in e m xs) _ vs one.notes one.is_behind in
    let is : one.front ∷ rest.front ≡ vs = done_value rest.is_behind in
    ap (λ (ws : List Valued). tested_elements (map (λ v. v.element) ws)) (sym is)
    ∙ tested_value e m x one.front one.front_notes one.is_front xs (map (λ v. v.element) rest.front)
    (tested_values e m xs rest.front rest.front_notes rest.is_front)

-- n: the reference is as long as what is given tells
searched_size : (m : Memory) (d : Direction) (q : Part) (x : Searched) (k : ℕ) → searched_in m d q ≡ done x k
    → length (turned d x.reference) ≡ reference_bytes m q
unfolding searched_in reference_bytes pure
searched_size m d (whole s) x k h =
    let v = string_at m s in
    turned-length d x.reference
    ∙ ap (λ (y : Searched). length y.reference) (sym (done_value h))
    ∙ restricted_size d s (length v) v ∙ omega arith
searched_size m d (first s n) x k h =
    let v = string_at m s in
    let z = length_in m n in
    turned-length d x.reference
    ∙ cond_cases (λ w. w ≡ done x k → length x.reference ≡ min (nat_abs z) (length v)) (is_negative z) (λ _ g. absurd (stop_not_done 17 x k g))
    (λ _ g. ap (λ (y : Searched). length y.reference) (sym (done_value g)) ∙ restricted_size d s (nat_abs z) v) h

-- W8.2 of SCAN and BACKSCAN
scanning_within : (e : Edition) (m : Memory) (d : Direction) (q : Part) (xs : List PatternElement) (r : Option (List Program.Element))
    (l : ScanLeft) (k : ℕ) → scanning_in e m d q xs r ≡ done l k → TrialsWithin (statement_size m q xs) l.scanned.trials
unfolding statement_size scan_size
scanning_within e m d q xs r l k h =
    let z = scanning_done e m d q xs r l k h in
    let n = searched_size m d q z.searched z.searched_notes z.is_searched in
    let m = tested_values e m xs z.valued z.valued_notes z.is_valued in
    subst₂ (λ (y : ScanSize) (b : Scanned). TrialsWithin y b.trials) (λ i. record { n = n i; m = m i }) (sym z.is_scanned)
    (scan_within (map (λ v. v.element) z.valued) (turned d z.searched.reference))

-- 0 trials are within every bound
pub none_within : (s : Option ScanSize) → StepWithin s 0
unfolding StepWithin TrialsWithin
none_within none = refl
none_within (some s) = omega arith

module _ (e : Edition) (lent : ℕ) (c : State) where
  -- work that scans nothing
  unscanned : (s : State) (d : Done) (n : ℕ) → moving s ≡ done d n → d.scanned.trials ≡ 0
  unfolding no_scan
  unscanned s d n h = ap (λ (x : Done). x.scanned.trials) (moving_done s d n h)

  -- a statement that is done
  execution_within : (x : Statement) (d : Done) (n : ℕ) → execution e lent x c ≡ done d n → StepWithin (scan_size_in c.memory x) d.scanned.trials
  unfolding execution scan_size_in StepWithin no_scan pure
  execution_within (set_number i x) d n h =
      let parts = both-done (numeric_in e c.memory x) _ d n h in
      unscanned _ d parts.notes parts.is_behind
  execution_within (set_string p xs) d n h =
      let parts = both-done (set_string_in e c.memory p xs) _ d n h in
      unscanned _ d parts.notes parts.is_behind
  execution_within (goto k) d n h = unscanned _ d n h
  execution_within finish d n h = unscanned _ d n h
  execution_within (if_test t b) d n h =
      let parts = both-done (test_in e c.memory t) _ d n h in
      unscanned _ d parts.notes parts.is_behind
  execution_within (Program.scan k p xs r b) d n h =
      let parts = both-done (scanning_in e c.memory k p xs r) _ d n h in
      subst (λ (a : Scanned). TrialsWithin (statement_size c.memory p xs) a.trials) (ap (λ (x : Done). x.scanned) (done_value parts.is_behind))
      (scanning_within e c.memory k p xs r parts.front parts.front_notes parts.is_front)
  execution_within (read p b) d n h = ap (λ (x : Done). x.scanned.trials) (reading_done p b c d n h).2
  execution_within (write xs) d n h =
      let one = both-done (string_in e c.memory xs) _ d n h in
      let two = both-done (shortened one.front) _ d one.notes one.is_behind in
      let three = both-done (put_record lent two.front c) _ d two.notes two.is_behind in
      unscanned _ d three.notes three.is_behind
  execution_within (execute k) d n h = unscanned _ d n h
  execution_within return d n h = unscanned _ d n h

  concluded_within : (x : Statement) (w : Result Done) → execution e lent x c ≡ w
      → StepWithin (scan_size_in c.memory x) (concluded c w).answer.scanned.trials
  unfolding concluded no_scan
  concluded_within x (done d n) h = execution_within x d n h
  concluded_within x (stop n) h = none_within (scan_size_in c.memory x)

-- W8.2 of every step
pub step_within : (e : Edition) (p : Program) (lent : ℕ) (c : State)
    → StepWithin (scan_size_in c.memory (statement_at p c.next)) (step e p lent c).answer.scanned.trials
unfolding step no_scan
step_within e p lent c =
    let x = statement_at p c.next in
    cond_cases (λ (s : Stepped). StepWithin (scan_size_in c.memory x) s.answer.scanned.trials) (eqb (turned_down_by p c) 0)
    (λ _. concluded_within e lent c x (execution e lent x c) refl) (λ _. none_within (scan_size_in c.memory x))
