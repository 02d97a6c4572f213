-- A scanning statement that is done: what it searched, its answer as numbers, and the memory it left. Assumes nothing.
use Rattle.std.specs.Prelude.{List, map, ◌≡◌, refl, ℕ, ◌-◌, length, drop, replicate}
use Rattle.std.proofs.Math.Option.{Option, none, some}
use Rattle.std.proofs.Common.{sym, ◌∙◌, ap, subst, subst₂, take_at}
use Rattle.std.proofs.lemmas.List.{length-map}
use Rattle.base.specs.Edition.{Edition}
use Rattle.syntax.specs.Program as Program
use Rattle.syntax.specs.Program.{Part, PatternElement, Direction, Branch}
use Rattle.machine.specs.Ends.{Ending, stops, both-done, done_value}
use Rattle.machine.specs.Scanning.{Searched, turned, Valued, without_fillers, naming, replacing, ScanLeft, leaving, scanning_in}
use Rattle.machine.specs.State.{Memory, State, going_to}
use Rattle.machine.specs.StepEnds.{scanning_done}
use Rattle.machine.specs.Step.{Done, execution, concluded}
use Rattle.scanning.specs.Call.{most_elements, split_numbers, answer_numbers, split_in}
use Rattle.scanning.specs.FirstFit.{scan_first_fit}
use Rattle.scanning.specs.Laws.{fits_count}
use Rattle.scanning.specs.Splits.{Element, Split, FirstFit, AnswersFirstFit}
use Rattle.scanning.specs.Trials.{Scanned, scan}
use Rattle.values.specs.Result.{Result, done, stop, pure}
use Rattle.values.specs.ResultLaws.{stops_some}
use Rattle.calls.specs.Demands.{LeftBy, ScanClaim}

-- a split that has so many lengths is read back from the answer's numbers
split-back : (count : ℕ) (s : Option Split) (trials notes : ℕ) → ((a : Split) → s ≡ some a → length a.lengths ≡ count)
    → split_in count (split_numbers s trials notes) ≡ s
unfolding split_in split_numbers
split-back count none trials notes h = refl
split-back count (some a) trials notes h =
    let back = take_at a.lengths (replicate (most_elements - length a.lengths) 0) count (h a refl) in
    ap some (λ i. record { start = a.start; lengths = back i })

-- the split of a scan is read back from its answer's numbers
pub scanned_back : (p : List Element) (r : List ℕ) (count notes : ℕ) → length p ≡ count
    → split_in count (answer_numbers notes (scan p r)) ≡ (scan p r).split
unfolding answer_numbers FirstFit
scanned_back p r count notes size =
    split-back count (scan p r).split (scan p r).trials notes
    (λ a e. fits_count p r a (((scan_first_fit p r).first a e a).0 refl).0 ∙ size)

-- what naming and replacement left
left_by : (e : Edition) (m : Memory) (d : Direction) (xs : List PatternElement) (r : Option (List Program.Element)) (x : Searched)
    (vs : List Valued) (a : Scanned) (s : Option Split) (l : ScanLeft) (n : ℕ) → leaving e d x vs r (without_fillers xs m) a s ≡ done l n
    → LeftBy e m d xs r x vs s l.memory
unfolding leaving LeftBy pure
left_by e m d xs r x vs a none l n q =
    let same : l ≡ record { memory = without_fillers xs m; scanned = a } = sym (done_value q) in
    ap (λ k. k.memory) same
left_by e m d xs r x vs a (some s) l n q =
    let named = naming vs (drop s.start (turned d x.reference)) s.lengths (without_fillers xs m) in
    let parts = both-done (replacing e d x s r named) (λ k. pure (record { memory = k; scanned = a })) l n q in
    let after = parts.front in
    let same : l ≡ record { memory = after; scanned = a } = sym (done_value parts.is_behind) in
    let memories : after ≡ l.memory = sym (ap (λ k. k.memory) same) in
    (parts.front_notes, parts.is_front ∙ ap (λ k. done k parts.front_notes) memories)

-- a scanning statement that is done answers the first fit and leaves what naming and replacement make of it
pub scanning_scans : (e : Edition) (m : Memory) (d : Direction) (q : Part) (xs : List PatternElement) (r : Option (List Program.Element))
    (l : ScanLeft) (n notes : ℕ) → scanning_in e m d q xs r ≡ done l n → ScanClaim e m d q xs r (answer_numbers notes l.scanned) l.memory
scanning_scans e m d q xs r l n notes is =
    let z = scanning_done e m d q xs r l n is in
    let x = z.searched in
    let vs = z.valued in
    let p = map (λ v. v.element) vs in
    let reference = turned d x.reference in
    let a = scan p reference in
    let back : split_in (length vs) (answer_numbers notes l.scanned) ≡ a.split =
    ap (λ k. split_in (length vs) (answer_numbers notes k)) z.is_scanned
    ∙ scanned_back p reference (length vs) notes (length-map vs (λ v. v.element)) in
    record {
      searched = x;
      searched_notes = z.searched_notes;
      is_searched = z.is_searched;
      valued = vs;
      valued_notes = z.valued_notes;
      is_valued = z.is_valued;
      first_fit = subst (AnswersFirstFit p reference) (sym back) (scan_first_fit p reference);
      leaves = subst (λ s. LeftBy e m d xs r x vs s l.memory) (sym back) (left_by e m d xs r x vs a a.split l z.left_notes z.is_left);
    }

-- a scanning step that is not stopped
pub concluded_scans : {P : Done → Type 0} (e : Edition) (lent : ℕ) (c : State) (d : Direction) (q : Part) (xs : List PatternElement)
    (r : Option (List Program.Element)) (f : Branch) (w : Result Done) → execution e lent (Program.scan d q xs r f) c ≡ w → Ending P w
    → (concluded c w).answer.number ≡ 0
    → ScanClaim e c.memory d q xs r (answer_numbers (concluded c w).answer.notes (concluded c w).answer.scanned) (concluded c w).state.memory
unfolding execution concluded pure going_to
concluded_scans e lent c d q xs r f (done k n) is ended zero =
    let parts = both-done (scanning_in e c.memory d q xs r) _ k n is in
    let l = parts.front in
    let same = done_value parts.is_behind in
    subst₂ (λ (a : Scanned) (m : Memory). ScanClaim e c.memory d q xs r (answer_numbers n a) m) (ap (λ x. x.scanned) same)
    (ap (λ x. x.state.memory) same) (scanning_scans e c.memory d q xs r l parts.front_notes n parts.is_front)
concluded_scans e lent c d q xs r f (stop k) is (stops h) zero = absurd (stops_some h zero)
