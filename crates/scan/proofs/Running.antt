-- The run from group to group: what holds between two turns, and what each turn makes of it. Assumes nothing.
use mathlib.Core.List.{List, [], ◌∷◌, ◌++◌, append-nil, append_assoc}
use mathlib.Core.Path.{◌≡◌, refl, sym, ◌∙◌, ap}
use Prim.Native.Nat.{ℕ, ◌+◌, ◌*◌, ◌-◌, ◌≤◌, ◌<◌}
use native.Mathlib.Omega.{arith}
use lib.ListN.{length, drop, set, length-append, length-drop}
use lib.Seq.{drop-drop}
use Rattle.scanning.specs.Laws.{slide_slid}
use Rattle.scanning.specs.Splits as Splits
use Rattle.scanning.specs.Splits.{free}
use Rattle.scanning.specs.Trials.{Tried, found, other, few, match, slide}
use Rattle.scan.specs.Rows.{row_element, scan_element, scan_elements, pattern_of, sizes_at}
use Rattle.scan.specs.Rows.{row_answer}
use Rattle.std.specs.Prelude.{◌⊎◌}
use Rattle.std.proofs.Common.{inl, inr}
use Rattle.scan.specs.declared.Failure.{Failure}
use Rattle.scan.specs.declared.Failure.TheVariants.{Other, Few}
use Rattle.scan.specs.Steps.{test_of, tried_as, passed_behind, resumed_trial, group_at, WholeGroup, FailedGroup, SkipSays}
use Rattle.scan.specs.declared.Element.{Element}
use Rattle.scan.proofs.Answers.{row-set, row_settled, outcome, RunFound}
use Rattle.scan.proofs.Rows.{elements_cons, elements_none, sizes-length, match-other}
use Rattle.scan.proofs.Slides.{resumed_none, slides_on, slides_off, slides_few, slides_over, slides_found, slides_whole}

-- the group from row g on is tried at place, having come from the end of the group before; the lengths before it are settled
pub record Running (reference values rows : List ℕ) (count : ℕ) (answer : List ℕ) (g from place trials : ℕ) : Type 0 where
  pub pre : List ℕ
  pub size : length pre ≡ g
  pub left : answer ≡ row_answer count (pre ++ (0 ∷ sizes_at rows (count - g) g))
  pub same : outcome reference values rows count
      ≡ resumed_trial pre (place - from) trials (slide (group_at values rows count g) (drop place reference))
  pub more : g < count
  pub low : from ≤ place
  pub inside : place ≤ length reference
  pub bound : trials ≤ 20 * place + g
  pub short : length reference ≤ 1024
  pub most : count ≤ 20

-- the next group leaves less to do: places count more than groups, of which there are 20 at most
pub run_less : (size count place g end j : ℕ) → place ≤ end → end ≤ size → g ≤ j → j + 1 < count
    → 21 * (size - end) + (count - (j + 1)) < 21 * (size - place) + (count - g)
run_less size count place g end j forth inside low more = omega arith

-- the two failures differ
e_differs : Other ≡ Few → ⊥
e_differs e = let z : ◌≡◌ {A = ℕ} 0 1 = cc in absurd (omega arith)

module _ {reference values rows : List ℕ} {count : ℕ} where
  pub run-begins : {answer : List ℕ} → length reference ≤ 1024 → count ≤ 20 → 0 < count → answer ≡ row_answer count (0 ∷ sizes_at rows count 0)
      → Running reference values rows count answer 0 0 0 0
  unfolding pattern_of
  run-begins short most h e =
      let z : count ≡ count - 0 = omega arith in
      record {
        pre = [];
        size = refl;
        left = e ∙ ap (λ (n : ℕ). row_answer count (0 ∷ sizes_at rows n 0)) z;
        same =
            ap (λ (n : ℕ). slide (match (scan_elements values rows n 0)) reference) z
            ∙ sym (resumed_none (slide (group_at values rows count 0) reference) (slide_slid (group_at values rows count 0) reference));
        more = h;
        low = omega arith;
        inside = omega arith;
        bound = omega arith;
        short = short;
        most = most;
      }

  module _ {answer : List ℕ} {g from place trials : ℕ} (r : Running reference values rows count answer g from place trials) where
    abbrev row : List ℕ → Tried
    row = group_at values rows count g

    -- what the slide from this place on is, is what the run is
    comes : (x : Tried) → resumed_trial r.pre (place - from) trials (slide row (drop place reference)) ≡ x
        → outcome reference values rows count ≡ x
    comes x e = r.same ∙ e

    -- the run at a place further right
    at_place : (place' trials' : ℕ) → from ≤ place' → place' ≤ length reference → trials' ≤ 20 * place' + g
        → outcome reference values rows count ≡ resumed_trial r.pre (place' - from) trials' (slide row (drop place' reference))
        → Running reference values rows count answer g from place' trials'
    at_place place' trials' low inside bound same =
        record {
          pre = r.pre;
          size = r.size;
          left = r.left;
          same = same;
          more = r.more;
          low = low;
          inside = inside;
          bound = bound;
          short = r.short;
          most = r.most;
        }

    pub run_skips : {e : Element} {k : ℕ} → e ≡ row_element rows g → SkipSays (drop place reference) (scan_element values e) k
        → Running reference values rows count answer g from (place + k) (trials + k)
    run_skips {e} {k} read s =
        let rest : List Splits.Element = scan_elements values rows (count - (g + 1)) (g + 1) in
        let fails : (j : ℕ) → j < k → row (drop j (drop place reference)) ≡ other 1 =
        λ j h.
        ap (λ (p : List Splits.Element). match p (drop j (drop place reference))) (elements_cons values rows count g r.more)
        ∙ match-other rest (drop j (drop place reference)) (scan_element values (row_element rows g))
        (ap (λ (x : Element). test_of (scan_element values x) (drop j (drop place reference))) (sym read) ∙ s.fails j h) in
        let gap : place - from + k ≡ place + k - from = omega (arith, r.low) in
        at_place (place + k) (trials + k) (omega (arith, r.low)) (omega (arith, s.inside, length-drop place reference, r.inside))
        (omega (arith, r.bound))
        (r.same
        ∙ slides_over r.pre row k (drop place reference) (place - from) trials s.inside fails
        ∙ ap (λ (l : List ℕ). resumed_trial r.pre (place - from + k) (trials + k) (slide row l)) (drop-drop k place reference)
        ∙ ap (λ (n : ℕ). resumed_trial r.pre n (trials + k) (slide row (drop (place + k) reference))) gap)

    run_moves : {n : ℕ} → FailedGroup reference values rows count g place n (other n) → place < length reference
        → Running reference values rows count answer g from (place + 1) (trials + n)
    run_moves {n} f h =
        let gap : place - from + 1 ≡ place + 1 - from = omega (arith, r.low) in
        at_place (place + 1) (trials + n) (omega (arith, r.low)) (omega arith) (omega (arith, r.bound, f.few))
        (r.same
        ∙ slides_on r.pre row (drop place reference) (place - from) trials n f.same (omega (arith, length-drop place reference))
        ∙ ap (λ (l : List ℕ). resumed_trial r.pre (place - from + 1) (trials + n) (slide row l)) (drop-drop 1 place reference)
        ∙ ap (λ (m : ℕ). resumed_trial r.pre m (trials + n) (slide row (drop (place + 1) reference))) gap)

    run_stops : {n : ℕ} → FailedGroup reference values rows count g place n (other n) → place ≡ length reference
        → outcome reference values rows count ≡ few (trials + n)
    run_stops {n} f h =
        r.same ∙ slides_off r.pre row (drop place reference) (place - from) trials n f.same (omega (arith, length-drop place reference))

    run_ends : {n : ℕ} → FailedGroup reference values rows count g place n (few n) → outcome reference values rows count ≡ few (trials + n)
    run_ends {n} f = r.same ∙ slides_few r.pre row (drop place reference) (place - from) trials n f.same

    -- a group that failed ends the run where too few bytes are left or no place, and moves on elsewhere
    pub run_over : (failure : Failure) {n : ℕ} → FailedGroup reference values rows count g place n (tried_as failure n)
        → (failure ≡ Few) ⊎ (place ≡ length reference) → outcome reference values rows count ≡ few (trials + n)
    unfolding tried_as
    run_over Few f why = run_ends f
    run_over Other f (inl e) = absurd (e_differs e)
    run_over Other f (inr at) = run_stops f at

    pub run_on : (failure : Failure) {n : ℕ} → FailedGroup reference values rows count g place n (tried_as failure n)
        → (failure ≡ Few → ⊥) → place < length reference → Running reference values rows count answer g from (place + 1) (trials + n)
    unfolding tried_as
    run_on Few f differs h = absurd (differs refl)
    run_on Other f differs h = run_moves f h

    module _ {j end : ℕ} (w : WholeGroup reference values rows count g place j end) where
      abbrev gap : ℕ
      gap = place - from

      abbrev sizes : List ℕ
      sizes = sizes_at rows (j - g) g

      -- the group found, with ms behind it
      with-found : (ms : List ℕ) → group_at values rows count j (drop end reference) ≡ found ms 0
          → outcome reference values rows count ≡ found (r.pre ++ (gap ∷ (sizes ++ ms))) (trials + (j - g))
      with-found ms e =
          let n : length sizes + 0 ≡ j - g = omega (arith, sizes-length rows (j - g) g) in
          r.same
          ∙ slides_found r.pre row (drop place reference) sizes ms gap trials 0 (w.reached.same ∙ ap (passed_behind sizes) e)
          ∙ ap (λ (m : ℕ). found (r.pre ++ (gap ∷ (sizes ++ ms))) (trials + m)) n

      pub run-done : j ≡ count → RunFound reference values rows count (set answer (3 + g) gap) (trials + (j - g))
      unfolding match
      run-done e =
          let none : group_at values rows count j (drop end reference) ≡ found [] 0 =
          ap (λ (p : List Splits.Element). match p (drop end reference)) (elements_none values rows count j (omega arith)) in
          let all : sizes ++ [] ≡ sizes_at rows (count - g) g =
          append-nil sizes ∙ ap (λ (n : ℕ). sizes_at rows (n - g) g) e in
          record {
            row = r.pre ++ (gap ∷ sizes_at rows (count - g) g);
            same = with-found [] none ∙ ap (λ (l : List ℕ). found (r.pre ++ (gap ∷ l)) (trials + (j - g))) all;
            left =
                ap (λ (l : List ℕ). set l (3 + g) gap) r.left
                ∙ row-set count r.pre (sizes_at rows (count - g) g) 0 gap (3 + g) (omega (arith, r.size));
            size =
                omega
                (arith, length-append r.pre (gap ∷ sizes_at rows (count - g) g), sizes-length rows (count - g) g, r.size, r.more);
          }

      -- the lengths settled with this group
      abbrev settled : List ℕ
      settled = r.pre ++ (gap ∷ sizes)

      settled_size : length settled ≡ j + 1
      settled_size =
          omega (arith, length-append r.pre (gap ∷ sizes), sizes-length rows (j - g) g, r.size, w.reached.low)

      settled-left : j < count → set answer (3 + g) gap ≡ row_answer count (settled ++ (0 ∷ sizes_at rows (count - (j + 1)) (j + 1)))
      settled-left h =
          ap (λ (l : List ℕ). set l (3 + g) gap) r.left
          ∙ row_settled rows r.pre count g j gap r.size w.reached.low h (w.filler h)

      -- behind the group stands a free filler
      filled : j < count → scan_elements values rows (count - j) j ≡ free ∷ scan_elements values rows (count - (j + 1)) (j + 1)
      unfolding scan_element
      filled h =
          elements_cons values rows count j h
          ∙ ap (λ (x : Element). scan_element values x ∷ scan_elements values rows (count - (j + 1)) (j + 1)) (w.filler h)

      pub run_last : j + 1 ≡ count
          → RunFound reference values rows count (set (set answer (3 + g) gap) (3 + (j + 1)) (length reference - end)) (trials + (j - g))
      unfolding match sizes_at
      run_last e =
          let tail : ℕ = length reference - end in
          let alone : scan_elements values rows (count - j) j ≡ free ∷ [] =
          filled (omega arith) ∙ ap (λ (p : List Splits.Element). free ∷ p) (elements_none values rows count (j + 1) (omega arith)) in
          let last : group_at values rows count j (drop end reference) ≡ found (tail ∷ []) 0 =
          ap (λ (p : List Splits.Element). match p (drop end reference)) alone
          ∙ ap (λ (n : ℕ). found (n ∷ []) 0) (length-drop end reference) in
          let none : count - (j + 1) ≡ 0 = omega arith in
          record {
            row = settled ++ (tail ∷ []);
            same =
                with-found (tail ∷ []) last
                ∙ ap (λ (l : List ℕ). found l (trials + (j - g))) (sym (append_assoc r.pre (gap ∷ sizes) (tail ∷ [])));
            left =
                ap (λ (l : List ℕ). set l (3 + (j + 1)) tail)
                (settled-left (omega arith) ∙ ap (λ (n : ℕ). row_answer count (settled ++ (0 ∷ sizes_at rows n (j + 1)))) none)
                ∙ row-set count settled [] 0 tail (3 + (j + 1)) (omega (arith, settled_size));
            size = omega (arith, length-append settled (tail ∷ []), settled_size);
          }

      pub run-next : j + 1 < count
          → Running reference values rows count (set answer (3 + g) gap) (j + 1) end end (trials + (j - g))
      unfolding match
      run-next h =
          let rest : List Splits.Element = scan_elements values rows (count - (j + 1 + 1)) (j + 1 + 1) in
          let e : Splits.Element = scan_element values (row_element rows (j + 1)) in
          let next : scan_elements values rows (count - (j + 1)) (j + 1) ≡ e ∷ rest = elements_cons values rows count (j + 1) h in
          let s : List ℕ = drop end reference in
          let slides : group_at values rows count j s ≡ slide (group_at values rows count (j + 1)) s =
          ap (λ (p : List Splits.Element). match p s) (filled (omega arith) ∙ ap (λ (p : List Splits.Element). free ∷ p) next)
          ∙ ap (λ (p : List Splits.Element). slide (match p) s) (sym next) in
          let none : 0 ≡ end - end = omega arith in
          record {
            pre = settled;
            size = settled_size;
            left = settled-left (omega arith);
            same =
                r.same
                ∙ slides_whole r.pre row (drop place reference) sizes s (group_at values rows count (j + 1)) gap trials
                (w.reached.same ∙ ap (passed_behind sizes) slides)
                ∙ ap (λ (n : ℕ). resumed_trial settled 0 (trials + n) (slide (group_at values rows count (j + 1)) s)) (sizes-length rows (j - g) g)
                ∙ ap (λ (n : ℕ). resumed_trial settled n (trials + (j - g)) (slide (group_at values rows count (j + 1)) s)) none;
            more = h;
            low = omega arith;
            inside = w.reached.inside;
            bound = omega (arith, r.bound, w.reached.forth, w.reached.low);
            short = r.short;
            most = r.most;
          }
