-- Rows of a pattern one after the other, and what the test of one element says of the scan. Assumes nothing.
use mathlib.Core.Bool.{Bool, true, false, cond, true≢false}
use mathlib.Core.List.{List, [], ◌∷◌, ◌++◌, append_assoc}
use mathlib.Core.Path.{◌≡◌, refl, sym, ◌∙◌, ap, subst}
use Prim.Native.Nat.{ℕ, zero, suc, ◌+◌, ◌-◌, ◌≤◌, ◌<◌}
use native.Mathlib.Omega.{arith}
use lib.Dec.{leb}
use lib.ListN.{length, take, drop, length-append, length-drop}
use lib.Seq.{length-take-le, drop-drop}
use borrow.Author.Tests.{leb-true}
use Rattle.base.specs.Lists.{begins}
use Rattle.scanning.specs.Splits as Splits
use Rattle.scanning.specs.Splits.{string, fixed, free}
use Rattle.scanning.specs.Trials.{Tried, found, other, few, element_passed, tested, match}
use Rattle.scan.specs.Rows.{row_element, scan_element, scan_elements, size_of, sizes_at, RowSized, RowGood}
use Rattle.scan.specs.Steps.{judged, test_of, passed_behind, tried_as, group_at, Reached}
use Rattle.scan.specs.declared.Element.{Element}
use Rattle.scan.specs.declared.Element.TheVariants.{Part, Fixed, Free}
use Rattle.scan.specs.declared.Failure.{Failure}
use Rattle.scan.specs.declared.Failure.TheVariants.{Other, Few}
use Rattle.std.specs.Prelude.{Some, None, Ok, Err}

-- a good element's length can be told
pub good_sized : (values : List ℕ) (e : Element) → RowGood values e → RowSized e
unfolding RowGood RowSized
good_sized values (Part from to) h = record { order = h.order; small = h.small }
good_sized values (Fixed n) h = h
good_sized values Free h = h

module _ (values rows : List ℕ) where
  -- the elements from row i on begin with that of row i
  pub elements_cons : (count i : ℕ) → i < count
      → scan_elements values rows (count - i) i ≡ scan_element values (row_element rows i) ∷ scan_elements values rows (count - (i + 1)) (i + 1)
  unfolding scan_elements
  elements_cons count i h =
      let e : count - i ≡ suc (count - (i + 1)) = omega arith in
      ap (λ (n : ℕ). scan_elements values rows n i) e

  -- behind the last row there is none
  pub elements_none : (count i : ℕ) → count ≤ i → scan_elements values rows (count - i) i ≡ []
  unfolding scan_elements
  elements_none count i h = let e : count - i ≡ 0 = omega arith in ap (λ (n : ℕ). scan_elements values rows n i) e

module _ (rows : List ℕ) where
  -- the lengths of m rows and of n rows behind them
  pub sizes-append : (m n i : ℕ) → sizes_at rows (m + n) i ≡ sizes_at rows m i ++ sizes_at rows n (i + m)
  unfolding sizes_at
  sizes-append zero n i =
      let e : i ≡ i + 0 = omega arith in
      let f : zero + n ≡ n = omega arith in
      ap (λ (k : ℕ). sizes_at rows k i) f ∙ ap (λ (k : ℕ). sizes_at rows n k) e
  sizes-append (suc m) n i =
      let e : i + 1 + m ≡ i + suc m = omega arith in
      let f : suc m + n ≡ suc (m + n) = omega arith in
      ap (λ (k : ℕ). sizes_at rows k i) f
      ∙ ap (λ (l : List ℕ). size_of (row_element rows i) ∷ l)
      (sizes-append m n (i + 1) ∙ ap (λ (k : ℕ). sizes_at rows m (i + 1) ++ sizes_at rows n k) e)

  pub sizes-length : (n i : ℕ) → length (sizes_at rows n i) ≡ n
  unfolding sizes_at
  sizes-length zero i = refl
  sizes-length (suc n) i = ap suc (sizes-length n (i + 1))

  -- one row more
  pub sizes-more : (g i : ℕ) → g ≤ i → sizes_at rows (i + 1 - g) g ≡ sizes_at rows (i - g) g ++ (size_of (row_element rows i) ∷ [])
  unfolding sizes_at
  sizes-more g i h =
      let e : i + 1 - g ≡ i - g + 1 = omega arith in
      let f : g + (i - g) ≡ i = omega arith in
      ap (λ (n : ℕ). sizes_at rows n g) e
      ∙ sizes-append (i - g) 1 g
      ∙ ap (λ (k : ℕ). sizes_at rows (i - g) g ++ (size_of (row_element rows k) ∷ [])) f

  -- one row more, from the first on
  pub sizes_last : (i : ℕ) → sizes_at rows (i + 1) 0 ≡ sizes_at rows i 0 ++ (size_of (row_element rows i) ∷ [])
  sizes_last i =
      let e : i + 1 ≡ i + 1 - 0 = omega arith in
      let f : i - 0 ≡ i = omega arith in
      ap (λ (n : ℕ). sizes_at rows n 0) e
      ∙ sizes-more 0 i (omega arith)
      ∙ ap (λ (n : ℕ). sizes_at rows n 0 ++ (size_of (row_element rows i) ∷ [])) f

  -- the rows up to the end, in two parts
  pub sizes-split : (count g j : ℕ) → g ≤ j → j ≤ count
      → sizes_at rows (count - g) g ≡ sizes_at rows (j - g) g ++ sizes_at rows (count - j) j
  sizes-split count g j low high =
      let e : count - g ≡ j - g + (count - j) = omega arith in
      let f : g + (j - g) ≡ j = omega arith in
      ap (λ (n : ℕ). sizes_at rows n g) e
      ∙ sizes-append (j - g) (count - j) g
      ∙ ap (λ (k : ℕ). sizes_at rows (j - g) g ++ sizes_at rows (count - j) k) f

-- the outcomes of a test by what was tested
judged-piece : (a b : Bool) (l n : ℕ) → judged a b l ≡ Ok (Some n) → (a ≡ true) × (b ≡ true) × (n ≡ l)
unfolding judged
judged-piece false b l n e = let z : ◌≡◌ {A = ℕ} 0 1 = cc in absurd (omega arith)
judged-piece true false l n e = let z : ◌≡◌ {A = ℕ} 0 1 = cc in absurd (omega arith)
judged-piece true true l n e = (refl, refl, cc)

judged-other : (a b : Bool) (l : ℕ) → judged a b l ≡ Err Other → (a ≡ true) × (b ≡ false)
unfolding judged
judged-other false b l e = let z : ◌≡◌ {A = ℕ} 0 1 = cc in absurd (omega arith)
judged-other true false l e = (refl, refl)
judged-other true true l e = let z : ◌≡◌ {A = ℕ} 0 1 = cc in absurd (omega arith)

judged_few : (a b : Bool) (l : ℕ) → judged a b l ≡ Err Few → a ≡ false
unfolding judged
judged_few false b l e = refl
judged_few true false l e = let z : ◌≡◌ {A = ℕ} 0 1 = cc in absurd (omega arith)
judged_few true true l e = let z : ◌≡◌ {A = ℕ} 0 1 = cc in absurd (omega arith)

module _ (p : List Splits.Element) (s : List ℕ) where
  -- an element that takes n bytes passes, and the row goes on behind them
  pub match-piece : (e : Splits.Element) (n : ℕ) → test_of e s ≡ Ok (Some n) → match (e ∷ p) s ≡ element_passed n (match p (drop n s))
  unfolding match test_of tested
  match-piece (string w) n h =
      let t = judged-piece (leb (length w) (length s)) (begins w s) (length w) n h in
      rw (t.0, t.1, t.2)
  match-piece (fixed m) n h = let t = judged-piece (leb m (length s)) true m n h in rw (t.0, t.2)
  match-piece free n h = let z : ◌≡◌ {A = ℕ} 0 1 = cc in absurd (omega arith)

  -- other bytes: one trial
  pub match-other : (e : Splits.Element) → test_of e s ≡ Err Other → match (e ∷ p) s ≡ other 1
  unfolding match test_of tested
  match-other (string w) h =
      let t = judged-other (leb (length w) (length s)) (begins w s) (length w) h in
      rw (t.0, t.1)
  match-other (fixed m) h = let t = judged-other (leb m (length s)) true m h in let z : ◌≡◌ {A = Bool} true false = t.1 in absurd (true≢false z)
  match-other free h = let z : ◌≡◌ {A = ℕ} 0 1 = cc in absurd (omega arith)

  -- too few bytes: one trial
  pub match_few : (e : Splits.Element) → test_of e s ≡ Err Few → match (e ∷ p) s ≡ few 1
  unfolding match test_of tested
  match_few (string w) h = rw (judged_few (leb (length w) (length s)) (begins w s) (length w) h)
  match_few (fixed m) h = rw (judged_few (leb m (length s)) true m h)
  match_few free h = let z : ◌≡◌ {A = ℕ} 0 1 = cc in absurd (omega arith)

-- the piece that a good element takes has its length, and ends inside
pub piece_size : (values s : List ℕ) (e : Element) (n : ℕ) → RowGood values e → test_of (scan_element values e) s ≡ Ok (Some n)
    → (n ≡ size_of e) × (n ≤ length s)
unfolding RowGood test_of scan_element size_of
piece_size values s (Part from to) n good h =
    let w : List ℕ = take (to - from) (drop from values) in
    let t = judged-piece (leb (length w) (length s)) (begins w s) (length w) n h in
    let size : length w ≡ to - from = length-take-le (to - from) (drop from values) (omega (arith, length-drop from values, good.inside)) in
    (t.2 ∙ size, omega (arith, leb-true (length w) (length s) t.0, t.2))
piece_size values s (Fixed m) n good h =
    let t = judged-piece (leb m (length s)) true m n h in
    (t.2, omega (arith, leb-true m (length s) t.0, t.2))
piece_size values s Free n good h = let z : ◌≡◌ {A = ℕ} 0 1 = cc in absurd (omega arith)

-- what is tested is no filler
judged-filler : (a b : Bool) (l : ℕ) → judged a b l ≡ Ok None → ⊥
unfolding judged
judged-filler false b l e = let z : ◌≡◌ {A = ℕ} 0 1 = cc in omega arith
judged-filler true false l e = let z : ◌≡◌ {A = ℕ} 0 1 = cc in omega arith
judged-filler true true l e = let z : ◌≡◌ {A = ℕ} 0 1 = cc in omega arith

-- only a free filler is not tested
pub filler_free : (values s : List ℕ) (e : Element) → test_of (scan_element values e) s ≡ Ok None → e ≡ Free
unfolding test_of scan_element
filler_free values s (Part from to) h =
    let w : List ℕ = take (to - from) (drop from values) in
    absurd (judged-filler (leb (length w) (length s)) (begins w s) (length w) h)
filler_free values s (Fixed m) h = absurd (judged-filler (leb m (length s)) true m h)
filler_free values s Free h = refl

-- no element passed leaves the row as it is
behind_nil : (t : Tried) → passed_behind [] t ≡ t
unfolding passed_behind
behind_nil (found ms n) = ap (found ms) (omega arith)
behind_nil (other n) = ap other (omega arith)
behind_nil (few n) = ap few (omega arith)

-- one element more passed
behind_passed : (ls : List ℕ) (l : ℕ) (t : Tried) → passed_behind ls (element_passed l t) ≡ passed_behind (ls ++ (l ∷ [])) t
unfolding passed_behind element_passed
behind_passed ls l (found ms n) =
    let e : length ls + suc n ≡ length (ls ++ (l ∷ [])) + n = omega (arith, length-append ls (l ∷ [])) in
    rw (e, append_assoc)
behind_passed ls l (other n) =
    ap other (omega (arith, length-append ls (l ∷ [])))
behind_passed ls l (few n) =
    ap few (omega (arith, length-append ls (l ∷ [])))

-- a group of elements from row g on, tested from a place on, as far as row i
module _ {reference values rows : List ℕ} {count g place : ℕ} where
  pub group_begins : g ≤ count → place ≤ length reference → Reached reference values rows count g place g place
  unfolding sizes_at
  group_begins start inside =
      let e : g - g ≡ 0 = omega arith in
      record {
        low = omega arith;
        high = start;
        forth = omega arith;
        inside = inside;
        same =
            sym (ap (λ (n : ℕ). passed_behind (sizes_at rows n g) (group_at values rows count g (drop place reference))) e
            ∙ behind_nil (group_at values rows count g (drop place reference)));
      }

  module _ {i at : ℕ} (r : Reached reference values rows count g place i at) (more : i < count) where
    abbrev here : Splits.Element
    here = scan_element values (row_element rows i)

    abbrev rest : List Splits.Element
    rest = scan_elements values rows (count - (i + 1)) (i + 1)

    reach : (t : Tried) → match (here ∷ rest) (drop at reference) ≡ t
        → group_at values rows count g (drop place reference) ≡ passed_behind (sizes_at rows (i - g) g) t
    reach t e =
        r.same
        ∙ ap (λ (p : List Splits.Element). passed_behind (sizes_at rows (i - g) g) (match p (drop at reference))) (elements_cons values rows count i more)
        ∙ ap (passed_behind (sizes_at rows (i - g) g)) e

    pub group_piece : {n : ℕ} → RowGood values (row_element rows i) → test_of here (drop at reference) ≡ Ok (Some n)
        → Reached reference values rows count g place (i + 1) (at + n)
    group_piece {n} good h =
        let size = piece_size values (drop at reference) (row_element rows i) n good h in
        let t : Tried = match rest (drop (at + n) reference) in
        record {
          low = omega (arith, r.low);
          high = omega arith;
          forth = omega (arith, r.forth);
          inside = omega (arith, size.1, length-drop at reference, r.inside);
          same =
              reach (element_passed n (match rest (drop n (drop at reference)))) (match-piece rest (drop at reference) here n h)
              ∙ ap (λ (s : List ℕ). passed_behind (sizes_at rows (i - g) g) (element_passed n (match rest s))) (drop-drop n at reference)
              ∙ behind_passed (sizes_at rows (i - g) g) n t
              ∙ ap (λ (m : ℕ). passed_behind (sizes_at rows (i - g) g ++ (m ∷ [])) t) size.0
              ∙ ap (λ (ls : List ℕ). passed_behind ls t) (sym (sizes-more rows g i r.low));
        }

    group_other : test_of here (drop at reference) ≡ Err Other → group_at values rows count g (drop place reference) ≡ other (i - g + 1)
    unfolding passed_behind
    group_other h =
        reach (other 1) (match-other rest (drop at reference) here h) ∙ ap (λ (n : ℕ). other (n + 1)) (sizes-length rows (i - g) g)

    group_few : test_of here (drop at reference) ≡ Err Few → group_at values rows count g (drop place reference) ≡ few (i - g + 1)
    unfolding passed_behind
    group_few h =
        reach (few 1) (match_few rest (drop at reference) here h) ∙ ap (λ (n : ℕ). few (n + 1)) (sizes-length rows (i - g) g)

    pub group_failed : (failure : Failure) → test_of here (drop at reference) ≡ Err failure
        → group_at values rows count g (drop place reference) ≡ tried_as failure (i - g + 1)
    unfolding tried_as
    group_failed Other h = group_other h
    group_failed Few h = group_few h

-- the first element may be known to pass with a byte
pub group_known : (reference values rows : List ℕ) (count g place : ℕ) (known : Bool) → g < count → place ≤ length reference
    → RowGood values (row_element rows g)
    → (known ≡ true → test_of (scan_element values (row_element rows g)) (drop place reference) ≡ Ok (Some 1))
    → Reached reference values rows count g place (g + cond known 1 0) (place + cond known 1 0)
group_known reference values rows count g place false more inside good passes =
    let e : g ≡ g + 0 = omega arith in
    let f : place ≡ place + 0 = omega arith in
    subst (λ (n : ℕ). Reached reference values rows count g place n (place + 0)) e
    (subst (Reached reference values rows count g place g) f (group_begins (omega arith) inside))
group_known reference values rows count g place true more inside good passes =
    group_piece (group_begins (omega arith) inside) more good (passes refl)
