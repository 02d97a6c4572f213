-- The call: rows of bytes read as elements, the pattern they make, and the promise. Assumes nothing.
use mathlib.Core.Bool.{Bool, true, false, cond, ◌&&◌}
use Rattle.std.specs.Prelude.{None, Some}
use Rattle.std.specs.List.{concat, list_all}
use Rattle.std.specs.Option.{is_some}
use mathlib.Core.List.{List, [], ◌∷◌, ◌++◌}
use mathlib.Core.Option.{Option, none, some}
use mathlib.Core.Path.{◌≡◌, refl, sym, ◌∙◌, ap, ap₂, subst}
use Prim.Native.Nat.{ℕ, zero, suc, ◌+◌, ◌*◌, ◌-◌, ◌/◌, ◌%◌, ◌≤◌, ◌<◌, ◌^◌}
use native.Mathlib.Omega.{arith}
use lib.Dec.{leb, ltb, eqb}
use lib.ListN.{length, get_or, take, drop, replicate}
use lib.Seq.{take_at, take_all, length-take-le, drop-cons}
use Rattle.std.specs.Simd.{first_chunks}
use Rattle.std.proofs.Common.{drop_of_length-le}
use Rattle.std.proofs.lemmas.List.Elements.{All-get_or}
use Rattle.std.proofs.lemmas.List.Sums.{AllPass-from_list_all}
use borrow.Author.Tests.{leb-true, le-leb, lt-leb, lt-ltb, le-ltb}
use Rattle.base.specs.Choice.{both_true}
use Rattle.scanning.specs.Splits as Splits
use Rattle.scanning.specs.Splits.{Split, free, FirstFit, AnswersFirstFit}
use Rattle.scanning.specs.Kinds.{row_kind_of}
use Rattle.scanning.specs.declared.RowKind.{RowKind}
use Rattle.scanning.specs.Trials.{scan}
use Rattle.scanning.specs.Laws.{fits_count}
use Rattle.scanning.specs.FirstFit.{scan_first_fit}
use Rattle.scanning.specs.Call.{longest_reference, most_elements, scan_row_size, number4, row_count, string_of_row, fixed_by, element_of_row}
use Rattle.scanning.specs.Call.{no_answer, join_element, elements_of_rows, pattern_of_rows, split_numbers, answer_numbers, Called, scan_turned_down, scan_with, scan_call}
use Rattle.scanning.specs.Call.{split_in, trials_in, ScanPromise}
use Rattle.scanning.specs.Costs.{scan_size, TrialsWithin}
use Rattle.scanning.specs.CostLaws.{scan_within, trials_back}
use Rattle.scan.specs.Rows.{scan_row, scan_row_at, row_element, scan_element, scan_elements, pattern_of, RowGood, GoodRows, WholeRows, GoodPattern, some_element, is_element}
use Rattle.scan.proofs.Chunks.{concat_length, concat_row, concat_element, chunks_whole, chunks_concat, take_row}
use Rattle.scan.specs.declared.Element.{Element}
use Rattle.scan.specs.declared.Element.TheVariants.{Part, Fixed, Free}

some_cond : (b : Bool) (e : Splits.Element) → some_element (cond b (some e) none) ≡ b
unfolding some_element
some_cond true e = refl
some_cond false e = refl

-- whether what an element holds lies within: a part's ends in order and in the values, a length not negative
unfoldable pub lies : List ℕ → Element → Bool
lies values (Part from to) = leb from to && leb to (length values)
lies values (Fixed n) = ltb n (2 ^ 31)
lies values Free = true

-- the numbers of 4 bytes each are below 2^32
number_bound : (b : List ℕ) → ((i : ℕ) → get_or b i 0 < 256) → (at : ℕ) → number4 b at < 2 ^ 32
unfolding number4
number_bound b bytes at = omega (arith, bytes at, bytes (at + 1), bytes (at + 2), bytes (at + 3))

-- an element that lies within is good
lies_good : (values : List ℕ) (kind a b : ℕ) → a < 2 ^ 32 → b < 2 ^ 32 → lies values (scan_row kind a b) ≡ true → RowGood values (scan_row kind a b)
unfolding scan_row lies RowGood
lies_good values kind a b low high = by (eqb kind 1) (eqb kind 2)
  where
    by : (x y : Bool) → lies values (cond x (Part a b) (cond y (Fixed a) Free)) ≡ true → RowGood values (cond x (Part a b) (cond y (Fixed a) Free))
    by true y h =
        let ends = both_true (leb a b) (leb b (length values)) h in
        record { order = leb-true a b ends.0; inside = leb-true b (length values) ends.1; small = high }
    by false true h = low
    by false false h = tt

-- the element of a row, told by its kind and by what it holds
module _ (values b : List ℕ) (at : ℕ) where
  abbrev told : Bool
  told = is_some (row_kind_of (get_or b at 0)) && lies values (scan_row_at b at)

  abbrev found : Bool → Option Splits.Element
  found t = cond t (some (scan_element values (scan_row_at b at))) none

  pub row_read : at + 12 ≤ length b → element_of_row values b at ≡ found told
  unfolding element_of_row scan_row_size string_of_row fixed_by scan_row_at scan_row scan_element lies
  row_read room = rw (le-leb (at + 12) (length b) room) (by (eqb (get_or b at 0) 1) (eqb (get_or b at 0) 2) (eqb (get_or b at 0) 3))
    where
      from : ℕ
      from = number4 b (at + 4)

      to : ℕ
      to = number4 b (at + 8)

      by : (x y z : Bool)
          → cond x (string_of_row values from to) (cond y (fixed_by from) (cond z (some free) none))
          ≡ cond (is_some (cond x (Some RowKind.String) (cond y (Some RowKind.Fixed) (cond z (Some RowKind.Free) None)))
          && lies values (cond x (Part from to) (cond y (Fixed from) Free)))
          (some (scan_element values (cond x (Part from to) (cond y (Fixed from) Free)))) none
      by true y z = refl
      by false true z = refl
      by false false true = refl
      by false false false = refl

  pub row_cut : length b < at + 12 → element_of_row values b at ≡ none
  unfolding element_of_row scan_row_size
  row_cut h = rw (lt-leb (at + 12) (length b) h)

  -- whether it is one
  pub row_is : at + 12 ≤ length b → some_element (element_of_row values b at) ≡ told
  row_is room = ap some_element (row_read room) ∙ some_cond told (scan_element values (scan_row_at b at))

-- a row that is an element holds a good one
pub element_good : (values row : List ℕ) → length row ≡ 12 → ((i : ℕ) → get_or row i 0 < 256) → is_element values row ≡ true
    → RowGood values (scan_row_at row 0)
unfolding is_element scan_row_at
element_good values row size bytes is =
    let both = both_true (is_some (row_kind_of (get_or row 0 0))) (lies values (scan_row_at row 0)) (sym (row_is values row 0 (omega arith)) ∙ is) in
    lies_good values (get_or row 0 0) (number4 row 4) (number4 row 8) (number_bound row bytes 4) (number_bound row bytes 8) both.1

-- one row more
pub elements-more : (values rows : List ℕ) (n i : ℕ)
    → scan_elements values rows (suc n) i ≡ scan_elements values rows n i ++ (scan_element values (row_element rows (i + n)) ∷ [])
unfolding scan_elements
elements-more values rows zero i =
    let e : i ≡ i + 0 = omega arith in
    ap {B = List Splits.Element} (λ (k : ℕ). scan_element values (row_element rows k) ∷ []) e
elements-more values rows (suc n) i =
    let e : i + 1 + n ≡ i + suc n = omega arith in
    ap (λ (p : List Splits.Element). scan_element values (row_element rows i) ∷ p)
    (elements-more values rows n (i + 1)
    ∙ ap (λ (k : ℕ). scan_elements values rows n (i + 1) ++ (scan_element values (row_element rows k) ∷ [])) e)

-- an element before others, where each may be none
join_told : (a b : Bool) (e : Splits.Element) (p : List Splits.Element)
    → join_element (cond a (some e) none) (cond b (some p) none) ≡ cond (a && b) (some (e ∷ p)) none
unfolding join_element
join_told true true e p = refl
join_told true false e p = refl
join_told false b e p = refl

join_none : (o : Option Splits.Element) → join_element o none ≡ none
unfolding join_element
join_none none = refl
join_none (some e) = refl

module _ (values : List ℕ) (rows : List (List ℕ)) (whole : WholeRows rows) where
  -- n rows from row i on: the pattern where all are elements, none where one is not
  rows_from : (n i : ℕ) → i + n ≡ length rows
      → elements_of_rows values (concat rows) n (12 * i)
      ≡ cond (list_all (is_element values) (drop i rows)) (some (scan_elements values (concat rows) n i)) none
  unfolding elements_of_rows scan_elements scan_row_size is_element
  rows_from zero i e =
      let none_left : drop i rows ≡ [] = drop_of_length-le rows {i = i} (omega arith) in
      ap (λ l. cond (list_all (is_element values) l) (some []) none) (sym none_left)
  rows_from (suc n) i e =
      let inside : i < length rows = omega arith in
      let row : List ℕ = get_or rows i [] in
      let fits : 0 + 12 ≤ length row = omega (arith, whole i inside) in
      let flat : List ℕ = concat rows in
      let behind : List (List ℕ) = drop (i + 1) rows in
      let p : List Splits.Element = scan_elements values flat n (i + 1) in
      let one : suc i ≡ i + 1 = omega arith in
      let further : 12 * i + 12 ≡ 12 * (i + 1) = omega arith in
      let next : drop i rows ≡ row ∷ behind = drop-cons rows i [] inside ∙ ap (λ (m : ℕ). row ∷ drop m rows) one in
      let this : element_of_row values flat (12 * i) ≡ cond (is_element values row) (some (scan_element values (row_element flat i))) none =
      sym (concat_element rows whole i inside values)
      ∙ row_read values row 0 fits
      ∙ ap (λ (b : Bool). cond b (some (scan_element values (scan_row_at row 0))) none) (sym (row_is values row 0 fits))
      ∙ ap (λ (x : Element). cond (is_element values row) (some (scan_element values x)) none) (concat_row rows whole i inside) in
      ap (λ o. join_element o (elements_of_rows values flat n (12 * i + 12))) this
      ∙ ap (λ (m : ℕ). join_element (cond (is_element values row) (some (scan_element values (row_element flat i))) none) (elements_of_rows values flat n m))
      further
      ∙ ap (join_element (cond (is_element values row) (some (scan_element values (row_element flat i))) none)) (rows_from n (i + 1) (omega arith))
      ∙ join_told (is_element values row) (list_all (is_element values) behind) (scan_element values (row_element flat i)) p
      ∙ ap (λ l. cond (list_all (is_element values) l) (some (scan_element values (row_element flat i) ∷ p)) none) (sym next)

  pub rows_read : pattern_of_rows values (concat rows)
      ≡ cond (list_all (is_element values) rows) (some (pattern_of values (concat rows) (length rows))) none
  unfolding pattern_of_rows row_count scan_row_size pattern_of
  rows_read =
      ap (λ (n : ℕ). elements_of_rows values (concat rows) n 0) (omega (arith, concat_length rows whole)) ∙ rows_from (length rows) 0 (omega arith)

  pub rows_good : length rows ≤ 20 → ((i : ℕ) → get_or (concat rows) i 0 < 256) → list_all (is_element values) rows ≡ true → GoodPattern values rows
  unfolding is_element row_element scan_row_at
  rows_good few bytes all =
      record {
        whole = whole;
        good = record { few = few; room = omega (arith, concat_length rows whole); good = each };
      }
    where
      each : (i : ℕ) → i < length rows → RowGood values (row_element (concat rows) i)
      each i inside =
          let flat : List ℕ = concat rows in
          let row : List ℕ = get_or rows i [] in
          let passes : is_element values row ≡ true =
          All-get_or (λ r. is_element values r ≡ true) rows i [] inside (AllPass-from_list_all (is_element values) rows all) in
          let both = both_true (is_some (row_kind_of (get_or row 0 0))) (lies values (scan_row_at row 0)) (sym (row_is values row 0 (omega (arith, whole i inside))) ∙ passes) in
          lies_good values (get_or flat (12 * i) 0) (number4 flat (12 * i + 4)) (number4 flat (12 * i + 8))
          (number_bound flat bytes (12 * i + 4)) (number_bound flat bytes (12 * i + 8))
          (ap (lies values) (sym (concat_row rows whole i inside)) ∙ both.1)

-- a last row cut short is no element
cut_from : (values b : List ℕ) (n i : ℕ) → length b < 12 * (i + n) + 12 → elements_of_rows values b (suc n) (12 * i) ≡ none
unfolding elements_of_rows scan_row_size join_element
cut_from values b zero i short =
    ap (λ o. join_element o (some [])) (row_cut values b (12 * i) (omega arith))
cut_from values b (suc n) i short =
    ap (λ (m : ℕ). join_element (element_of_row values b (12 * i)) (elements_of_rows values b (suc n) m)) (omega arith)
    ∙ ap (join_element (element_of_row values b (12 * i))) (cut_from values b n (i + 1) (omega arith))
    ∙ join_none (element_of_row values b (12 * i))

pub cut_read : (values b : List ℕ) → (length b % 12 ≡ 0 → ⊥) → pattern_of_rows values b ≡ none
unfolding pattern_of_rows row_count scan_row_size
cut_read values b cut =
    ap (λ (n : ℕ). elements_of_rows values b n 0) (omega arith) ∙ cut_from values b (length b / 12) 0 (omega arith)

-- bytes cut to rows
module _ (values elements : List ℕ) (rows : List (List ℕ)) (chunks : rows ≡ first_chunks 12 (length elements / 12) elements) where
  cut_whole : WholeRows rows
  cut_whole = subst WholeRows (sym chunks) (chunks_whole (length elements / 12) elements (omega arith))

  module _ (even : length elements % 12 ≡ 0) where
    cut_flat : concat rows ≡ elements
    cut_flat =
        ap concat chunks ∙ chunks_concat (length elements / 12) elements ∙ take_all (length elements / 12 * 12) elements (omega arith)

    cut_length : 12 * length rows ≡ length elements
    cut_length = sym (concat_length rows cut_whole) ∙ ap length cut_flat

    pub cut_pattern : (b : Bool) → list_all (is_element values) rows ≡ b
        → pattern_of_rows values elements ≡ cond b (some (pattern_of values (concat rows) (length rows))) none
    cut_pattern b all =
        ap (pattern_of_rows values) (sym cut_flat)
        ∙ rows_read values rows cut_whole
        ∙ ap (λ t. cond t (some (pattern_of values (concat rows) (length rows))) none) all

    pub cut_good : length elements ≤ 240 → ((i : ℕ) → get_or elements i 0 < 256) → list_all (is_element values) rows ≡ true → GoodPattern values rows
    cut_good most bytes =
        rows_good values rows cut_whole (omega (arith, cut_length)) (subst (λ l. (i : ℕ) → get_or l i 0 < 256) (sym cut_flat) bytes)

-- the first rows of some bytes
first_elements : (values b : List ℕ) (count n i : ℕ) → i + n ≤ count
    → scan_elements values (take (12 * count) b) n i ≡ scan_elements values b n i
unfolding scan_elements
first_elements values b count zero i h = refl
first_elements values b count (suc n) i h =
    ap₂ {C = List Splits.Element} ◌∷◌ (ap (scan_element values) (take_row b count i (omega arith))) (first_elements values b count n (i + 1) (omega arith))

module _ (values b : List ℕ) (count : ℕ) (good : GoodRows values b count) (part : List ℕ) (first : part ≡ take (12 * count) b)
    (rows : List (List ℕ)) (chunks : rows ≡ first_chunks 12 (length part / 12) part) where
  size : length part ≡ 12 * count
  size = ap length first ∙ length-take-le (12 * count) b good.room

  even : length part % 12 ≡ 0
  even = omega (arith, size)

  flat : concat rows ≡ take (12 * count) b
  flat = cut_flat values part rows chunks even ∙ first

  many : length rows ≡ count
  many = omega (arith, cut_length values part rows chunks even, size)

  pub first_good : GoodPattern values rows
  first_good =
      record {
        whole = cut_whole values part rows chunks;
        good = record {
          few = omega (arith, many, good.few);
          room = omega (arith, cut_length values part rows chunks even, ap length (cut_flat values part rows chunks even));
          good = λ i h.
              let inside : i < count = omega (arith, many) in
              subst (RowGood values) (sym (ap (λ l. row_element l i) flat ∙ take_row b count i inside)) (good.good i inside);
        };
      }

  pub first_pattern : pattern_of values (concat rows) (length rows) ≡ pattern_of values b count
  unfolding pattern_of
  first_pattern =
      ap (λ l. scan_elements values l (length rows) 0) flat
      ∙ ap (λ (n : ℕ). scan_elements values (take (12 * count) b) n 0) many
      ∙ first_elements values b count count 0 (omega arith)

-- how many rows there are, by their bytes
pub count_most : (elements : List ℕ) → length elements ≤ 240 → row_count elements ≤ 20
unfolding row_count scan_row_size
count_most elements h = omega arith

-- what the call is, by what it was lent
module _ (reference values elements : List ℕ) where
  pub call_long : longest_reference < length reference → scan_call reference values elements ≡ scan_turned_down 22
  unfolding scan_call
  call_long h = rw (lt-ltb longest_reference (length reference) h)

  pub call_many : length reference ≤ longest_reference → most_elements < row_count elements
      → scan_call reference values elements ≡ scan_turned_down 23
  unfolding scan_call
  call_many h g = rw (le-ltb longest_reference (length reference) h, lt-ltb most_elements (row_count elements) g)

  module _ (short : length reference ≤ longest_reference) (few : row_count elements ≤ most_elements) where
    call_judged : scan_call reference values elements ≡ scan_with (pattern_of_rows values elements) reference
    unfolding scan_call
    call_judged = rw (le-ltb longest_reference (length reference) short, le-ltb most_elements (row_count elements) few)

    pub call_bad : pattern_of_rows values elements ≡ none → scan_call reference values elements ≡ scan_turned_down 24
    unfolding scan_with
    call_bad e = call_judged ∙ ap (λ (o : Option (List Splits.Element)). scan_with o reference) e

    pub call_scans : {answer : List ℕ} {p : List Splits.Element} → pattern_of_rows values elements ≡ some p → answer ≡ answer_numbers 0 (scan p reference)
        → scan_call reference values elements ≡ record { number = 0; answer = answer }
    unfolding scan_with
    call_scans e a =
        call_judged
        ∙ ap (λ (o : Option (List Splits.Element)). scan_with o reference) e
        ∙ ap (λ (l : List ℕ). record { number = 0; answer = l }) (sym a)

-- the split read back from an answer's numbers
split-back : (o : Option Split) (trials n : ℕ) → ((s : Split) → o ≡ some s → length s.lengths ≡ n) → split_in n (split_numbers o trials 0) ≡ o
unfolding split_in split_numbers
split-back none trials n h = refl
split-back (some s) trials n h =
    ap (λ (ls : List ℕ). some (record { start = s.start; lengths = ls }))
    (take_at s.lengths (replicate (most_elements - length s.lengths) 0) n (h s refl))

-- a call that answers 0 was not turned down
not_refused : (a b : Bool) (x : Called) (number : ℕ) → number ≡ (cond a (scan_turned_down 22) (cond b (scan_turned_down 23) x)).number → number ≡ 0
    → cond a (scan_turned_down 22) (cond b (scan_turned_down 23) x) ≡ x
unfolding scan_turned_down
not_refused true b x number e z = absurd (omega arith)
not_refused false true x number e z = absurd (omega arith)
not_refused false false x number e z = refl

module _ (reference values elements : List ℕ) (number : ℕ) (answer : List ℕ) where
  -- a number and an answer that are the call's carry the first-fit claim and the bound on trials
  pub promise : number ≡ (scan_call reference values elements).number → answer ≡ (scan_call reference values elements).answer
      → ScanPromise reference values elements number answer
  unfolding scan_call scan_with answer_numbers FirstFit
  promise n a = record { result = n; left = a; first_fit = first; trials = within }
    where
      -- what is left, where nothing turns the call down
      scanned : (p : List Splits.Element) → number ≡ 0 → pattern_of_rows values elements ≡ some p → answer ≡ answer_numbers 0 (scan p reference)
      scanned p z e =
          let called : scan_call reference values elements ≡ scan_with (some p) reference =
          not_refused (ltb longest_reference (length reference)) (ltb most_elements (row_count elements))
          (scan_with (pattern_of_rows values elements) reference) number n z
          ∙ ap (λ (o : Option (List Splits.Element)). scan_with o reference) e in
          a ∙ ap (λ (c : Called). c.answer) called

      first : (p : List Splits.Element) → number ≡ 0 → pattern_of_rows values elements ≡ some p
          → AnswersFirstFit p reference (split_in (length p) answer)
      first p z e =
          let told = scan_first_fit p reference in
          let back : split_in (length p) answer ≡ (scan p reference).split =
          ap (split_in (length p)) (scanned p z e)
          ∙ split-back (scan p reference).split (scan p reference).trials (length p)
          (λ s is. fits_count p reference s ((told.first s is s).0 refl).0) in
          subst (AnswersFirstFit p reference) (sym back) told

      within : (p : List Splits.Element) → number ≡ 0 → pattern_of_rows values elements ≡ some p
          → TrialsWithin (scan_size p reference) (trials_in answer)
      within p z e =
          subst (TrialsWithin (scan_size p reference)) (sym (ap trials_in (scanned p z e) ∙ trials_back 0 (scan p reference)))
          (scan_within p reference)

  pub promise_kept : scan_call reference values elements ≡ record { number = number; answer = answer }
      → ScanPromise reference values elements number answer
  promise_kept e = promise (sym (ap (λ (c : Called). c.number) e)) (sym (ap (λ (c : Called). c.answer) e))

  pub promise_refused : {n : ℕ} → scan_call reference values elements ≡ scan_turned_down n → number ≡ n → answer ≡ split_numbers none 0 0
      → ScanPromise reference values elements number answer
  unfolding scan_turned_down no_answer
  promise_refused e n a = promise (n ∙ sym (ap (λ (c : Called). c.number) e)) (a ∙ sym (ap (λ (c : Called). c.answer) e))
