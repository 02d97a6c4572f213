-- Laws of a pattern's rows: one row more, and all of them. Assumes nothing.
use mathlib.Core.List.{List, [], ◌∷◌, ◌++◌, map, map-append}
use Rattle.std.specs.Prelude.{◌≡◌, eqb, get_or, set}
use Rattle.std.proofs.Math.Path.{refl, ap, ap₂}
use Rattle.std.proofs.Common.{sym, subst, ◌∙◌, not-suc-le-zero, length-append, length-drop, take-append-drop, get_or-set_other, get_or-set_same, take-add, eqb-true, le-ltb, lt-ltb}
use Prim.Native.Nat.{ℕ, zero, suc, ◌+◌, ◌*◌, ◌-◌, ◌≤◌, ◌<◌, ◌^◌}
use native.Mathlib.Omega.{arith}
use Rattle.std.proofs.Math.ListN.{length, take, drop, get_or-append}
use Rattle.std.proofs.lemmas.List.{drop-append-le}
use Rattle.std.proofs.Math.Seq.{get_or-append_seam, length-take-le, take_all, take-append-le, take-take}
use Rattle.std.proofs.lemmas.Bool.{eqb-false}
use Rattle.base.specs.Choice.{test_cases}
use Rattle.base.specs.ListLaws.{stretch_cut}
use Rattle.encoding.specs.Splices.{length-splice, take-splice, drop-splice}
use Rattle.store.specs.CellLaws.{drop-take}
use Rattle.machine.specs.Scanning.{Valued}
use Rattle.scan.specs.Rows.{row_element, scan_element, scan_elements, pattern_of, RowGood, GoodRows}
use Rattle.scan.specs.declared.Element as Lines
use Rattle.scan.specs.declared.Element.TheVariants as lines
use Rattle.scanning.specs.Splits.{Element, string, fixed, free}
use Rattle.effects.specs.Fillers.{named_string, nobody, PlacesNamed}
use Rattle.scan_statement.specs.Patterns.{rowed, values_of, RowPut, Stands, StringPutting, Rowed}
use Rattle.scan_statement.specs.Putting.{PutRow}
use Rattle.scan_statement.specs.PuttingLaws.{good_put, pattern-put}

module _ (values rows rows_left : List ℕ) (i : ℕ) where
  -- a free filler
  pub row_free : PutRow rows rows_left i lines.Free → RowPut values values rows rows_left i free
  unfolding scan_element rowed RowGood
  row_free p = record { is = lines.Free; row = p; good = tt; element = refl; before = refl }

  -- a row that says how long its piece is
  row_sized : (left : List ℕ) → values_of left i ≡ values_of values i → (n : ℕ) (e : Element) → n < 2 ^ 32 → fixed n ≡ rowed e
      → PutRow rows rows_left i (lines.Fixed n) → RowPut values left rows rows_left i e
  unfolding scan_element RowGood
  row_sized left same n e h is p = record { is = lines.Fixed n; row = p; good = h; element = is; before = same }

  -- a fixed filler
  pub row_fixed : (n : ℕ) → n < 2 ^ 32 → PutRow rows rows_left i (lines.Fixed n) → RowPut values values rows rows_left i (fixed n)
  unfolding rowed
  row_fixed n h p = row_sized values refl n (fixed n) h refl p

  -- a null string
  pub row_null : PutRow rows rows_left i (lines.Part 0 0) → RowPut values values rows rows_left i (string [])
  unfolding scan_element rowed RowGood
  row_null p =
      record {
        is = lines.Part 0 0;
        row = p;
        good = record { order = omega arith; inside = omega arith; small = omega arith };
        element = refl;
        before = refl;
      }

  module _ (n : ℕ) (s : StringPutting i n) (left w : List ℕ) (stands : Stands values left i n w) where
    abbrev u : List ℕ
    u = stands.bytes

    -- the values before it
    values-before : values_of left i ≡ values_of values i
    values-before =
        ap (take (1024 * i)) stands.left_is ∙ take-splice values (1024 * i) u (omega (arith, stands.strings, s.few))

    -- a string that is longer than any reference
    pub row_long : 1024 < n → PutRow rows rows_left i (lines.Fixed n) → RowPut values left rows rows_left i (string w)
    unfolding rowed
    row_long h p =
        let spelt = stands.spells in
        let long : 1024 < length w = omega (arith, spelt.size) in
        row_sized left values-before n (string w) (omega (arith, s.short)) (rw (lt-ltb 1024 (length w) long, spelt.size) refl) p

    -- one that may fit
    pub row-string : n ≤ 1024 → PutRow rows rows_left i (lines.Part (1024 * i) (1024 * i + n)) → RowPut values left rows rows_left i (string w)
    unfolding scan_element rowed RowGood
    row-string h p =
        let at = 1024 * i in
        let spelt = stands.spells in
        let room : at + length u ≤ length values = omega (arith, stands.room, stands.strings, s.few) in
        let long : length left ≡ 20480 = ap length stands.left_is ∙ length-splice values at u room ∙ stands.strings in
        let fits : length w ≤ 1024 = omega (arith, spelt.size) in
        let all : length (values_of left (i + 1)) ≡ 1024 * (i + 1) = length-take-le (1024 * (i + 1)) left (omega (arith, s.few)) in
        let more : 1024 * (i + 1) - at ≡ 1024 = omega arith in
        let cut : drop at (values_of left (i + 1)) ≡ take 1024 (drop at left) =
        drop-take left at (1024 * (i + 1)) (omega arith) (omega (arith, s.few)) ∙ ap (λ (k : ℕ). take k (drop at left)) more in
        let behind : drop at left ≡ u ++ drop (at + length u) values = ap (drop at) stands.left_is ∙ drop-splice values at u (omega arith) in
        let bytes : take (at + n - at) (drop at (values_of left (i + 1))) ≡ w =
        stretch_cut (values_of left (i + 1)) at n
        ∙ ap (take n) cut
        ∙ take-take n 1024 (drop at left) h
        ∙ ap (take n) behind
        ∙ take-append-le n u (drop (at + length u) values) (omega (arith, stands.room))
        ∙ spelt.bytes
        ∙ take_all 1024 w fits in
        record {
          is = lines.Part at (at + n);
          row = p;
          good = record { order = omega arith; inside = omega arith; small = omega (arith, s.few) };
          element = ap string bytes ∙ rw (le-ltb 1024 (length w) fits) refl;
          before = values-before;
        }

-- rows whose values lie in the first of two stretches
element-front : (front more : List ℕ) (x : Lines.Element) → RowGood front x → scan_element (front ++ more) x ≡ scan_element front x
unfolding scan_element RowGood
element-front front more (lines.Part from to) g =
    let start : from ≤ length front = omega (arith, g.order, g.inside) in
    let size : to - from ≤ length (drop from front) = omega (arith, length-drop from front, g.order, g.inside) in
    ap string (ap (take (to - from)) (drop-append-le from front more start) ∙ take-append-le (to - from) (drop from front) more size)
element-front front more (lines.Fixed n) g = refl
element-front front more lines.Free g = refl

good_front : (front more : List ℕ) (x : Lines.Element) → RowGood front x → RowGood (front ++ more) x
unfolding RowGood
good_front front more (lines.Part from to) g =
    record { order = g.order; inside = omega (arith, g.inside, length-append front more); small = g.small }
good_front front more (lines.Fixed n) g = g
good_front front more lines.Free g = tt

module _ (front more rows : List ℕ) where
  elements-front : (n i : ℕ) → ((j : ℕ) → j < i + n → RowGood front (row_element rows j))
      → scan_elements (front ++ more) rows n i ≡ scan_elements front rows n i
  unfolding scan_elements
  elements-front zero i g = refl
  elements-front (suc n) i g =
      ap₂ {C = List Element} ◌∷◌ (element-front front more (row_element rows i) (g i (omega arith)))
      (elements-front n (i + 1) (λ j h. g j (omega arith)))

  pattern-front : (count : ℕ) → GoodRows front rows count → pattern_of (front ++ more) rows count ≡ pattern_of front rows count
  unfolding pattern_of
  pattern-front count g = elements-front count 0 (λ j h. g.good j (omega arith))

  rows_front : (count : ℕ) → GoodRows front rows count → GoodRows (front ++ more) rows count
  rows_front count g =
      record { few = g.few; room = g.room; good = λ i h. good_front front more (row_element rows i) (g.good i h) }

-- the values of the rows so far, with those behind them
module _ (values rows names : List ℕ) (i : ℕ) (vs : List Valued) (p : Rowed (values_of values i) rows names i vs) where
  -- a row more
  module _ (left rows_left names_left : List ℕ) (v : Valued) (q : RowPut values left rows rows_left i v.element) (few : i < 20)
      (strings : length left ≡ 20480) (lined : length rows ≡ 240) where
    more-values : values_of left (i + 1) ≡ values_of values i ++ take 1024 (drop (1024 * i) left)
    more-values =
        let more : 1024 * (i + 1) ≡ 1024 * i + 1024 = omega arith in
        ap (λ (k : ℕ). take k left) more
        ∙ take-add (1024 * i) 1024 left
        ∙ ap (λ (l : List ℕ). l ++ take 1024 (drop (1024 * i) left)) q.before

    -- the places with one more
    names_more : (place : ℕ) → names_left ≡ set names i place → length names ≡ 20 → v.names ≡ named_string place
        → PlacesNamed names_left (vs ++ (v ∷ []))
    names_more place e size is = record { each = each }
      where
        each : (j : ℕ) → j < length (vs ++ (v ∷ [])) → (get_or (vs ++ (v ∷ [])) j nobody).names ≡ named_string (get_or names_left j 0)
        each j h =
            test_cases (λ _. (get_or (vs ++ (v ∷ [])) j nobody).names ≡ named_string (get_or names_left j 0)) (eqb j i)
            (λ t.
            let same : j ≡ i = eqb-true j i t in
            let here : get_or (vs ++ (v ∷ [])) j nobody ≡ v =
            ap (λ (k : ℕ). get_or (vs ++ (v ∷ [])) k nobody) (same ∙ sym p.size) ∙ get_or-append_seam vs v [] nobody in
            let set_here : get_or names_left j 0 ≡ place =
            ap₂ (λ (l : List ℕ) (k : ℕ). get_or l k 0) e same ∙ get_or-set_same names i place 0 (omega arith) in
            ap (λ u. u.names) here ∙ is ∙ ap named_string (sym set_here))
            (λ t.
            let other : j ≡ i → ⊥ = eqb-false j i t in
            let below : j < length vs = omega (arith, length-append vs (v ∷ []), p.size) in
            ap (λ u. u.names) (get_or-append vs (v ∷ []) nobody j below)
            ∙ p.places.each j below
            ∙ ap named_string (sym (ap (λ (l : List ℕ). get_or l j 0) e ∙ get_or-set_other names i j place 0 other)))

    pub rowed-more : (place : ℕ) → names_left ≡ set names i place → length names ≡ 20 → v.names ≡ named_string place
        → Rowed (values_of left (i + 1)) rows_left names_left (i + 1) (vs ++ (v ∷ []))
    rowed-more place e size is =
        let front = values_of values i in
        let rest = take 1024 (drop (1024 * i) left) in
        let now = values_of left (i + 1) in
        let good : GoodRows now rows i = subst (λ (l : List ℕ). GoodRows l rows i) (sym more-values) (rows_front front rest rows i p.good) in
        let before : pattern_of now rows i ≡ map (λ u. rowed u.element) vs =
        ap (λ (l : List ℕ). pattern_of l rows i) more-values ∙ pattern-front front rest rows i p.good ∙ p.pattern in
        record {
          size = length-append vs (v ∷ []) ∙ ap (λ (k : ℕ). k + 1) p.size;
          good = good_put now rows rows_left i q.is q.row few (omega arith) q.good good;
          pattern =
              pattern-put now rows rows_left i q.is q.row
              ∙ ap₂ (λ (l : List Element) (x : Element). l ++ (x ∷ [])) before q.element
              ∙ sym (map-append (λ u. rowed u.element) vs (v ∷ []));
          places = names_more place e size is;
        }

  -- all rows
  pub rowed-all : Rowed values rows names i vs
  rowed-all =
      let parts : values_of values i ++ drop (1024 * i) values ≡ values = take-append-drop (1024 * i) values in
      let rest = drop (1024 * i) values in
      record {
        size = p.size;
        good = subst (λ (l : List ℕ). GoodRows l rows i) parts (rows_front (values_of values i) rest rows i p.good);
        pattern =
            ap (λ (l : List ℕ). pattern_of l rows i) (sym parts) ∙ pattern-front (values_of values i) rest rows i p.good ∙ p.pattern;
        places = p.places;
      }

-- no rows
pub rowed_none : (values rows names : List ℕ) → Rowed (values_of values 0) rows names 0 []
unfolding pattern_of scan_elements
rowed_none values rows names =
    record {
      size = refl;
      good = record { few = omega arith; room = omega arith; good = λ i h. absurd (not-suc-le-zero h) };
      pattern = refl;
      places = record { each = λ i h. absurd (not-suc-le-zero h) };
    }
