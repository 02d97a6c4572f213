-- What the code's cases say: a row read as an element, an element tested, its length told, places passed over. Assumes nothing.
use mathlib.Core.Bool.{Bool, true, false, cond}
use lib.Dec.{eqb}
use Rattle.std.specs.Option.{unwrap_or}
use Rattle.scanning.specs.Kinds.{row_kind_of}
use Rattle.scanning.specs.declared.RowKind.{RowKind}
use mathlib.Core.List.{List, [], ◌∷◌}
use mathlib.Core.Path.{◌≡◌, refl, sym, ◌∙◌, ap, subst}
use Prim.Native.Nat.{ℕ, suc, ◌-◌, ◌≤◌, ◌<◌, ◌^◌}
use native.Mathlib.Omega.{arith}
use lib.ListN.{length, take, drop, get_or}
use lib.Seq.{drop-cons}
use borrow.Author.Tests.{eq-eqb, le-leb, lt-leb}
use Rattle.base.specs.Lists.{same, begins}
use Rattle.scanning.specs.Splits as Splits
use Rattle.scanning.specs.Splits.{string}
use Rattle.search.specs.Passing.{WordPasses}
use Rattle.scan.specs.Rows.{scan_row, scan_element, size_of, RowSized, SizedPart, RowGood, GoodPart}
use Rattle.scan.specs.Steps.{Test, judged, test_of, SkipSays, StandsSays}
use Rattle.std.specs.Prelude.{Option, Some, None, Ok, Err}
use Rattle.scan.specs.declared.Element.{Element}
use Rattle.scan.specs.declared.Element.TheVariants.{Part, Fixed, Free}
use Rattle.scan.specs.declared.Failure.TheVariants.{Other, Few}

-- the element that a row of this kind holds
unfoldable pub kind_element : RowKind → ℕ → ℕ → Element
kind_element RowKind.String a b = Part a b
kind_element RowKind.Fixed a b = Fixed a
kind_element RowKind.Free a b = Free

-- a row of no known kind is read as a free filler
row_kind : (n a b : ℕ) → kind_element (unwrap_or (row_kind_of n) RowKind.Free) a b ≡ scan_row n a b
unfolding scan_row kind_element
row_kind n a b = by (eqb n 1) (eqb n 2) (eqb n 3)
  where
    by : (x y z : Bool)
        → kind_element (unwrap_or (cond x (Some RowKind.String) (cond y (Some RowKind.Fixed) (cond z (Some RowKind.Free) None))) RowKind.Free) a b
        ≡ cond x (Part a b) (cond y (Fixed a) Free)
    by true y z = refl
    by false true z = refl
    by false false true = refl
    by false false false = refl

-- the element of a row by its kind
pub row_told : (n a b : ℕ) {o : Option RowKind} {k k' : RowKind} → o ≡ row_kind_of n → k ≡ unwrap_or o RowKind.Free → k ≡ k'
    → kind_element k' a b ≡ scan_row n a b
row_told n a b told is kind =
    ap (λ x. kind_element x a b) (sym kind ∙ is) ∙ ap (λ x. kind_element (unwrap_or x RowKind.Free) a b) told ∙ row_kind n a b

module _ (e : Element) where
  pub sized_part : (from to : ℕ) → e ≡ Part from to → RowSized e → (from ≤ to) × (to - from ≡ size_of e) × (to - from < 2 ^ 32)
  unfolding RowSized size_of
  sized_part from to h s =
      let p : SizedPart from to = subst RowSized h s in
      (p.order, sym (ap size_of h), omega (arith, p.small))

  pub sized_fixed : (n : ℕ) → e ≡ Fixed n → RowSized e → (n ≡ size_of e) × (n < 2 ^ 32)
  unfolding RowSized size_of
  sized_fixed n h s = (sym (ap size_of h), subst RowSized h s)

  pub sized_free : e ≡ Free → 0 ≡ size_of e
  unfolding size_of
  sized_free h = sym (ap size_of h)

  pub good_part : (values : List ℕ) (from to : ℕ) → e ≡ Part from to → RowGood values e → GoodPart values from to
  unfolding RowGood
  good_part values from to h g = subst (RowGood values) h g

module _ (word rest : List ℕ) where
  pub test_few : length rest < length word → Err Few ≡ test_of (string word) rest
  unfolding test_of judged
  test_few h = rw (lt-leb (length word) (length rest) h)

  pub test-piece : length word ≤ length rest → begins word rest ≡ true → Ok (Some (length word)) ≡ test_of (string word) rest
  unfolding test_of judged
  test-piece h e = rw (le-leb (length word) (length rest) h, e)

  pub test-other : length word ≤ length rest → begins word rest ≡ false → Err Other ≡ test_of (string word) rest
  unfolding test_of judged
  test-other h e = rw (le-leb (length word) (length rest) h, e)

module _ (values rest : List ℕ) (e : Element) where
  pub test_part : (from to n : ℕ) (t : Test) → e ≡ Part from to → n ≡ to - from
      → t ≡ test_of (string (take n (drop from values))) rest → t ≡ test_of (scan_element values e) rest
  unfolding scan_element
  test_part from to n t h en r =
      r
      ∙ ap (λ (k : ℕ). test_of (string (take k (drop from values))) rest) en
      ∙ sym (ap (λ (x : Element). test_of (scan_element values x) rest) h)

  pub test_fixed_few : (n : ℕ) → e ≡ Fixed n → length rest < n → Err Few ≡ test_of (scan_element values e) rest
  unfolding scan_element test_of judged
  test_fixed_few n h l = rw (h, lt-leb n (length rest) l)

  pub test_fixed_piece : (n : ℕ) → e ≡ Fixed n → n ≤ length rest → Ok (Some n) ≡ test_of (scan_element values e) rest
  unfolding scan_element test_of judged
  test_fixed_piece n h l = rw (h, le-leb n (length rest) l)

  pub test_free : e ≡ Free → Ok None ≡ test_of (scan_element values e) rest
  unfolding scan_element test_of
  test_free h = rw h

  pub skip_part : (from to n k : ℕ) → e ≡ Part from to → n ≡ to - from
      → WordPasses rest (take n (drop from values)) k → SkipSays rest (scan_element values e) k
  unfolding scan_element
  skip_part from to n k h en p =
      let word : List ℕ = take n (drop from values) in
      let same : string word ≡ scan_element values e =
      ap (λ (i : ℕ). string (take i (drop from values))) en ∙ sym (ap (scan_element values) h) in
      subst (λ (x : Splits.Element). SkipSays rest x k) same
      (record {
        inside = p.inside;
        fails = λ j l. sym (test-other word (drop j rest) (p.enough j l) (p.differ j l));
      })

  pub skip_none : SkipSays rest (scan_element values e) 0
  skip_none = record { inside = omega arith; fails = λ j l. absurd (omega arith) }

-- a string of one byte that stands there
single_piece : (x y : ℕ) (l : List ℕ) → y ≡ x → test_of (string (x ∷ [])) (y ∷ l) ≡ Ok (Some 1)
unfolding test_of judged begins same
single_piece x y l e = rw (le-leb 1 (suc (length l)) (omega arith), eq-eqb y x e)

module _ (values rest : List ℕ) (e : Element) where
  pub stands_one : (from to : ℕ) → e ≡ Part from to → RowGood values e → to - from ≡ 1 → 0 < length rest → get_or rest 0 0 ≡ get_or values from 0
      → StandsSays rest (scan_element values e) true
  unfolding scan_element
  stands_one from to h good one inside same _ =
      let part = good_part e values from to h good in
      let x : ℕ = get_or values from 0 in
      let word : take (to - from) (drop from values) ≡ x ∷ [] =
      ap (λ (n : ℕ). take n (drop from values)) one ∙ ap (take 1) (drop-cons values from 0 (omega (arith, part.inside, part.order))) in
      ap (λ (y : Element). test_of (scan_element values y) rest) h
      ∙ ap (λ (w : List ℕ). test_of (string w) rest) word
      ∙ ap (test_of (string (x ∷ []))) (drop-cons rest 0 0 inside)
      ∙ single_piece x (get_or rest 0 0) (drop 1 rest) same
