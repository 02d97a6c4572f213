-- A pattern as rows of 12 bytes, laid out as the scan call's: which elements the rows are, and when the scan can go through them.
-- Assumes nothing.
use Rattle.std.specs.Prelude.{Bool, true, false, cond, List, [], ◌∷◌, ◌++◌, ◌≡◌, ℕ, zero, suc, ◌+◌, ◌*◌, ◌-◌, ◌≤◌, ◌<◌, ◌^◌, eqb, length, take, drop, get_or, replicate}
use Rattle.std.specs.List.{concat, list_all}
use Rattle.std.proofs.Math.Option.{Option, none, some}
use Rattle.std.proofs.Props.{props}
use Rattle.scanning.specs.Splits as Splits
use Rattle.scanning.specs.Splits.{string, fixed, free}
use Rattle.scanning.specs.Call.{number4, element_of_row}
use Rattle.scan.specs.declared.Element.{Element}
use Rattle.scan.specs.declared.Element.TheVariants.{Part, Fixed, Free}

-- the element that a kind and two numbers are
unfoldable pub scan_row : ℕ → ℕ → ℕ → Element
scan_row kind a b = cond (eqb kind 1) (Part a b) (cond (eqb kind 2) (Fixed a) Free)

-- the element whose row starts at a place
unfoldable pub scan_row_at : List ℕ → ℕ → Element
scan_row_at rows at = scan_row (get_or rows at 0) (number4 rows (at + 4)) (number4 rows (at + 8))

-- the element in row i
unfoldable pub row_element : List ℕ → ℕ → Element
row_element rows i = scan_row_at rows (12 * i)

-- a part's ends stand for the bytes between them
unfoldable pub scan_element : List ℕ → Element → Splits.Element
scan_element values (Part from to) = string (take (to - from) (drop from values))
scan_element values (Fixed n) = fixed n
scan_element values Free = free

-- n elements from row i on
unfoldable pub scan_elements : (values rows : List ℕ) → ℕ → ℕ → List Splits.Element
scan_elements values rows zero i = []
scan_elements values rows (suc n) i = scan_element values (row_element rows i) ∷ scan_elements values rows n (i + 1)

-- the pattern of so many rows
unfoldable pub pattern_of : (values rows : List ℕ) → ℕ → List Splits.Element
pattern_of values rows count = scan_elements values rows count 0

-- the length of the piece that an element takes, a free filler's left 0
unfoldable pub size_of : Element → ℕ
size_of (Part from to) = to - from
size_of (Fixed n) = n
size_of Free = 0

-- the lengths of n elements from row i on
unfoldable pub sizes_at : List ℕ → ℕ → ℕ → List ℕ
sizes_at rows zero i = []
sizes_at rows (suc n) i = size_of (row_element rows i) ∷ sizes_at rows n (i + 1)

-- a part's ends are in order, and its length fits an answer
pub record SizedPart (from to : ℕ) : Type 0 where
  pub order : from ≤ to
  pub small : to < 2 ^ 32

-- an element whose length can be told
unfoldable pub RowSized : Element → Type 0
RowSized (Part from to) = SizedPart from to
RowSized (Fixed n) = n < 2 ^ 32
RowSized Free = Unit {0}

-- a part's ends lie in the values, and its length fits an answer
pub record GoodPart (values : List ℕ) (from to : ℕ) : Type 0 where
  pub order : from ≤ to
  pub inside : to ≤ length values
  pub small : to < 2 ^ 32

-- an element that the scan can test
unfoldable pub RowGood : List ℕ → Element → Type 0
RowGood values (Part from to) = GoodPart values from to
RowGood values (Fixed n) = n < 2 ^ 32
RowGood values Free = Unit {0}

-- rows that can be read, each a good element
pub record GoodRows (values rows : List ℕ) (count : ℕ) : Type 0 where
  pub few : count ≤ 20
  pub room : 12 * count ≤ length rows
  pub good : (i : ℕ) → i < count → RowGood values (row_element rows i)

-- that rows are good has one proof at most
row_good_prop : (values : List ℕ) (e : Element) → IsProp (RowGood values e)
unfolding RowGood
row_good_prop values (Part from to) = hlevel props
row_good_prop values (Fixed n) = hlevel props
row_good_prop values Free = hlevel props

good_rows_prop : (values rows : List ℕ) (count : ℕ) → IsProp (GoodRows values rows count)
good_rows_prop values rows count = hlevel (props, row_good_prop)

-- rows of 12 bytes each
abbrev pub WholeRows : List (List ℕ) → Type 0
WholeRows rows = (i : ℕ) → i < length rows → length (get_or rows i []) ≡ 12

-- a pattern's rows, good as the bytes that they are
pub record GoodPattern (values : List ℕ) (rows : List (List ℕ)) : Type 0 where
  pub whole : WholeRows rows
  pub good : GoodRows values (concat rows) (length rows)

pub good_pattern_prop : (values : List ℕ) (rows : List (List ℕ)) → IsProp (GoodPattern values rows)
good_pattern_prop values rows = hlevel (props, good_rows_prop)

-- whether there is an element
unfoldable pub some_element : Option Splits.Element → Bool
some_element none = false
some_element (some e) = true

-- whether a row is one
unfoldable pub is_element : (values row : List ℕ) → Bool
is_element values row = some_element (element_of_row values row 0)

-- the lengths of an answer, the start first, filled with zeros behind three numbers that are still 0
unfoldable pub row_answer : ℕ → List ℕ → List ℕ
row_answer count row = 0 ∷ (0 ∷ (0 ∷ (row ++ replicate (20 - count) 0)))

-- whether all rows are elements; where they are, their lengths stand in the answer
pub record RowsSay (values : List ℕ) (rows : List (List ℕ)) (answer : List ℕ) (read : Bool) : Type 0 where
  pub all : read ≡ list_all (is_element values) rows
  pub left : read ≡ true → answer ≡ row_answer (length rows) (0 ∷ sizes_at (concat rows) (length rows) 0)
