-- The scan call: the pattern as bytes, the answer as numbers, and what the call gives for every reference, values and elements.
-- An element is a row of 12 bytes: its kind, three bytes that don't count, then two numbers of 4 bytes, low byte first. Kind 1 is a
-- string, the values from the first number up to the second; 2 a fixed filler whose length is the first, negative from 2^31 on; 3 a free
-- filler. A last row cut short has no known kind. Assumes nothing.
use Rattle.std.specs.Prelude.{cond, ◌&&◌, List, [], ◌∷◌, ◌++◌, ◌≡◌, ℕ, zero, suc, ◌+◌, ◌*◌, ◌-◌, ◌/◌, ◌^◌, leb, ltb, eqb, length, take, drop, get_or, replicate}
use Rattle.std.proofs.Math.Option.{Option, none, some}
use Rattle.scanning.specs.Splits.{Element, string, fixed, free, Split, AnswersFirstFit}
use Rattle.scanning.specs.Trials.{Scanned, scan}
use Rattle.scanning.specs.Costs.{scan_size, TrialsWithin}
use Rattle.base.specs.Limits as Limits

-- the longest reference, the most elements of a pattern, the bytes of an element's row
unfoldable pub longest_reference : ℕ
longest_reference = Limits.string_bytes

unfoldable pub most_elements : ℕ
most_elements = Limits.row_elements

unfoldable pub scan_row_size : ℕ
scan_row_size = 12

-- a number of 4 bytes, low byte first
unfoldable pub number4 : List ℕ → ℕ → ℕ
number4 b at = get_or b at 0 + 256 * (get_or b (at + 1) 0 + 256 * (get_or b (at + 2) 0 + 256 * get_or b (at + 3) 0))

-- how many elements the rows hold, one cut short counted
unfoldable pub row_count : List ℕ → ℕ
row_count elements = (length elements + (scan_row_size - 1)) / scan_row_size

-- Q24 "a string isn't a part of the values lent"
unfoldable pub string_of_row : List ℕ → ℕ → ℕ → Option Element
string_of_row values from to =
    cond (leb from to && leb to (length values)) (some (string (take (to - from) (drop from values)))) none

-- Q24 "a fixed filler's length is negative"
unfoldable pub fixed_by : ℕ → Option Element
fixed_by n = cond (ltb n (2 ^ 31)) (some (fixed n)) none

-- the element whose row starts at a place; Q24 "An element has no known kind"
unfoldable pub element_of_row : (values elements : List ℕ) → ℕ → Option Element
element_of_row values elements at =
    cond (leb (at + scan_row_size) (length elements))
    (cond (eqb (get_or elements at 0) 1) (string_of_row values (number4 elements (at + 4)) (number4 elements (at + 8)))
    (cond (eqb (get_or elements at 0) 2) (fixed_by (number4 elements (at + 4)))
    (cond (eqb (get_or elements at 0) 3) (some free)
    none)))
    none

-- so many elements from a place on, if each is one
unfoldable pub join_element : Option Element → Option (List Element) → Option (List Element)
join_element none rest = none
join_element (some e) none = none
join_element (some e) (some p) = some (e ∷ p)

unfoldable pub elements_of_rows : (values elements : List ℕ) → ℕ → ℕ → Option (List Element)
elements_of_rows values elements zero at = some []
elements_of_rows values elements (suc n) at =
    join_element (element_of_row values elements at) (elements_of_rows values elements n (at + scan_row_size))

unfoldable pub pattern_of_rows : (values elements : List ℕ) → Option (List Element)
pattern_of_rows values elements = elements_of_rows values elements (row_count elements) 0

-- the numbers that the answer is: 1 where there is a split, else 0; its start; trials; notes; the lengths, filled with zeros
unfoldable pub split_numbers : Option Split → ℕ → ℕ → List ℕ
split_numbers none trials notes = 0 ∷ 0 ∷ trials ∷ notes ∷ replicate most_elements 0
split_numbers (some s) trials notes =
    1 ∷ s.start ∷ trials ∷ notes ∷ (s.lengths ++ replicate (most_elements - length s.lengths) 0)

-- N14 "The answer holds the split and the number of trials made": document 01's word, here with so many notes
unfoldable pub answer_numbers : ℕ → Scanned → List ℕ
answer_numbers notes s = split_numbers s.split s.trials notes

-- D5 "a scan call turned down answers no split and 0 trials"
unfoldable pub no_answer : List ℕ
no_answer = split_numbers none 0 0

pub record Called : Type 0 where
  pub number : ℕ
  pub answer : List ℕ

unfoldable pub scan_turned_down : ℕ → Called
scan_turned_down n = record { number = n; answer = no_answer }

unfoldable pub scan_with : Option (List Element) → List ℕ → Called
scan_with none reference = scan_turned_down 24
scan_with (some p) reference = record { number = 0; answer = answer_numbers 0 (scan p reference) }

-- Q22 "the reference exceeds 1,024 bytes", Q23 "The pattern has over 20 elements", Q24, the lowest first
unfoldable pub scan_call : (reference values elements : List ℕ) → Called
scan_call reference values elements =
    cond (ltb longest_reference (length reference)) (scan_turned_down 22)
    (cond (ltb most_elements (row_count elements)) (scan_turned_down 23)
    (scan_with (pattern_of_rows values elements) reference))

-- the split that an answer's numbers hold, for a pattern of so many elements
unfoldable pub split_in : ℕ → List ℕ → Option Split
split_in count answer =
    cond (eqb (get_or answer 0 0) 1)
    (some (record { start = get_or answer 1 0; lengths = take count (drop 4 answer) }))
    none

-- N14, F5 the trials that an answer's numbers carry
unfoldable pub trials_in : List ℕ → ℕ
trials_in answer = get_or answer 2 0

-- The scan call's promise: its number and every number left are scan_call's; demand 3 "The scan call, on whatever reference and pattern it doesn't
-- turn down, likewise fails exactly when no split fits and otherwise answers the first fit."; and W8.2 "the trials carried in the answer never
-- exceed m × (n + 1)", of the reference and the elements lent.
pub record ScanPromise (reference values elements : List ℕ) (number : ℕ) (answer : List ℕ) : Type 0 where
  pub result : number ≡ (scan_call reference values elements).number
  pub left : answer ≡ (scan_call reference values elements).answer
  pub first_fit : (p : List Element) → number ≡ 0 → pattern_of_rows values elements ≡ some p
      → AnswersFirstFit p reference (split_in (length p) answer)
  pub trials : (p : List Element) → number ≡ 0 → pattern_of_rows values elements ≡ some p
      → TrialsWithin (scan_size p reference) (trials_in answer)
