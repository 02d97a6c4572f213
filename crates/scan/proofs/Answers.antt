-- The answer's numbers while the scan fills them in, and when it ends. Assumes nothing.
use mathlib.Core.List.{List, [], ◌∷◌, ◌++◌, append_assoc}
use mathlib.Core.Option.{none}
use mathlib.Core.Path.{◌≡◌, refl, sym, ◌∙◌, ap}
use Prim.Native.Nat.{ℕ, suc, ◌+◌, ◌-◌, ◌≤◌, ◌<◌}
use native.Mathlib.Omega.{arith}
use lib.ListN.{length, set, get_or, replicate}
use lib.Seq.{set_at}
use Rattle.scanning.specs.Trials.{Tried, found, few, settled, slide, match, answered, scan}
use Rattle.scanning.specs.Call.{most_elements, split_numbers, answer_numbers}
use Rattle.scan.specs.Rows.{row_element, scan_elements, pattern_of, size_of, sizes_at}
use Rattle.scan.specs.Rows.{row_answer}
use Rattle.scan.specs.declared.Element.TheVariants.{Free}
use Rattle.scan.proofs.Rows.{sizes-split, sizes_last, sizes-length}

-- a length written behind those before it
pub row-set : (count : ℕ) (pre tl : List ℕ) (old v at : ℕ) → length pre + 3 ≡ at
    → set (row_answer count (pre ++ (old ∷ tl))) at v ≡ row_answer count (pre ++ (v ∷ tl))
unfolding row_answer
row-set count pre tl old v at size =
    let zs : List ℕ = replicate (20 - count) 0 in
    let front : List ℕ = 0 ∷ (0 ∷ (0 ∷ pre)) in
    let split : (x : ℕ) → (pre ++ (x ∷ tl)) ++ zs ≡ pre ++ (x ∷ (tl ++ zs)) = λ x. append_assoc pre (x ∷ tl) zs in
    ap (λ (l : List ℕ). set (0 ∷ (0 ∷ (0 ∷ l))) at v) (split old)
    ∙ set_at front old (tl ++ zs) v at (omega arith)
    ∙ ap (λ (l : List ℕ). 0 ∷ (0 ∷ (0 ∷ l))) (sym (split v))

-- a row of lengths found, after n trials, as the answer's numbers
pub answer_found : (count n : ℕ) (row : List ℕ) → length row ≡ suc count
    → set (set (set (set (row_answer count row) 0 1) 1 (get_or (row_answer count row) 3 0)) 2 n) 3 0
    ≡ answer_numbers 0 (answered (found row n))
unfolding row_answer answer_numbers answered split_numbers most_elements
answer_found count n [] size = absurd (omega arith)
answer_found count n (start ∷ ls) size =
    let e : count ≡ length ls = omega arith in
    ap (λ (k : ℕ). 1 ∷ (start ∷ (n ∷ (0 ∷ (ls ++ replicate (20 - k) 0))))) e

-- a scan that failed after n trials, as the answer's numbers
pub answer_few : (n : ℕ) → split_numbers none n 0 ≡ answer_numbers 0 (answered (few n))
unfolding answer_numbers answered
answer_few n = refl

-- a group settled up to the free filler j: its gap is written, and the filler is next
pub row_settled : (rows pre : List ℕ) (count g j gap : ℕ) → length pre ≡ g → g ≤ j → j < count → row_element rows j ≡ Free
    → set (row_answer count (pre ++ (0 ∷ sizes_at rows (count - g) g))) (3 + g) gap
    ≡ row_answer count ((pre ++ (gap ∷ sizes_at rows (j - g) g)) ++ (0 ∷ sizes_at rows (count - (j + 1)) (j + 1)))
unfolding sizes_at size_of
row_settled rows pre count g j gap size low high filler =
    let ls : List ℕ = sizes_at rows (j - g) g in
    let next : List ℕ = sizes_at rows (count - (j + 1)) (j + 1) in
    let e : count - j ≡ suc (count - (j + 1)) = omega arith in
    let here : sizes_at rows (count - j) j ≡ 0 ∷ next =
    ap (λ (n : ℕ). sizes_at rows n j) e ∙ ap (λ x. size_of x ∷ next) filler in
    let all : sizes_at rows (count - g) g ≡ ls ++ (0 ∷ next) =
    sizes-split rows count g j low (omega arith) ∙ ap (λ (l : List ℕ). ls ++ l) here in
    row-set count pre (sizes_at rows (count - g) g) 0 gap (3 + g) (omega arith)
    ∙ ap (λ (l : List ℕ). row_answer count (pre ++ (gap ∷ l))) all
    ∙ ap (row_answer count) (sym (append_assoc pre (gap ∷ ls) (0 ∷ next)))

-- one length more filled in
pub row-filled : (rows : List ℕ) (i v : ℕ) → i < 20 → v ≡ size_of (row_element rows i)
    → set (row_answer i (0 ∷ sizes_at rows i 0)) (4 + i) v ≡ row_answer (i + 1) (0 ∷ sizes_at rows (i + 1) 0)
unfolding row_answer
row-filled rows i v h e =
    let ls : List ℕ = sizes_at rows i 0 in
    let zs : List ℕ = replicate (20 - (i + 1)) 0 in
    let front : List ℕ = 0 ∷ (0 ∷ (0 ∷ (0 ∷ ls))) in
    let room : 20 - i ≡ suc (20 - (i + 1)) = omega arith in
    ap (λ (n : ℕ). set (0 ∷ (0 ∷ (0 ∷ (0 ∷ (ls ++ replicate n 0))))) (4 + i) v) room
    ∙ set_at front 0 zs v (4 + i) (omega (arith, sizes-length rows i 0))
    ∙ ap (λ (l : List ℕ). 0 ∷ (0 ∷ (0 ∷ (0 ∷ l)))) (sym (append_assoc ls (v ∷ []) zs))
    ∙ ap (λ (n : ℕ). 0 ∷ (0 ∷ (0 ∷ (0 ∷ ((ls ++ (n ∷ [])) ++ zs))))) e
    ∙ ap (λ (l : List ℕ). 0 ∷ (0 ∷ (0 ∷ (0 ∷ (l ++ zs))))) (sym (sizes_last rows i))

-- the scan's outcome
abbrev pub outcome : (reference values rows : List ℕ) → ℕ → Tried
outcome reference values rows count = slide (match (pattern_of values rows count)) reference

-- the run found a row of lengths, after n trials
pub record RunFound (reference values rows : List ℕ) (count : ℕ) (answer : List ℕ) (n : ℕ) : Type 0 where
  pub row : List ℕ
  pub same : outcome reference values rows count ≡ found row n
  pub left : answer ≡ row_answer count row
  pub size : length row ≡ suc count

module _ (reference values rows : List ℕ) (count : ℕ) where
  -- the numbers left where the run found a row
  pub scan-found : (answer : List ℕ) (n : ℕ) → RunFound reference values rows count answer n
      → set (set (set (set answer 0 1) 1 (get_or answer 3 0)) 2 n) 3 0 ≡ answer_numbers 0 (scan (pattern_of values rows count) reference)
  unfolding scan
  scan-found answer n r =
      ap (λ (l : List ℕ). set (set (set (set l 0 1) 1 (get_or l 3 0)) 2 n) 3 0) r.left
      ∙ answer_found count n r.row r.size
      ∙ ap (λ (t : Tried). answer_numbers 0 (answered t)) (sym r.same)

  -- where it failed
  pub scan_failed : (n : ℕ) → outcome reference values rows count ≡ few n
      → split_numbers none n 0 ≡ answer_numbers 0 (scan (pattern_of values rows count) reference)
  unfolding scan
  scan_failed n same = answer_few n ∙ ap (λ (t : Tried). answer_numbers 0 (answered t)) (sym same)

-- a pattern of no elements is found at place 0
none_found : (reference values rows : List ℕ) → outcome reference values rows 0 ≡ found (0 ∷ []) 0
unfolding pattern_of scan_elements match slide settled
none_found [] values rows = refl
none_found (b ∷ rest) values rows = refl

-- the numbers left where there are no elements
pub scan_none : (reference values rows : List ℕ) (count : ℕ) (answer : List ℕ) → count ≡ 0
    → answer ≡ row_answer count (0 ∷ sizes_at rows count 0)
    → RunFound reference values rows count answer 0
unfolding sizes_at
scan_none reference values rows count answer z e =
    record {
      row = 0 ∷ sizes_at rows count 0;
      same =
          ap (λ (n : ℕ). outcome reference values rows n) z
          ∙ none_found reference values rows
          ∙ ap (λ (n : ℕ). found (0 ∷ sizes_at rows n 0) 0) (sym z);
      left = e;
      size = ap suc (sizes-length rows count 0);
    }
