-- Rows of 12 bytes, and the same bytes in one list: the elements are the same. Assumes nothing.
use mathlib.Core.List.{List, [], ◌∷◌, ◌++◌}
use mathlib.Core.Path.{◌≡◌, refl, sym, ◌∙◌, ap}
use Prim.Native.Nat.{ℕ, zero, suc, ◌+◌, ◌*◌, ◌≤◌, ◌<◌}
use native.Mathlib.Omega.{arith}
use lib.ListN.{length, take, drop, get_or, length-append, length-drop, get_or-append}
use lib.Seq.{length-take-le, take-add, get_or-take}
use borrow.Author.Tests.{le-leb}
use Rattle.std.specs.List.{concat}
use Rattle.std.specs.Simd.{first_chunks}
use Rattle.std.proofs.lemmas.List.{get_or-append-add}
use Rattle.scanning.specs.Call.{number4, element_of_row, scan_row_size}
use Rattle.scan.specs.Rows.{scan_row_at, row_element, WholeRows}

-- two places behind which the same 12 bytes stand
module _ (a b : List ℕ) (p q : ℕ) (same : (k : ℕ) → k < 12 → get_or a (p + k) 0 ≡ get_or b (q + k) 0) where
  byte_same : (m k : ℕ) → m + k < 12 → get_or a (p + m + k) 0 ≡ get_or b (q + m + k) 0
  byte_same m k h =
      ap (λ (n : ℕ). get_or a n 0) (omega arith) ∙ same (m + k) h ∙ ap (λ (n : ℕ). get_or b n 0) (omega arith)

  kind_same : get_or a p 0 ≡ get_or b q 0
  kind_same = ap (λ (n : ℕ). get_or a n 0) (omega arith) ∙ same 0 (omega arith) ∙ ap (λ (n : ℕ). get_or b n 0) (omega arith)

  number_same : (m : ℕ) → m + 3 < 12 → number4 a (p + m) ≡ number4 b (q + m)
  unfolding number4
  number_same m h = omega (arith, same m (omega arith), byte_same m 1 (omega arith), byte_same m 2 (omega arith), byte_same m 3 h)

  row_same : scan_row_at a p ≡ scan_row_at b q
  unfolding scan_row_at
  row_same = rw (kind_same, number_same 4 (omega arith), number_same 8 (omega arith)) refl

  element_same : (values : List ℕ) → p + 12 ≤ length a → q + 12 ≤ length b → element_of_row values a p ≡ element_of_row values b q
  unfolding element_of_row scan_row_size
  element_same values h g =
      rw (le-leb (p + 12) (length a) h, le-leb (q + 12) (length b) g, kind_same, number_same 4 (omega arith), number_same 8 (omega arith)) refl

pub concat_length : (rows : List (List ℕ)) → WholeRows rows → length (concat rows) ≡ 12 * length rows
concat_length [] whole = refl
concat_length (r ∷ rows) whole =
    omega (arith, length-append r (concat rows), whole 0 (omega arith), concat_length rows (λ i h. whole (suc i) (omega arith)))

concat-byte : (rows : List (List ℕ)) → WholeRows rows → (i k : ℕ) → i < length rows → k < 12
    → get_or (concat rows) (12 * i + k) 0 ≡ get_or (get_or rows i []) k 0
concat-byte [] whole i k h l = absurd (omega arith)
concat-byte (r ∷ rows) whole zero k h l =
    ap (λ (n : ℕ). get_or (r ++ concat rows) n 0) (omega arith) ∙ get_or-append r (concat rows) 0 k (omega (arith, whole 0 (omega arith)))
concat-byte (r ∷ rows) whole (suc i) k h l =
    ap (λ (n : ℕ). get_or (r ++ concat rows) n 0) (omega (arith, whole 0 (omega arith)))
    ∙ get_or-append-add r (concat rows) (12 * i + k) 0
    ∙ concat-byte rows (λ j g. whole (suc j) (omega arith)) i k (omega arith) l

module _ (rows : List (List ℕ)) (whole : WholeRows rows) (i : ℕ) (inside : i < length rows) where
  bytes : (k : ℕ) → k < 12 → get_or (get_or rows i []) (0 + k) 0 ≡ get_or (concat rows) (12 * i + k) 0
  bytes k h = ap (λ (n : ℕ). get_or (get_or rows i []) n 0) (omega arith) ∙ sym (concat-byte rows whole i k inside h)

  -- the element of a row
  pub concat_row : scan_row_at (get_or rows i []) 0 ≡ row_element (concat rows) i
  unfolding row_element
  concat_row = row_same (get_or rows i []) (concat rows) 0 (12 * i) bytes

  pub concat_element : (values : List ℕ) → element_of_row values (get_or rows i []) 0 ≡ element_of_row values (concat rows) (12 * i)
  concat_element values =
      element_same (get_or rows i []) (concat rows) 0 (12 * i) bytes values (omega (arith, whole i inside)) (omega (arith, concat_length rows whole))

-- bytes cut to rows
pub chunks_whole : (n : ℕ) (b : List ℕ) → n * 12 ≤ length b → WholeRows (first_chunks 12 n b)
chunks_whole zero b room i h = absurd (omega arith)
chunks_whole (suc n) b room zero h = length-take-le 12 b (omega arith)
chunks_whole (suc n) b room (suc i) h = chunks_whole n (drop 12 b) (omega (arith, length-drop 12 b)) i (omega arith)

pub chunks_concat : (n : ℕ) (b : List ℕ) → concat (first_chunks 12 n b) ≡ take (n * 12) b
chunks_concat zero b = refl
chunks_concat (suc n) b =
    ap (λ (l : List ℕ). take 12 b ++ l) (chunks_concat n (drop 12 b))
    ∙ sym (take-add 12 (n * 12) b)
    ∙ ap (λ (m : ℕ). take m b) (omega arith)

-- the same element in the first rows alone
pub take_row : (b : List ℕ) (n i : ℕ) → i < n → row_element (take (12 * n) b) i ≡ row_element b i
unfolding row_element
take_row b n i h =
    row_same (take (12 * n) b) b (12 * i) (12 * i) (λ k l. get_or-take (12 * n) b (12 * i + k) 0 (omega arith))
