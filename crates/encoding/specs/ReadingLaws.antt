-- Rows that are read one behind the other: how many, the first of them, and each; of items and elements so. Assumes nothing.
use Rattle.std.specs.Prelude.{Bool, true, List, [], ◌∷◌, ◌≡◌, refl, length, get_or}
use Rattle.std.proofs.Common.{sym, ◌∙◌, ap, not-suc-le-zero}
use Rattle.std.proofs.Math.Path.{subst}
use Prim.Native.Nat.{ℕ, zero, suc, ◌+◌, ◌*◌, ◌-◌, ◌≤◌, ◌<◌}
use native.Mathlib.Omega.{arith}
use Rattle.base.specs.Choice.{both_true}
use Rattle.base.specs.Lists.{all}
use Rattle.encoding.specs.Table.{elements_at, items_at}
use Rattle.encoding.specs.TableReading.{cell_at, item_of_cell, element_of_cell, pattern_of_cell, read_items, read_elements, read_pattern}

-- rows of any kind, of which one stands before the rest
module _ {A : Type 0} (single : ℕ → A) (rows : ℕ → ℕ → List A) (next : (at n : ℕ) → rows at (suc n) ≡ single at ∷ rows (at + 1) n) where
  -- each passes a test that all pass
  pub rows_each : (f : A → Bool) (at n j : ℕ) → j < n → all f (rows at n) ≡ true → f (single (at + j)) ≡ true
  unfolding all
  rows_each f at zero j h g = absurd (not-suc-le-zero h)
  rows_each f at (suc n) zero h g =
      let both = both_true (f (single at)) (all f (rows (at + 1) n)) (sym (ap (all f) (next at n)) ∙ g) in
      subst (λ (k : ℕ). f (single k) ≡ true) (omega arith) both.0
  rows_each f at (suc n) (suc j) h g =
      let both = both_true (f (single at)) (all f (rows (at + 1) n)) (sym (ap (all f) (next at n)) ∙ g) in
      let place : at + 1 + j ≡ at + suc j = omega arith in
      subst (λ (k : ℕ). f (single k) ≡ true) place (rows_each f (at + 1) n j (omega arith) both.1)

  -- the one at a place is the one read there
  pub rows_at : (at n j : ℕ) (d : A) → j < n → get_or (rows at n) j d ≡ single (at + j)
  rows_at at zero j d h = absurd (not-suc-le-zero h)
  rows_at at (suc n) zero d h = ap (λ l. get_or l 0 d) (next at n) ∙ ap single (omega arith)
  rows_at at (suc n) (suc j) d h =
      let place : at + 1 + j ≡ at + suc j = omega arith in
      ap (λ l. get_or l (suc j) d) (next at n) ∙ rows_at (at + 1) n j d (omega arith) ∙ ap single place

-- and of which there may be none
module _ {A : Type 0} (single : ℕ → A) (rows : ℕ → ℕ → List A) (none : (at : ℕ) → rows at 0 ≡ [])
    (next : (at n : ℕ) → rows at (suc n) ≡ single at ∷ rows (at + 1) n) where
  pub rows_length : (at n : ℕ) → length (rows at n) ≡ n
  rows_length at zero = ap length (none at)
  rows_length at (suc n) = ap length (next at n) ∙ ap suc (rows_length (at + 1) n)

  rows_more : (at n : ℕ) → 0 < n → rows at n ≡ single at ∷ rows (at + 1) (n - 1)
  rows_more at zero h = absurd (not-suc-le-zero h)
  rows_more at (suc n) h =
      let back : n ≡ suc n - 1 = omega arith in
      next at n ∙ ap (λ (k : ℕ). single at ∷ rows (at + 1) k) back

  rows_none : (at n : ℕ) → n ≤ 0 → rows at n ≡ []
  rows_none at zero h = none at
  rows_none at (suc n) h = absurd (not-suc-le-zero h)

module _ (t : List ℕ) where
  pub length-items : (at n : ℕ) → length (read_items t at n) ≡ n
  unfolding read_items
  length-items = rows_length (λ at. item_of_cell (cell_at t (items_at + 8 * at))) (read_items t) (λ at. refl) (λ at n. refl)

  pub items_more : (at n : ℕ) → 0 < n → read_items t at n ≡ item_of_cell (cell_at t (items_at + 8 * at)) ∷ read_items t (at + 1) (n - 1)
  unfolding read_items
  items_more = rows_more (λ at. item_of_cell (cell_at t (items_at + 8 * at))) (read_items t) (λ at. refl) (λ at n. refl)

  pub items_none : (at n : ℕ) → n ≤ 0 → read_items t at n ≡ []
  unfolding read_items
  items_none = rows_none (λ at. item_of_cell (cell_at t (items_at + 8 * at))) (read_items t) (λ at. refl) (λ at n. refl)

  pub length-elements : (at n : ℕ) → length (read_elements t at n) ≡ n
  unfolding read_elements
  length-elements = rows_length (λ at. element_of_cell t (cell_at t (elements_at + 8 * at))) (read_elements t) (λ at. refl) (λ at n. refl)

  pub elements-more : (at n : ℕ) → 0 < n
      → read_elements t at n ≡ element_of_cell t (cell_at t (elements_at + 8 * at)) ∷ read_elements t (at + 1) (n - 1)
  unfolding read_elements
  elements-more = rows_more (λ at. element_of_cell t (cell_at t (elements_at + 8 * at))) (read_elements t) (λ at. refl) (λ at n. refl)

  pub elements_none : (at n : ℕ) → n ≤ 0 → read_elements t at n ≡ []
  unfolding read_elements
  elements_none = rows_none (λ at. element_of_cell t (cell_at t (elements_at + 8 * at))) (read_elements t) (λ at. refl) (λ at n. refl)

  pub length_patterns : (at n : ℕ) → length (read_pattern t at n) ≡ n
  unfolding read_pattern
  length_patterns = rows_length (λ at. pattern_of_cell t (cell_at t (elements_at + 8 * at))) (read_pattern t) (λ at. refl) (λ at n. refl)

  pub patterns_more : (at n : ℕ) → 0 < n
      → read_pattern t at n ≡ pattern_of_cell t (cell_at t (elements_at + 8 * at)) ∷ read_pattern t (at + 1) (n - 1)
  unfolding read_pattern
  patterns_more = rows_more (λ at. pattern_of_cell t (cell_at t (elements_at + 8 * at))) (read_pattern t) (λ at. refl) (λ at n. refl)

  pub patterns_none : (at n : ℕ) → n ≤ 0 → read_pattern t at n ≡ []
  unfolding read_pattern
  patterns_none = rows_none (λ at. pattern_of_cell t (cell_at t (elements_at + 8 * at))) (read_pattern t) (λ at. refl) (λ at n. refl)
