-- The bytes of regions are those of a program: its cells and rows then stand at their places. Assumes nothing.
use mathlib.Core.List.{List, [], ◌∷◌, ◌++◌}
use Rattle.std.specs.Prelude.{◌≡◌, take, drop}
use Rattle.std.proofs.Math.Path.{refl, sym, ap, subst}
use Rattle.std.proofs.Common.{◌∙◌, take_at, drop_at}
use Prim.Native.Nat.{ℕ, suc, ◌+◌, ◌*◌, ◌-◌, ◌≤◌}
use native.Mathlib.Omega.{arith}
use Rattle.std.proofs.Math.ListN.{length, replicate, length-append}
use Rattle.base.specs.ListLaws.{length_stretch}
use Rattle.syntax.specs.Program.{Item, PatternElement, Step}
use Rattle.encoding.specs.CellLaws.{length-cell_bytes}
use Rattle.encoding.specs.RowLaws.{EachFrom, each-front, each_back, length-row_bytes}
use Rattle.encoding.specs.Table.{cell_bytes, item_cell, pattern_cell, literal_in, elements_of, items_of, row_bytes}
use Rattle.encoding.specs.Table.{statement_row, step_rows, all_elements, all_items, all_literals, element_rows, item_rows, filled_to}
use Rattle.encoding.specs.Table.{steps_at, elements_at, items_at, literals_at}
use Rattle.verifier.specs.Same.{ItemSame, SameElements, SameSteps}
use Rattle.verifier.specs.Written.{piece, piece_add}

-- equal lists that are made of two are equal part by part
append-split : (xs ys zs ws : List ℕ) → xs ++ ys ≡ zs ++ ws → length xs ≡ length zs → (xs ≡ zs) × (ys ≡ ws)
append-split xs ys zs ws e h =
    let n = length xs in (
      sym (take_at xs ys n refl) ∙ ap (take n) e ∙ take_at zs ws n (sym h),
      sym (drop_at xs ys n refl) ∙ ap (drop n) e ∙ drop_at zs ws n (sym h),
    )

module _ (t : List ℕ) where
  -- a piece that is made of two
  pub piece-split : (at n m : ℕ) (xs ys : List ℕ) → xs ++ ys ≡ piece t at (n + m) → length xs ≡ n → at + n ≤ length t
      → (xs ≡ piece t at n) × (ys ≡ piece t (at + n) m)
  piece-split at n m xs ys e h room =
      append-split xs ys (piece t at n) (piece t (at + n) m) (e ∙ piece_add t at n m) (h ∙ sym (length_stretch t at n room))

  -- bytes that are filled up, and the zeros behind them
  pub filled-split : (at n k : ℕ) (bs : List ℕ) → filled_to n bs ≡ piece t at n → length bs ≡ k → k ≤ n → at + n ≤ length t
      → (bs ≡ piece t at k) × (piece t (at + k) (n - k) ≡ replicate (n - k) 0)
  unfolding filled_to
  filled-split at n k bs e h inside room =
      let sum : n ≡ k + (n - k) = omega arith in
      let both = piece-split at k (n - k) bs (replicate (n - length bs) 0) (e ∙ ap (piece t at) sum) h (omega arith) in
      (both.0, sym both.1 ∙ ap (λ (m : ℕ). replicate (n - m) 0) h)

  pub items-same : (i : ℕ) (xs : List Item) → item_rows xs ≡ piece t (items_at + 8 * i) (8 * length xs)
      → items_at + 8 * (i + length xs) ≤ length t → EachFrom (ItemSame t) i xs
  unfolding item_rows
  items-same i [] e room = tt
  items-same i (x ∷ xs) e room =
      let at = items_at + 8 * i in
      let n = length xs in
      let size : 8 * suc n ≡ 8 + 8 * n = omega arith in
      let next : at + 8 ≡ items_at + 8 * (i + 1) = omega arith in
      let own = cell_bytes (item_cell x) in
      let both = piece-split at 8 (8 * n) own (item_rows xs) (e ∙ ap (piece t at) size) (length-cell_bytes (item_cell x)) (omega arith) in
      (both.0, items-same (i + 1) xs (both.1 ∙ ap (λ (p : ℕ). piece t p (8 * n)) next) (omega arith))

  pub elements_same : (e l : ℕ) (xs : List PatternElement) → element_rows l xs ≡ piece t (elements_at + 8 * e) (8 * length xs)
      → elements_at + 8 * (e + length xs) ≤ length t → all_literals xs ≡ piece t (literals_at + l) (length (all_literals xs))
      → literals_at + (l + length (all_literals xs)) ≤ length t → SameElements t e l xs
  unfolding element_rows all_literals
  elements_same e l [] q room w roomy = tt
  elements_same e l (x ∷ xs) q room w roomy =
      let at = elements_at + 8 * e in
      let n = length xs in
      let size : 8 * suc n ≡ 8 + 8 * n = omega arith in
      let next : at + 8 ≡ elements_at + 8 * (e + 1) = omega arith in
      let own = length (literal_in x) in
      let more = l + own in
      let both =
      piece-split at 8 (8 * n) (cell_bytes (pattern_cell l x)) (element_rows more xs) (q ∙ ap (piece t at) size)
      (length-cell_bytes (pattern_cell l x)) (omega arith) in
      let m = length (all_literals xs) in
      let count = length-append (literal_in x) (all_literals xs) in
      let behind : literals_at + l + own ≡ literals_at + (l + own) = omega arith in
      let literals =
      piece-split (literals_at + l) own m (literal_in x) (all_literals xs) (w ∙ ap (piece t (literals_at + l)) count) refl (omega arith) in (
        both.0,
        literals.0,
        elements_same (e + 1) more xs (both.1 ∙ ap (λ (p : ℕ). piece t p (8 * n)) next) (omega arith)
            (literals.1 ∙ ap (λ (p : ℕ). piece t p m) behind) (omega arith),
      )

  -- of the elements of two rows the first stand at their places, and the others behind them
  pub same-front : (e l : ℕ) (xs ys : List PatternElement) → SameElements t e l (xs ++ ys) → SameElements t e l xs
  same-front e l [] ys h = tt
  same-front e l (x ∷ xs) ys h = (h.0, h.1, same-front (e + 1) (l + length (literal_in x)) xs ys h.2)

  pub same_back : (e l : ℕ) (xs ys : List PatternElement) → SameElements t e l (xs ++ ys)
      → SameElements t (e + length xs) (l + length (all_literals xs)) ys
  unfolding all_literals
  same_back e l [] ys h =
      let place : e ≡ e + 0 = omega arith in
      let literals : l ≡ l + 0 = omega arith in
      subst (λ (n : ℕ). SameElements t n (l + 0) ys) place (subst (λ (n : ℕ). SameElements t e n ys) literals h)
  same_back e l (x ∷ xs) ys h =
      let own = length (literal_in x) in
      let place : e + 1 + length xs ≡ e + suc (length xs) = omega arith in
      let literals : l + own + length (all_literals xs) ≡ l + length (literal_in x ++ all_literals xs) =
      omega (arith, length-append (literal_in x) (all_literals xs)) in
      let behind = same_back (e + 1) (l + own) xs ys h.2 in
      subst (λ (n : ℕ). SameElements t n (l + length (literal_in x ++ all_literals xs)) ys) place
      (subst (λ (n : ℕ). SameElements t (e + 1 + length xs) n ys) literals behind)

  pub steps-same : (k e i l : ℕ) (ss : List Step) → step_rows e i ss ≡ piece t (steps_at + 24 * k) (24 * length ss)
      → steps_at + 24 * (k + length ss) ≤ length t → SameElements t e l (all_elements ss)
      → EachFrom (ItemSame t) i (all_items ss) → SameSteps t k e i l ss
  unfolding step_rows all_elements all_items
  steps-same k e i l [] q room es is = tt
  steps-same k e i l (x ∷ xs) q room es is =
      let s = x.statement in
      let own = elements_of s in
      let own_items = items_of s in
      let at = steps_at + 24 * k in
      let n = length xs in
      let size : 24 * suc n ≡ 24 + 24 * n = omega arith in
      let next : at + 24 ≡ steps_at + 24 * (k + 1) = omega arith in
      let bytes = row_bytes x.card (statement_row e i s) in
      let rest = step_rows (e + length own) (i + length own_items) xs in
      let both = piece-split at 24 (24 * n) bytes rest (q ∙ ap (piece t at) size) (length-row_bytes x.card (statement_row e i s)) (omega arith) in (
        record {
          row = both.0;
          elements = same-front e l own (all_elements xs) es;
          items = each-front (ItemSame t) i own_items (all_items xs) is;
        },
        steps-same (k + 1) (e + length own) (i + length own_items) (l + length (all_literals own)) xs
            (both.1 ∙ ap (λ (p : ℕ). piece t p (24 * n)) next) (omega arith) (same_back e l own (all_elements xs) es)
            (each_back (ItemSame t) i own_items (all_items xs) is),
      )
