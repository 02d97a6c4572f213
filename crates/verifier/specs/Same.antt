-- The cells and rows of a table are those of a program: what the bytes of its regions then are. Assumes nothing.
use mathlib.Core.List.{List, [], ◌∷◌, ◌++◌}
use Rattle.std.specs.Prelude.{◌≡◌}
use Rattle.std.proofs.Math.Path.{refl, subst}
use Rattle.std.proofs.Common.{sym}
use Prim.Native.Nat.{ℕ, suc, ◌+◌, ◌*◌}
use native.Mathlib.Omega.{arith}
use Rattle.std.proofs.Math.ListN.{length, length-append}
use Rattle.syntax.specs.Program.{Item, PatternElement, Step}
use Rattle.encoding.specs.RowLaws.{EachFrom}
use Rattle.encoding.specs.Table.{cell_bytes, item_cell, pattern_cell, literal_in, elements_of, items_of, row_bytes}
use Rattle.encoding.specs.Table.{statement_row, step_rows, all_elements, all_items, all_literals, element_rows, item_rows}
use Rattle.encoding.specs.Table.{steps_at, elements_at, items_at, literals_at}
use Rattle.verifier.specs.Written.{piece, piece-more}

-- two rows that have a property by place have it one behind the other
pub each_append : {A : Type 0} (P : ℕ → A → Type 0) (at : ℕ) (xs ys : List A) → EachFrom P at xs → EachFrom P (at + length xs) ys
    → EachFrom P at (xs ++ ys)
each_append P at [] ys h g = subst (λ (n : ℕ). EachFrom P n ys) (omega arith) g
each_append P at (x ∷ xs) ys h g =
    let place : at + suc (length xs) ≡ at + 1 + length xs = omega arith in
    (h.0, each_append P (at + 1) xs ys h.1 (subst (λ (n : ℕ). EachFrom P n ys) place g))

module _ (t : List ℕ) where
  -- an item's cell stands at its place
  abbrev pub ItemSame : ℕ → Item → Type 0
  ItemSame i x = cell_bytes (item_cell x) ≡ piece t (items_at + 8 * i) 8

  -- the cells of elements stand at their places, and their literal bytes from a place on
  abbrev pub SameElements : (e l : ℕ) → List PatternElement → Type 0
  SameElements e l [] = Unit {0}
  SameElements e l (x ∷ xs) =
      (cell_bytes (pattern_cell l x) ≡ piece t (elements_at + 8 * e) 8)
      × (literal_in x ≡ piece t (literals_at + l) (length (literal_in x)))
      × SameElements (e + 1) (l + length (literal_in x)) xs

  -- a step's row stands at its place, and so do its elements and items
  pub record StepSame (k e i l : ℕ) (x : Step) : Type 0 where
    pub row : row_bytes x.card (statement_row e i x.statement) ≡ piece t (steps_at + 24 * k) 24
    pub elements : SameElements e l (elements_of x.statement)
    pub items : EachFrom ItemSame i (items_of x.statement)

  abbrev pub SameSteps : (k e i l : ℕ) → List Step → Type 0
  SameSteps k e i l [] = Unit {0}
  SameSteps k e i l (x ∷ xs) =
      StepSame k e i l x
      × SameSteps (k + 1) (e + length (elements_of x.statement)) (i + length (items_of x.statement))
      (l + length (all_literals (elements_of x.statement))) xs

  -- all elements of the steps, with their literals, and all items
  pub same-append : (e l : ℕ) (xs ys : List PatternElement) → SameElements e l xs → SameElements (e + length xs) (l + length (all_literals xs)) ys
      → SameElements e l (xs ++ ys)
  unfolding all_literals
  same-append e l [] ys h g =
      let place : e + 0 ≡ e = omega arith in
      let literals : l + 0 ≡ l = omega arith in
      subst (λ (n : ℕ). SameElements n l ys) place (subst (λ (n : ℕ). SameElements (e + 0) n ys) literals g)
  same-append e l (x ∷ xs) ys h g =
      let own = length (literal_in x) in
      let place : e + suc (length xs) ≡ e + 1 + length xs = omega arith in
      let literals : l + length (literal_in x ++ all_literals xs) ≡ l + own + length (all_literals xs) =
      omega (arith, length-append (literal_in x) (all_literals xs)) in
      let moved = subst (λ (n : ℕ). SameElements (e + suc (length xs)) n ys) literals g in
      let moved2 = subst (λ (n : ℕ). SameElements n (l + own + length (all_literals xs)) ys) place moved in
      (h.0, h.1, same-append (e + 1) (l + own) xs ys h.2 moved2)

  pub all-elements : (k e i l : ℕ) (ss : List Step) → SameSteps k e i l ss → SameElements e l (all_elements ss)
  unfolding all_elements
  all-elements k e i l [] h = tt
  all-elements k e i l (x ∷ xs) h =
      let own = elements_of x.statement in
      let items = items_of x.statement in
      same-append e l own (all_elements xs) h.0.elements
      (all-elements (k + 1) (e + length own) (i + length items) (l + length (all_literals own)) xs h.1)

  pub all-items : (k e i l : ℕ) (ss : List Step) → SameSteps k e i l ss → EachFrom ItemSame i (all_items ss)
  unfolding all_items
  all-items k e i l [] h = tt
  all-items k e i l (x ∷ xs) h =
      let own = elements_of x.statement in
      let items = items_of x.statement in
      each_append ItemSame i items (all_items xs) h.0.items
      (all-items (k + 1) (e + length own) (i + length items) (l + length (all_literals own)) xs h.1)

  -- all literals are the bytes from their place on
  pub literals-written : (e l : ℕ) (xs : List PatternElement) → SameElements e l xs
      → all_literals xs ≡ piece t (literals_at + l) (length (all_literals xs))
  unfolding all_literals
  literals-written e l [] h = refl
  literals-written e l (x ∷ xs) h =
      let count = length-append (literal_in x) (all_literals xs) in
      let own = length (literal_in x) in
      piece-more t (literals_at + l) own (literals_at + (l + own)) (length (all_literals xs)) (length (literal_in x ++ all_literals xs)) h.1
      (literals-written (e + 1) (l + own) xs h.2) (omega arith) (sym count)

  -- the bytes of the regions
  pub items-written : (i : ℕ) (xs : List Item) → EachFrom ItemSame i xs
      → item_rows xs ≡ piece t (items_at + 8 * i) (8 * length xs)
  unfolding item_rows
  items-written i [] h = refl
  items-written i (x ∷ xs) h =
      piece-more t (items_at + 8 * i) 8 (items_at + 8 * (i + 1)) (8 * length xs) (8 * suc (length xs)) h.0 (items-written (i + 1) xs h.1) (omega arith) (omega arith)

  pub elements-written : (e l : ℕ) (xs : List PatternElement) → SameElements e l xs
      → element_rows l xs ≡ piece t (elements_at + 8 * e) (8 * length xs)
  unfolding element_rows
  elements-written e l [] h = refl
  elements-written e l (x ∷ xs) h =
      piece-more t (elements_at + 8 * e) 8 (elements_at + 8 * (e + 1)) (8 * length xs) (8 * suc (length xs)) h.0 (elements-written (e + 1) (l + length (literal_in x)) xs h.2) (omega arith)
      (omega arith)

  pub steps-written : (k e i l : ℕ) (ss : List Step) → SameSteps k e i l ss
      → step_rows e i ss ≡ piece t (steps_at + 24 * k) (24 * length ss)
  unfolding step_rows
  steps-written k e i l [] h = refl
  steps-written k e i l (x ∷ xs) h =
      let s = x.statement in
      piece-more t (steps_at + 24 * k) 24 (steps_at + 24 * (k + 1)) (24 * length xs) (24 * suc (length xs)) h.0.row
      (steps-written (k + 1) (e + length (elements_of s)) (i + length (items_of s)) (l + length (all_literals (elements_of s))) xs h.1)
      (omega arith) (omega arith)
