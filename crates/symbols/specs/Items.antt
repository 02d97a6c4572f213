-- The item rows of a table as they are written one by one; behind the last row nothing is written. Assumes nothing.
use Rattle.std.specs.Prelude.{List, [], ◌∷◌, ◌++◌, ◌≡◌, ℕ, suc, ◌+◌, ◌*◌, ◌≤◌, length}
use Rattle.std.proofs.Common.{sym, ap, ◌∙◌, arith, add-zero, lt-ltb}
use Rattle.base.specs.Current.{table_size}
use Rattle.base.specs.Limits as Limits
use Rattle.encoding.specs.CellLaws.{length-cell_bytes}
use Rattle.encoding.specs.Splices.{splice, splice_nil, splice-behind, length-splice}
use Rattle.encoding.specs.Table.{Cell, cell_bytes, item_cell, item_rows, items_at}
use Rattle.syntax.specs.Program.{Item}
use Rattle.symbols.specs.Cells.{with_cell}

-- a cell as item k of all items
unfoldable pub with_item : List ℕ → ℕ → Cell → List ℕ
with_item t = with_cell t items_at Limits.items

-- items from item k on
unfoldable pub with_items : List ℕ → ℕ → List Item → List ℕ
with_items t k [] = t
with_items t k (i ∷ is) = with_items (with_item t k (item_cell i)) (suc k) is

-- items, and then more
pub items-append : (t : List ℕ) (k : ℕ) (is js : List Item) → with_items t k (is ++ js) ≡ with_items (with_items t k is) (k + length is) js
unfolding with_items
items-append t k [] js = rw add-zero
items-append t k (i ∷ is) js =
    items-append (with_item t k (item_cell i)) (suc k) is js
    ∙ ap (λ n. with_items (with_items (with_item t k (item_cell i)) (suc k) is) n js) (omega arith)

-- where all have rows, the items' rows are written over what was there
pub items_rows : (t : List ℕ) (k : ℕ) (is : List Item) → k + length is ≤ Limits.items → table_size ≤ length t
    → with_items t k is ≡ splice t (items_at + 8 * k) (item_rows is)
unfolding with_items with_item with_cell item_rows items_at
items_rows t k [] h g = sym (splice_nil t (14_400 + 8 * k))
items_rows t k (i ∷ is) h g =
    let bytes = cell_bytes (item_cell i) in
    let size = length-cell_bytes (item_cell i) in
    let next : 14_400 + 8 * suc k ≡ 14_400 + 8 * k + length bytes = omega arith in
    rw (lt-ltb k 1024 (omega arith))
    (items_rows (splice t (14_400 + 8 * k) bytes) (suc k) is (omega arith)
    (omega (arith, length-splice t (14_400 + 8 * k) bytes (omega arith)))
    ∙ ap (λ n. splice (splice t (14_400 + 8 * k) bytes) n (item_rows is)) next
    ∙ splice-behind t (14_400 + 8 * k) bytes (item_rows is) (omega arith))
