-- A row and a header written part by part. Assumes nothing.
use Rattle.std.specs.Prelude.{cond, List, [], ◌∷◌, ◌++◌, ◌≡◌, refl, ℕ, ◌+◌, ◌*◌, ◌≤◌, ◌<◌, length, set}
use Rattle.std.proofs.Common.{sym, ap, ◌∙◌, arith, length-set, lt-ltb, le-ltb}
use Rattle.base.specs.Current.{table_size}
use Rattle.encoding.specs.Meaning.{row_meaning, cell_meaning}
use Rattle.encoding.specs.declared.cells.Row.{Row}
use Rattle.encoding.specs.Numerals.{in_bytes}
use Rattle.encoding.specs.Splices.{splice, splice-behind, set-splice}
use Rattle.encoding.specs.Table as Table
use Rattle.encoding.specs.Table.{cell_bytes, row_bytes, steps_at, format}
use Rattle.deck_reader.specs.Writing.{with_row, Written, with_header}

-- two bytes
pub two-set : (t : List ℕ) (at a b : ℕ) → at + 2 ≤ length t → set (set t at a) (at + 1) b ≡ splice t at (a ∷ (b ∷ []))
two-set t at a b h =
    set-splice (set t at a) (at + 1) b (omega (arith, length-set t at a))
    ∙ ap (λ (u : List ℕ). splice u (at + 1) (b ∷ [])) (set-splice t at a (omega arith))
    ∙ splice-behind t at (a ∷ []) (b ∷ []) (omega arith)

-- one part behind others
join : (t v : List ℕ) {t' t'' : List ℕ} (at p : ℕ) (w : List ℕ) → at ≤ length t → t' ≡ splice t at v → p ≡ at + length v → t'' ≡ splice t' p w
    → t'' ≡ splice t at (v ++ w)
join t v at p w h e q f =
    f ∙ ap (λ (u : List ℕ). splice u p w) e ∙ ap (λ (n : ℕ). splice (splice t at v) n w) q ∙ splice-behind t at v w h

-- a row
pub row_put : (t : List ℕ) {a b c d : List ℕ} (at card : ℕ) (r : Row) → at + 24 ≤ length t
    → a ≡ splice (set (set t at r.kind) (at + 1) r.flag) (at + 2) (in_bytes 2 card)
    → b ≡ splice a (at + 4) (in_bytes 2 r.branch.success)
    → c ≡ splice b (at + 6) (in_bytes 2 r.branch.failure)
    → d ≡ splice (splice c (at + 8) (cell_bytes (cell_meaning r.left))) (at + 8 + 8) (cell_bytes (cell_meaning r.right))
    → d ≡ splice t at (row_bytes card (row_meaning r))
unfolding in_bytes cell_bytes row_bytes
row_put t at card r h e₁ e₂ e₃ e₄ =
    let inside : at ≤ length t = omega arith in
    let kinds = two-set t at r.kind r.flag (omega arith) in
    let v₁ : List ℕ = r.kind ∷ (r.flag ∷ []) in
    let v₂ = v₁ ++ in_bytes 2 card in
    let v₃ = v₂ ++ in_bytes 2 r.branch.success in
    let v₄ = v₃ ++ in_bytes 2 r.branch.failure in
    let v₅ = v₄ ++ cell_bytes (cell_meaning r.left) in
    let one = join t v₁ at (at + 2) (in_bytes 2 card) inside kinds refl e₁ in
    let two = join t v₂ at (at + 4) (in_bytes 2 r.branch.success) inside one refl e₂ in
    let three = join t v₃ at (at + 6) (in_bytes 2 r.branch.failure) inside two refl e₃ in
    let four = join t v₄ at (at + 8) (cell_bytes (cell_meaning r.left)) inside three refl refl in
    join t v₅ at (at + 8 + 8) (cell_bytes (cell_meaning r.right)) inside four (omega arith) e₄

-- in its place among the rows
pub row_inside : (t : List ℕ) {d : List ℕ} (k card : ℕ) (r : Table.Row) → k < 256 → d ≡ splice t (64 + 24 * k) (row_bytes card r) → d ≡ with_row t k card r
unfolding with_row steps_at
row_inside t k card r h e = e ∙ sym (ap (λ b. cond b (splice t (64 + 24 * k) (row_bytes card r)) t) (lt-ltb k 256 h))

pub row-behind : (t : List ℕ) (k card : ℕ) (r : Table.Row) → 256 ≤ k → t ≡ with_row t k card r
unfolding with_row steps_at
row-behind t k card r h = sym (ap (λ b. cond b (splice t (64 + 24 * k) (row_bytes card r)) t) (le-ltb k 256 h))

-- the header
pub header-put : (w : Written) {a b c d e f : List ℕ} (strings numbers : ℕ) → table_size ≤ length w.table
    → a ≡ splice (set (set w.table 0 1) 1 0) 2 (in_bytes 2 w.steps) → b ≡ splice a 4 (in_bytes 2 strings) → c ≡ splice b 6 (in_bytes 2 numbers)
    → d ≡ splice c 8 (in_bytes 2 w.elements) → e ≡ splice d 10 (in_bytes 2 w.items) → f ≡ splice e 12 (in_bytes 2 w.literals)
    → f ≡ with_header w strings numbers
unfolding in_bytes with_header format
header-put w strings numbers h e₁ e₂ e₃ e₄ e₅ e₆ =
    let t = w.table in
    let inside : 0 ≤ length t = omega arith in
    let kinds = two-set t 0 1 0 (omega arith) in
    let v₁ : List ℕ = 1 ∷ (0 ∷ []) in
    let v₂ = v₁ ++ in_bytes 2 w.steps in
    let v₃ = v₂ ++ in_bytes 2 strings in
    let v₄ = v₃ ++ in_bytes 2 numbers in
    let v₅ = v₄ ++ in_bytes 2 w.elements in
    let v₆ = v₅ ++ in_bytes 2 w.items in
    let one = join t v₁ 0 2 (in_bytes 2 w.steps) inside kinds refl e₁ in
    let two = join t v₂ 0 4 (in_bytes 2 strings) inside one refl e₂ in
    let three = join t v₃ 0 6 (in_bytes 2 numbers) inside two refl e₃ in
    let four = join t v₄ 0 8 (in_bytes 2 w.elements) inside three refl e₄ in
    let five = join t v₅ 0 10 (in_bytes 2 w.items) inside four refl e₅ in
    join t v₆ 0 12 (in_bytes 2 w.literals) inside five refl e₆
