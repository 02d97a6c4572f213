-- The element rows and literal bytes of a table as they are written one by one; behind the last row and the last byte nothing is
-- written. Assumes nothing.
use Rattle.std.specs.Prelude.{cond, List, [], ◌∷◌, ◌++◌, ◌≡◌, refl, ℕ, suc, ◌+◌, ◌*◌, ◌-◌, ◌≤◌, ltb, length, take, drop}
use Rattle.std.proofs.Common.{append_assoc, sym, ap, ap₂, ◌∙◌, add-zero, arith, length-append, length-drop, length-take-le, lt-ltb}
use Rattle.base.specs.Current.{table_size}
use Rattle.base.specs.Limits as Limits
use Rattle.encoding.specs.CellLaws.{length-cell_bytes}
use Rattle.encoding.specs.Splices.{splice, splice_nil, splice-behind, splice-before, splice-same-behind, splice-same-before, length-splice}
use Rattle.encoding.specs.Table.{Cell, cell_bytes, pattern_cell, literal_in, all_literals, element_rows, elements_at, literals_at}
use Rattle.encoding.specs.TableLaws.{length-element_rows}
use Rattle.syntax.specs.Program.{PatternElement}
use Rattle.symbols.specs.Cells.{with_cell}

-- a cell as element k of all elements
unfoldable pub with_element : List ℕ → ℕ → Cell → List ℕ
with_element t = with_cell t elements_at Limits.elements

-- bytes from literal byte l of all literal bytes on
unfoldable pub with_literals : List ℕ → ℕ → List ℕ → List ℕ
with_literals t l [] = t
with_literals t l (b ∷ bs) = with_literals (cond (ltb l Limits.literals) (splice t (literals_at + l) (b ∷ [])) t) (suc l) bs

-- elements from element k and literal byte l on: each with its literal bytes first
unfoldable pub with_elements : List ℕ → (k l : ℕ) → List PatternElement → List ℕ
with_elements t k l [] = t
with_elements t k l (x ∷ xs) =
    with_elements (with_element (with_literals t l (literal_in x)) k (pattern_cell l x)) (suc k) (l + length (literal_in x)) xs

-- elements, and then more
pub elements-append : (t : List ℕ) (k l : ℕ) (xs ys : List PatternElement)
    → with_elements t k l (xs ++ ys) ≡ with_elements (with_elements t k l xs) (k + length xs) (l + length (all_literals xs)) ys
unfolding with_elements all_literals
elements-append t k l [] ys = rw (add-zero k, add-zero l)
elements-append t k l (x ∷ xs) ys =
    let t' = with_element (with_literals t l (literal_in x)) k (pattern_cell l x) in
    let l' = l + length (literal_in x) in
    let place : suc k + length xs ≡ k + length (x ∷ xs) = omega arith in
    let byte : l' + length (all_literals xs) ≡ l + length (literal_in x ++ all_literals xs) =
    omega (arith, length-append (literal_in x) (all_literals xs)) in
    elements-append t' (suc k) l' xs ys
    ∙ ap₂ (λ (i j : ℕ). with_elements (with_elements t' (suc k) l' xs) i j ys) place byte

-- literal bytes, and then more
pub literals-append : (t : List ℕ) (l : ℕ) (bs cs : List ℕ)
    → with_literals t l (bs ++ cs) ≡ with_literals (with_literals t l bs) (l + length bs) cs
unfolding with_literals
literals-append t l [] cs = rw (add-zero l)
literals-append t l (b ∷ bs) cs =
    let t' = cond (ltb l Limits.literals) (splice t (literals_at + l) (b ∷ [])) t in
    literals-append t' (suc l) bs cs ∙ ap (λ n. with_literals (with_literals t' (suc l) bs) n cs) (omega arith)

-- one element
pub elements-one : (t : List ℕ) (k l : ℕ) (x : PatternElement)
    → with_elements t k l (x ∷ []) ≡ with_element (with_literals t l (literal_in x)) k (pattern_cell l x)
unfolding with_elements
elements-one t k l x = refl

-- where all have room, literal bytes are written over what was there
pub literals_rows : (t : List ℕ) (l : ℕ) (bs : List ℕ) → l + length bs ≤ Limits.literals → table_size ≤ length t
    → with_literals t l bs ≡ splice t (literals_at + l) bs
unfolding with_literals literals_at
literals_rows t l [] h g = sym (splice_nil t (22_592 + l))
literals_rows t l (b ∷ bs) h g =
    let next : 22_592 + suc l ≡ 22_592 + l + length (b ∷ []) = omega arith in
    rw (lt-ltb l 4096 (omega arith))
    (literals_rows (splice t (22_592 + l) (b ∷ [])) (suc l) bs (omega arith)
    (omega (arith, length-splice t (22_592 + l) (b ∷ []) (omega arith)))
    ∙ ap (λ n. splice (splice t (22_592 + l) (b ∷ [])) n bs) next
    ∙ splice-behind t (22_592 + l) (b ∷ []) bs (omega arith))

-- what is written at places apart may be written in either order
splice_swap : (t : List ℕ) (a b : ℕ) (v w : List ℕ) → a + length v ≤ b → b ≤ length t
    → splice (splice t b w) a v ≡ splice (splice t a v) b w
splice_swap t a b v w h g =
    let n = b - (a + length v) in
    let mid = take n (drop (a + length v) t) in
    let size : length mid ≡ n = length-take-le n (drop (a + length v) t) (simp length-drop (omega arith)) in
    let there : take (length mid) (drop (a + length v) t) ≡ mid = ap (λ j. take j (drop (a + length v) t)) size in
    let front : a + length v + length mid ≡ b = omega arith in
    let end : a + length (v ++ mid) ≡ b = omega (arith, length-append v mid) in
    ap (λ j. splice (splice t j w) a v) (sym front)
    ∙ ap (λ (l : List ℕ). splice l a v) (sym (splice-same-before t (a + length v) w mid there))
    ∙ splice-before t a (mid ++ w) v (omega arith)
    ∙ ap (splice t a) (sym (append_assoc v mid w))
    ∙ sym (splice-behind t a (v ++ mid) w (omega arith))
    ∙ ap₂ (λ (l : List ℕ) (j : ℕ). splice l j w) (splice-same-behind t a v mid there) end

-- where all have rows and room, the elements' rows and their literal bytes are written over what was there
pub elements_rows : (t : List ℕ) (k l : ℕ) (es : List PatternElement) → k + length es ≤ Limits.elements
    → l + length (all_literals es) ≤ Limits.literals → table_size ≤ length t
    → with_elements t k l es ≡ splice (splice t (elements_at + 8 * k) (element_rows l es)) (literals_at + l) (all_literals es)
unfolding with_elements with_element with_cell element_rows all_literals elements_at literals_at
elements_rows t k l [] h m g =
    sym (splice_nil (splice t (6208 + 8 * k) []) (22_592 + l) ∙ splice_nil t (6208 + 8 * k))
elements_rows t k l (x ∷ xs) h m g =
    let w = literal_in x in
    let bytes = cell_bytes (pattern_cell l x) in
    let size = length-cell_bytes (pattern_cell l x) in
    let at = 6208 + 8 * k in
    let here = 22_592 + l in
    let next : 6208 + 8 * suc k ≡ at + length bytes = omega arith in
    let byte : 22_592 + (l + length w) ≡ here + length w = omega arith in
    let more = element_rows (l + length w) xs in
    let lits = all_literals xs in
    let count = length-append w lits in
    let rest = length-element_rows (l + length w) xs in
    let u = splice t at bytes in
    let long = length-splice t at bytes (omega arith) in
    let v = splice t at (bytes ++ more) in
    let longer = length-splice t at (bytes ++ more) (omega (arith, length-append bytes more)) in
    let t' = splice (splice t here w) at bytes in
    let put : cond (ltb k 1024) (splice (with_literals t l w) at bytes) (with_literals t l w) ≡ t' =
    rw (lt-ltb k 1024 (omega arith)) (ap (λ (y : List ℕ). splice y at bytes) (literals_rows t l w (omega arith) g)) in
    let swapped : t' ≡ splice u here w = splice_swap t at here bytes w (omega arith) (omega arith) in
    ap (λ (y : List ℕ). with_elements y (suc k) (l + length w) xs) (put ∙ swapped)
    ∙ elements_rows (splice u here w) (suc k) (l + length w) xs (omega arith) (omega arith)
    (omega (arith, length-splice u here w (omega arith)))
    ∙ ap₂ (λ (i j : ℕ). splice (splice (splice u here w) i more) j lits) next byte
    ∙ ap (λ (y : List ℕ). splice y (here + length w) lits)
    (splice_swap u (at + length bytes) here more w (omega arith) (omega arith)
    ∙ ap (λ (y : List ℕ). splice y here w) (splice-behind t at bytes more (omega arith)))
    ∙ splice-behind v here w lits (omega arith)
