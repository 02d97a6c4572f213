-- A number in bytes written one by one, a cell written in its parts, and literal bytes.
-- Assumes nothing.
use mathlib.Core.Bool.{Bool, cond, true, false, true≢false}
use mathlib.Core.List.{List, [], ◌∷◌, ◌++◌}
use mathlib.Core.Path.{◌≡◌, refl, sym, ap, ap₂, ◌∙◌}
use Prim.Native.Nat.{ℕ, suc, ◌+◌, ◌*◌, ◌-◌, ◌/◌, ◌%◌, ◌^◌, ◌≤◌, ◌<◌}
use native.Mathlib.Nat.{add-zero}
use native.Mathlib.Omega.{arith}
use lib.Dec.{ltb}
use lib.IntN.{ℤ, pos, negsuc, nat_abs}
use lib.ListN.{length, take, set, length-set, drop, length-drop}
use Rattle.std.proofs.Common.{take-append-drop}
use borrow.Rule.Slice.PartMut.{put_mid}
use Prim.Native.Nat.{min}
use lib.Seq.{drop-drop, length-take-le}
use Rattle.base.specs.Current.{limit, table_size}
use Rattle.encoding.specs.Numerals.{in_bytes, bias, biased}
use Rattle.encoding.specs.Splices.{splice, set-splice, splice-behind, splice_nil}
use borrow.Author.Tests.{ltb-true, ltb-false, lt-ltb, le-ltb}
use Rattle.encoding.specs.Table.{Cell, cell, cell_bytes, literals_at}
use Rattle.symbols.specs.Cells.{with_cell}
use Rattle.symbols.specs.Clauses.{cursor_behind_name, NameNoted}
use Rattle.symbols.specs.Elements.{with_literals, literals-append, literals_rows}
use Rattle.symbols.specs.declared.Cursor.{Cursor}
use Rattle.symbols.specs.declared.Mentioned.{Mentioned}
use Rattle.symbols.specs.declared.tags.Tag.{Tag}
use Rattle.values.specs.Numbers.{is_negative}

-- a byte, and then bytes behind it
pub set_then : (t : List ℕ) (a b : ℕ) (w : List ℕ) → a < length t → splice (set t a b) (a + 1) w ≡ splice t a (b ∷ w)
set_then t a b w h = rw (set-splice t a b h) (splice-behind t a (b ∷ []) w (omega arith))

-- i of a number's bytes are written
pub record Putting (t₀ : List ℕ) (at size number : ℕ) (t : List ℕ) (n i : ℕ) : Type 0 where
  pub inside : i ≤ size
  pub same : length t ≡ length t₀
  pub leads : splice t (at + i) (in_bytes (size - i) n) ≡ splice t₀ at (in_bytes size number)

module _ (t₀ : List ℕ) (at size number : ℕ) where
  pub putting_none : Putting t₀ at size number t₀ number 0
  putting_none =
      let whole : size - 0 ≡ size = omega arith in
      record { inside = omega arith; same = refl; leads = ap₂ (λ n k. splice t₀ n (in_bytes k number)) (add-zero at) whole }

  module _ (t : List ℕ) (n i : ℕ) (p : Putting t₀ at size number t n i) where
    pub putting_more : at + size ≤ length t₀ → i < size → Putting t₀ at size number (set t (at + i) (n % 256)) (n / 256) (i + 1)
    unfolding in_bytes
    putting_more room h =
        let left : size - i ≡ suc (size - (i + 1)) = omega arith in
        let next : at + (i + 1) ≡ at + i + 1 = omega arith in
        record {
          inside = omega arith;
          same = length-set t (at + i) (n % 256) ∙ p.same;
          leads =
              rw next (set_then t (at + i) (n % 256) (in_bytes (size - (i + 1)) (n / 256)) (omega (arith, p.same)))
              ∙ ap (λ k. splice t (at + i) (in_bytes k n)) (sym left)
              ∙ p.leads;
        }

    pub putting_all : size ≤ i → t ≡ splice t₀ at (in_bytes size number)
    unfolding in_bytes
    putting_all h =
        let none : size - i ≡ 0 = omega arith in
        sym (splice_nil t (at + i)) ∙ ap (λ k. splice t (at + i) (in_bytes k n)) (sym none) ∙ p.leads

-- a cell's kind, its place, and its value
pub cell-put : (t : List ℕ) (at kind place value : ℕ) → at + 8 ≤ length t
    → splice (set (set t at kind) (at + 1) place) (at + 2) (in_bytes 6 value) ≡ splice t at (cell_bytes (cell kind place value))
unfolding cell_bytes
cell-put t at kind place value h =
    let size = length-set t at kind in
    ap (λ n. splice (set (set t at kind) (at + 1) place) n (in_bytes 6 value)) (omega arith)
    ∙ set_then (set t at kind) (at + 1) place (in_bytes 6 value) (omega arith)
    ∙ set_then t at kind (place ∷ in_bytes 6 value) (omega arith)

-- a cell of a region, and one behind the last
module _ (t : List ℕ) (from most k : ℕ) (c : Cell) where
  pub cell_inside : k < most → splice t (from + 8 * k) (cell_bytes c) ≡ with_cell t from most k c
  unfolding with_cell
  cell_inside h = rw (lt-ltb k most h)

  pub cell-behind : most ≤ k → t ≡ with_cell t from most k c
  unfolding with_cell
  cell-behind h = rw (le-ltb k most h)

-- bytes behind the last literal byte are not written
literals-behind : (t : List ℕ) (l : ℕ) (bytes : List ℕ) → 4096 ≤ l → with_literals t l bytes ≡ t
unfolding with_literals
literals-behind t l [] h = refl
literals-behind t l (b ∷ bytes) h =
    ap (λ (y : List ℕ). with_literals y (suc l) bytes)
    (ap {B = List ℕ} (λ k. cond k (splice t (literals_at + l) (b ∷ [])) t) (le-ltb l 4096 h))
    ∙ literals-behind t (suc l) bytes (omega arith)

-- nothing is left to write, or no room
literals-left : (t : List ℕ) (l : ℕ) (bytes : List ℕ) → (0 < length bytes → 4096 ≤ l) → with_literals t l bytes ≡ t
unfolding with_literals
literals-left t l [] h = refl
literals-left t l (b ∷ bytes) h = literals-behind t l (b ∷ bytes) (h (omega arith))

-- those that have room are written at their place
module _ (t : List ℕ) (l : ℕ) (bytes : List ℕ) (g : table_size ≤ length t) where
  literals_fit : (n : ℕ) → n ≤ length bytes → l + n ≤ 4096 → (n < length bytes → 4096 ≤ l + n)
      → splice t (22_592 + l) (take n bytes) ≡ with_literals t l bytes
  unfolding literals_at
  literals_fit n inside room full =
      let size : length (take n bytes) ≡ n = length-take-le n bytes inside in
      let left = length-drop n bytes in
      sym
      (ap (with_literals t l) (sym (take-append-drop n bytes))
      ∙ literals-append t l (take n bytes) (drop n bytes)
      ∙ literals-left (with_literals t l (take n bytes)) (l + length (take n bytes)) (drop n bytes) (λ h. omega (arith, full (omega arith)))
      ∙ literals_rows t l (take n bytes) (omega arith) g)

  literals_full : 4096 ≤ l → splice t (22_592 + 4096) (take 0 bytes) ≡ with_literals t l bytes
  literals_full h = splice_nil t (22_592 + 4096) ∙ sym (literals-behind t l bytes h)

  -- as the code has it
  module _ (from n : ℕ) (e : from ≡ min l 4096) (h : n ≡ min (length bytes) (4096 - from)) where
    literals_at_place : (b : Bool) → ltb l 4096 ≡ b → splice t (22_592 + from) (take n bytes) ≡ with_literals t l bytes
    literals_at_place true c =
        let less = ltb-true l 4096 c in
        let at : from ≡ l = omega (arith, e, less) in
        ap (λ (f : ℕ). splice t (22_592 + f) (take n bytes)) at
        ∙ literals_fit n (omega (arith, h)) (omega (arith, h, at, less)) (λ more. omega (arith, h, at, more))
    literals_at_place false c =
        let behind = ltb-false l 4096 c in
        let at : from ≡ 4096 = omega (arith, e, behind) in
        let none : n ≡ 0 = omega (arith, h, at) in
        ap₂ (λ (f m : ℕ). splice t (22_592 + f) (take m bytes)) at none ∙ literals_full behind

    pub literals_put : (k : ℕ) → k ≡ n → {v : List ℕ} → v ≡ take n bytes → put_mid (22_592 + from) k t v ≡ with_literals t l bytes
    unfolding splice
    literals_put k same is =
        let at = 22_592 + from in
        let v = take n bytes in
        let size : length v ≡ n = length-take-le n bytes (omega (arith, h)) in
        ap (put_mid at k t) is
        ∙ ap (λ (w : List ℕ). take at t ++ (v ++ w)) (drop-drop k at t ∙ ap (λ (m : ℕ). drop (at + m) t) (same ∙ sym size))
        ∙ literals_at_place (ltb l 4096) refl

-- a name behind the others
pub noted : (m : Mentioned) (c : Cursor) (key : ℕ) (tag : Tag) → c.names < length m.keys → c.names < length m.tags
    → NameNoted m c key tag (record { keys = set m.keys c.names key; tags = set m.tags c.names tag }) (cursor_behind_name c)
noted m c key tag h g =
    record { keyed = set-splice m.keys c.names key h; tagged = set-splice m.tags c.names tag g; goes = refl }
