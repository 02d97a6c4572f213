-- Laws of the store's cells: how they keep their rules, how a store is started, and that the writes of a string are its cell.
-- Assumes nothing.
use Rattle.std.specs.Prelude.{false, ◌&&◌, ◌≡◌, refl, eqb, get_or}
use mathlib.Core.List.{List, ◌++◌, append_assoc}
use Rattle.std.proofs.Math.Path.{sym, ap, ap₂}
use Rattle.std.proofs.Common.{◌∙◌, zero-add, length-append, drop_at, drop-drop, take-add, take-take, le-leb, le-ltb, lt-ltb}
use Prim.Native.Nat.{ℕ, zero, suc, ◌+◌, ◌*◌, ◌-◌, ◌≤◌, ◌<◌}
use native.Mathlib.Omega.{arith}
use Rattle.std.proofs.Math.ListN.{length, take, drop, replicate, length-drop}
use Rattle.std.proofs.lemmas.List.{length-replicate, replicate-append-replicate}
use Rattle.std.proofs.Math.Seq.{length-take-le}
use Rattle.std.proofs.lemmas.Bool.{lt-leb}
use Rattle.std.specs.List.{list_all, range_with_len}
use Rattle.base.specs.ListLaws.{length_stretch}
use Rattle.base.specs.Lists.{all}
use Rattle.encoding.specs.BufferLaws.{StoreGood, good_cell, good_short, store_with, cell-image, number_two, string-at, string-count, string_part}
use Rattle.encoding.specs.BufferLaws.{with-splice, zeros-behind}
use Rattle.encoding.specs.Buffers.{cell_image, cells_keep, cell_keeps, cell_size, store_keeps, store_size}
use Rattle.calls.specs.Calls.{start_call}
use Rattle.encoding.specs.Numerals.{in_bytes, numeral_at}
use Rattle.encoding.specs.Splices.{splice, splice-before, splice-behind, splice-same-before, splice-same-behind, splice_nil, splice_self}
use Rattle.store.specs.Clauses.{string_of, string_replaced, ended_anew, PuttingPiece, Replacing, Started}
use Rattle.machine.specs.State.{most_strings}
use Rattle.values.specs.Conversion.{longest_string}

-- a cell of bytes, by its length and by what lies behind its string
pub cell_long : (store : List ℕ) (at : ℕ) → get_or store at 0 < 256 → 1024 < numeral_at 2 store at → cell_keeps store at ≡ false
unfolding cell_keeps longest_string
cell_long store at low h = rw (lt-ltb _ _ low, lt-leb _ _ h)

pub cell-zeros : (store : List ℕ) (at n : ℕ) → get_or store at 0 < 256 → n ≡ numeral_at 2 store at → n ≤ 1024
    → all (λ b. eqb b 0) (take (at + 1026 - (at + (2 + n))) (drop (at + (2 + n)) store)) ≡ cell_keeps store at
unfolding cell_keeps longest_string
cell-zeros store at n low e h =
    let m = numeral_at 2 store at in
    let size : at + 1026 - (at + (2 + n)) ≡ 1024 - n = omega arith in
    ap (λ (j : ℕ). all (λ b. eqb b 0) (take j (drop (at + (2 + n)) store))) size
    ∙ ap (λ (j : ℕ). all (λ b. eqb b 0) (take (1024 - j) (drop (at + (2 + j)) store))) e
    ∙ rw (lt-ltb _ _ low, le-leb m 1024 (omega arith)) refl

-- the cells of a store, one by one
pub cells-listed : (store : List ℕ) (place n : ℕ)
    → list_all (λ p. cell_keeps store (1026 * p)) (range_with_len place n) ≡ cells_keep store (1026 * place) n
unfolding cells_keep cell_size
cells-listed store place zero = refl
cells-listed store place (suc n) =
    let next : 1026 * (place + 1) ≡ 1026 * place + 1026 = omega arith in
    ap (λ t. cell_keeps store (1026 * place) && t) (cells-listed store (place + 1) n ∙ ap (λ (at : ℕ). cells_keep store at n) next)

pub keeps_small : (store : List ℕ) → length store < store_size → store_keeps store ≡ false
unfolding store_keeps
keeps_small store h = rw (lt-leb _ _ h)

pub keeps_cells : (store : List ℕ) → store_size ≤ length store → store_keeps store ≡ cells_keep store 0 32
unfolding store_keeps most_strings
keeps_cells store h = rw (le-leb _ _ h)

-- a store started
pub zeros-front : (d : List ℕ) (n : ℕ) → splice d 0 (replicate n 0) ≡ replicate n 0 ++ drop n d
unfolding splice
zeros-front d n = ap (λ (i : ℕ). replicate n 0 ++ drop i d) (zero-add (length (replicate n 0)) ∙ length-replicate n 0)

pub start_small : (store : List ℕ) → length store < store_size → Started store 14 store
unfolding start_call
start_small store h = record { number_right_lem = rw (lt-ltb _ _ h); left_right = rw (lt-ltb _ _ h) }

pub start_large : (store left : List ℕ) → store_size ≤ length store → left ≡ replicate store_size 0 ++ drop store_size store
    → Started store 0 left
unfolding start_call
start_large store left h e = record { number_right_lem = rw (le-ltb _ _ h); left_right = rw (le-ltb _ _ h) e }

-- the list behind a part of the first n elements
pub drop-take : (x : List ℕ) (i n : ℕ) → i ≤ n → n ≤ length x → drop i (take n x) ≡ take (n - i) (drop i x)
drop-take x i n h k =
    let parts : n ≡ i + (n - i) = omega arith in
    ap (λ (j : ℕ). drop i (take j x)) parts
    ∙ ap (drop i) (take-add i (n - i) x)
    ∙ drop_at (take i x) (take (n - i) (drop i x)) i (length-take-le i x (omega arith))

-- the bytes behind a stretch of the string that starts at a place moved, and v over the stretch
unfoldable pub moved_behind : List ℕ → (start from to old : ℕ) → List ℕ → List ℕ
moved_behind store start from to old v =
    splice (splice store (start + from + length v) (take (old - to) (drop (start + to) store))) (start + from) v

-- a string's cell, written
module _ (store : List ℕ) (g : StoreGood store) (s : ℕ) (h : s < 32) where
  string_room : length (string_of store s) ≤ length (drop (1026 * s + 2) store)
  string_room = omega (arith, good_short store g s, length-drop (1026 * s + 2) store, g.size)

  -- v over the string, and the string ended anew
  pub written : (v : List ℕ) → length v ≤ 1024
      → ended_anew (splice store (1026 * s + 2) v) s (length (string_of store s)) (length v) ≡ store_with store s v
  unfolding cell_image ended_anew in_bytes longest_string
  written v k =
      let a = 1026 * s in
      let n = length v in
      let o = length (string_of store s) in
      let zs : List ℕ = replicate (o - n) 0 in
      let m = n + (o - n) in
      let rest : List ℕ = replicate (1024 - m) 0 in
      let cell = good_cell store g s h in
      let count : numeral_at 2 store a ≡ o = number_two store a ∙ sym (string-count store g s h) in
      let o-fits : o ≤ 1024 = good_short store g s in
      let room : a + 1026 ≤ length store = omega (arith, g.size) in
      let zeros : take (1024 - m) (drop (a + (2 + m)) store) ≡ rest =
      zeros-behind store a cell room m (omega arith) (omega arith) in
      let head = in_bytes 2 n ++ (v ++ zs) in
      let size : length head ≡ 2 + m = simp (length-append, length-replicate) (omega arith) in
      let there : take (length rest) (drop (a + length head) store) ≡ rest =
      ap₂ (λ (i j : ℕ). take i (drop (a + j) store)) (length-replicate (1024 - m) 0) size ∙ zeros in
      let all-zeros : (o - n) + (1024 - m) ≡ 1024 - n = omega arith in
      let image : head ++ rest ≡ cell_image v =
      ap (λ (l : List ℕ). in_bytes 2 n ++ l)
      (append_assoc v zs rest
      ∙ ap (λ (l : List ℕ). v ++ l) (replicate-append-replicate (o - n) (1024 - m) 0 ∙ ap (λ (j : ℕ). replicate j 0) all-zeros)) in
      ap (λ (l : List ℕ). splice l a (in_bytes 2 n)) (splice-behind store (a + 2) v zs (omega arith))
      ∙ splice-before store a (v ++ zs) (in_bytes 2 n) (omega arith)
      ∙ sym (splice-same-behind store a head rest there)
      ∙ ap (splice store a) image
      ∙ sym (with-splice store g s v k h)

  -- the two bytes of its length
  length_there : take 2 (drop (1026 * s) store) ≡ in_bytes 2 (length (string_of store s))
  unfolding cell_image in_bytes
  length_there =
      let a = 1026 * s in
      sym (take-take 2 1026 (drop a store) (omega arith))
      ∙ ap (take 2) (sym (cell-image store a (good_cell store g s h) (omega (arith, g.size))) ∙ ap cell_image (sym (string-at store s h)))

  -- v over a string that is as long: it need not be ended anew, since its length stands there and nothing comes free
  written_over : (v : List ℕ) → length v ≡ length (string_of store s) → splice store (1026 * s + 2) v ≡ store_with store s v
  unfolding ended_anew in_bytes
  written_over v e =
      let a = 1026 * s in
      let o = length (string_of store s) in
      let o-fits : o ≤ 1024 = good_short store g s in
      let none : o - length v ≡ 0 = omega (arith, e) in
      let left = splice store (a + 2) v in
      let same : splice left a (in_bytes 2 o) ≡ left =
      splice-before store a v (in_bytes 2 o) (omega (arith, g.size)) ∙ splice-same-before store a v (in_bytes 2 o) length_there in
      sym same
      ∙ ap (λ (n : ℕ). splice left a (in_bytes 2 n)) (sym e)
      ∙ ap (λ (l : List ℕ). splice l a (in_bytes 2 (length v)))
      (sym (ap (λ (n : ℕ). splice left (a + 2 + length v) (replicate n 0)) none ∙ splice_nil left (a + 2 + length v)))
      ∙ written v (omega arith)

  -- a part of the string is that part of the store
  pub part_of : (i : ℕ) → i ≤ length (string_of store s)
      → drop i (string_of store s) ≡ take (length (string_of store s) - i) (drop (1026 * s + 2 + i) store)
  part_of i k =
      let o = length (string_of store s) in
      ap (drop i) (string_part store g s h)
      ∙ drop-take (drop (1026 * s + 2) store) i o k string_room
      ∙ ap (take (o - i)) (drop-drop i (1026 * s + 2) store)

  -- what is moved and written is the new string
  moved : (from to : ℕ) (v : List ℕ) → Replacing store s from to v
      → moved_behind store (1026 * s + 2) from to (length (string_of store s)) v
      ≡ splice store (1026 * s + 2) (string_replaced (string_of store s) from to v)
  unfolding moved_behind
  moved from to v r =
      let start = 1026 * s + 2 in
      let old = string_of store s in
      let o-fits : length old ≤ 1024 = good_short store g s in
      let room : start + 1024 ≤ length store = omega (arith, g.size) in
      let front : length (take from old) ≡ from = length-take-le from old (omega (arith, r.order, r.within)) in
      let there : take (length (take from old)) (drop start store) ≡ take from old =
      ap (λ (n : ℕ). take n (drop start store)) front
      ∙ sym (take-take from (length old) (drop start store) (omega (arith, r.order, r.within)))
      ∙ ap (take from) (sym (string_part store g s h)) in
      ap (λ (l : List ℕ). splice (splice store (start + from + length v) l) (start + from) v) (sym (part_of to r.within))
      ∙ splice-before store (start + from) (drop to old) v (omega (arith, r.fits))
      ∙ ap (λ (n : ℕ). splice store (start + n) (v ++ drop to old)) (sym front)
      ∙ sym (splice-same-before store start (v ++ drop to old) (take from old) there)

  -- how long it is
  size_replaced : (from to : ℕ) (v : List ℕ) → Replacing store s from to v
      → length (string_replaced (string_of store s) from to v) ≡ from + length v + (length (string_of store s) - to)
  size_replaced from to v r =
      let old = string_of store s in
      simp (length-append, length-drop, length-take-le from old (omega (arith, r.order, r.within))) (omega arith)

  -- the same with the string ended anew
  pub rewritten : (from to : ℕ) (v : List ℕ) → Replacing store s from to v
      → ended_anew (moved_behind store (1026 * s + 2) from to (length (string_of store s)) v) s (length (string_of store s))
      (from + length v + (length (string_of store s) - to))
      ≡ store_with store s (string_replaced (string_of store s) from to v)
  unfolding ended_anew moved_behind
  rewritten from to v r =
      let old = string_of store s in
      let new = string_replaced old from to v in
      let size = size_replaced from to v r in
      ap (λ (l : List ℕ). ended_anew l s (length old) (from + length v + (length old - to))) (moved from to v r)
      ∙ ap (λ (n : ℕ). ended_anew (splice store (1026 * s + 2) new) s (length old) n) (sym size)
      ∙ written new (omega (arith, size, r.fits))

  -- and where the string keeps its length, nothing moves, and only v is written
  pub overwritten : (from to : ℕ) (v : List ℕ) → Replacing store s from to v
      → from + length v + (length (string_of store s) - to) ≡ length (string_of store s)
      → splice store (1026 * s + 2 + from) v ≡ store_with store s (string_replaced (string_of store s) from to v)
  unfolding moved_behind
  overwritten from to v r same =
      let start = 1026 * s + 2 in
      let old = string_of store s in
      let o-fits : length old ≤ 1024 = good_short store g s in
      let behind : start + from + length v ≡ start + to = omega (arith, r.order, r.within, same) in
      sym (ap (λ (l : List ℕ). splice l (start + from) v)
      (ap (λ (i : ℕ). splice store i (take (length old - to) (drop (start + to) store))) behind
      ∙ splice_self store (start + to) (length old - to) (omega (arith, g.size, r.within))))
      ∙ moved from to v r
      ∙ written_over (string_replaced old from to v) (size_replaced from to v r ∙ same)

-- a piece of a string over a string, and that one ended anew
module _ (store : List ℕ) (s of from n : ℕ) (p : PuttingPiece store s of from n) where
  pub piece_fits : from + n ≤ 1024
  piece_fits = omega (arith, p.within, good_short store p.good of)

  pub piece_written : ended_anew (splice store (1026 * s + 2) (take n (drop (1026 * of + 2 + from) store))) s (length (string_of store s)) n
      ≡ store_with store s (take n (drop from (string_of store of)))
  piece_written =
      let start = 1026 * s + 2 in
      let piece = take n (drop (1026 * of + 2 + from) store) in
      let inside : 1026 * of + 2 + from + n ≤ length store = omega (arith, piece_fits, p.source, p.good.size) in
      let size : length piece ≡ n = length_stretch store (1026 * of + 2 + from) n inside in
      let part : take n (drop from (string_of store of)) ≡ piece =
      ap (take n) (part_of store p.good of p.source from (omega (arith, p.within)))
      ∙ take-take n (length (string_of store of) - from) (drop (1026 * of + 2 + from) store) (omega (arith, p.within)) in
      ap (λ (k : ℕ). ended_anew (splice store start piece) s (length (string_of store s)) k) (sym size)
      ∙ written store p.good s p.known piece (omega (arith, size, piece_fits))
      ∙ ap (store_with store s) (sym part)
