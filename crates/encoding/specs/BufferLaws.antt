-- What Buffers says of a store: a good store is the image of its strings, the image of strings holds them, and a string set is one
-- cell spliced in. Assumes nothing.
use Rattle.std.proofs.Math.Bool.{true, and-eq-true_iff}
use Rattle.std.specs.Prelude.{◌&&◌, ◌≡◌, refl, ℕ, zero, suc, ◌+◌, ◌*◌, ◌-◌, ◌/◌, ◌%◌, ◌≤◌, ◌<◌, leb, ltb, set}
use mathlib.Core.List.{List, [], ◌∷◌, ◌++◌, append_assoc}
use Rattle.std.proofs.Math.Path.{sym, ap, ap₂}
use Rattle.std.proofs.Common.{◌∙◌, add-zero, mod-eq_of_lt, not-suc-le-zero, zero-add, add-one, lit<, length-set, drop-cons, drop-drop, take-add, leb-true, ltb-true, le-leb, lt-ltb}
use Rattle.std.proofs.Math.Nat.{add-mul-div_left, add-mul-mod_self_left, div-eq_of_lt}
use native.Mathlib.Omega.{arith}
use Rattle.std.proofs.Math.Dec.{eqb}
use Rattle.std.proofs.Math.ListN.{length, take, drop, get_or, replicate, length-append, length-drop, take-append-drop}
use Rattle.std.proofs.lemmas.List.{length-replicate, replicate-append-replicate}
use Rattle.std.proofs.Math.Seq.{drop_at, length-take-le}
use Rattle.base.specs.ListLaws.{all-zeros, zeros_are, all_behind}
use Rattle.base.specs.Lists.{all, is_zero}
use Rattle.machine.specs.Bounds.{set_everywhere}
use Rattle.machine.specs.State.{most_strings}
use Rattle.values.specs.Conversion.{longest_string}
use Rattle.encoding.specs.Buffers.{
  cell_size,
  store_size,
  cell_image,
  store_image,
  stored_string,
  strings_from,
  strings_in,
  cell_keeps,
  cells_keep,
  store_keeps,
}
use Rattle.encoding.specs.NumeralLaws.{BytesStand, stands_front, stands_back, byte-read, bytes_read, number_read}
use Rattle.encoding.specs.Numerals.{in_bytes, numeral_at}
use Rattle.encoding.specs.Splices.{splice, append-splice, splice-append, splice_seam}

-- a store that a step may be given
pub record StoreGood (store : List ℕ) : Type 0 where
  pub size : store_size ≤ length store
  pub keeps : store_keeps store ≡ true

pub keeps_good : (store : List ℕ) → store_keeps store ≡ true → StoreGood store
unfolding store_keeps
keeps_good store e =
    record {
      size = leb-true _ _ ((and-eq-true_iff (leb store_size (length store)) (cells_keep store 0 most_strings)).0 e).0;
      keeps = e;
    }

-- strings that fit their cells
abbrev pub StringsShort : List (List ℕ) → Type 0
StringsShort vs = (i : ℕ) → length (get_or vs i []) ≤ 1024

-- what a cell that keeps its rules tells of its bytes
pub record CellTold (store : List ℕ) (at : ℕ) : Type 0 where
  pub low : get_or store at 0 < 256
  pub short : numeral_at 2 store at ≤ 1024
  pub zeros : all (λ b. eqb b 0) (take (1024 - numeral_at 2 store at) (drop (at + (2 + numeral_at 2 store at)) store)) ≡ true

pub cell_told : (store : List ℕ) (at : ℕ) → cell_keeps store at ≡ true → CellTold store at
unfolding cell_keeps longest_string
cell_told store at e =
    let n = numeral_at 2 store at in
    let z = all (λ b. eqb b 0) (take (1024 - n) (drop (at + (2 + n)) store)) in
    let h = (and-eq-true_iff (ltb (get_or store at 0) 256) (leb n 1024 && z)).0 e in
    let k = (and-eq-true_iff (leb n 1024) z).0 h.1 in
    record { low = ltb-true _ _ h.0; short = leb-true _ _ k.0; zeros = k.1 }

pub cell_keeps_lem : (store : List ℕ) (at : ℕ) → CellTold store at → cell_keeps store at ≡ true
unfolding cell_keeps longest_string
cell_keeps_lem store at c = rw (lt-ltb _ _ c.low, le-leb _ _ c.short, c.zeros)

-- the two bytes of a length
pub number_two : (store : List ℕ) (at : ℕ) → numeral_at 2 store at ≡ get_or store at 0 + 256 * get_or store (at + 1) 0
unfolding numeral_at
number_two store at = omega arith

length-bytes : (a b n : ℕ) → a < 256 → n ≤ 1024 → n ≡ a + 256 * b → in_bytes 2 n ≡ a ∷ b ∷ []
unfolding in_bytes
length-bytes a b n h k e =
    let p : n % 256 ≡ a = ap (λ (x : ℕ). x % 256) e ∙ add-mul-mod_self_left a 256 b ∙ mod-eq_of_lt h in
    let d : n / 256 ≡ b =
    ap (λ (x : ℕ). x / 256) e ∙ add-mul-div_left a b (lit< tt) ∙ ap (λ (x : ℕ). x + b) (div-eq_of_lt h) ∙ zero-add b in
    let q : n / 256 % 256 ≡ b = ap (λ (x : ℕ). x % 256) d ∙ mod-eq_of_lt (omega arith) in
    rw (p, q)

pub length-image : (v : List ℕ) → length v ≤ 1024 → length (cell_image v) ≡ 1026
unfolding cell_image in_bytes longest_string
length-image v h = simp (length-append, length-replicate) (omega arith)

-- a cell that keeps its rules is the image of its string
module _ (store : List ℕ) (at : ℕ) (c : CellTold store at) (fits : at + 1026 ≤ length store) where
  string-length : length (stored_string store at) ≡ numeral_at 2 store at
  unfolding stored_string
  string-length = length-take-le _ _ (simp length-drop (omega (arith, c.short)))

  pub zeros-behind : (m : ℕ) → numeral_at 2 store at ≤ m → m ≤ 1024
      → take (1024 - m) (drop (at + (2 + m)) store) ≡ replicate (1024 - m) 0
  zeros-behind m h k =
      let n = numeral_at 2 store at in
      let x = drop (at + (2 + n)) store in
      let parts : 1024 - n ≡ (m - n) + (1024 - m) = omega arith in
      let place : at + (2 + n) + (m - n) ≡ at + (2 + m) = omega arith in
      let cut : take (1024 - n) x ≡ take (m - n) x ++ take (1024 - m) (drop (at + (2 + m)) store) =
      ap (λ (j : ℕ). take j x) parts
      ∙ take-add (m - n) (1024 - m) x
      ∙ ap (λ (l : List ℕ). take (m - n) x ++ take (1024 - m) l) (drop-drop (m - n) (at + (2 + n)) store ∙ ap (λ (j : ℕ). drop j store) place) in
      let all-zero : all (λ b. eqb b 0) (take (1024 - m) (drop (at + (2 + m)) store)) ≡ true =
      all_behind is_zero (take (m - n) x) (take (1024 - m) (drop (at + (2 + m)) store)) (ap (all (λ b. eqb b 0)) (sym cut) ∙ c.zeros) in
      zeros_are _ all-zero
      ∙ ap (λ (j : ℕ). replicate j 0) (length-take-le (1024 - m) (drop (at + (2 + m)) store) (simp length-drop (omega arith)))

  cell-bytes : drop at store ≡ get_or store at 0 ∷ get_or store (at + 1) 0 ∷ drop (at + 2) store
  cell-bytes =
      let next : suc (at + 1) ≡ at + 2 = omega arith in
      drop-cons store at 0 (omega arith)
      ∙ ap (λ (l : List ℕ). get_or store at 0 ∷ l)
      (ap (λ (j : ℕ). drop j store) (sym (add-one at))
      ∙ drop-cons store (at + 1) 0 (omega arith)
      ∙ ap (λ (j : ℕ). get_or store (at + 1) 0 ∷ drop j store) next)

  pub cell-image : cell_image (stored_string store at) ≡ take 1026 (drop at store)
  unfolding cell_image longest_string stored_string
  cell-image =
      let n = numeral_at 2 store at in
      let r = drop (at + 2) store in
      let bytes : in_bytes 2 n ≡ get_or store at 0 ∷ get_or store (at + 1) 0 ∷ [] =
      length-bytes (get_or store at 0) (get_or store (at + 1) 0) n c.low c.short (number_two store at) in
      let place : at + (2 + n) ≡ at + 2 + n = omega arith in
      let zeros : replicate (1024 - n) 0 ≡ take (1024 - n) (drop n r) =
      sym (zeros-behind n (omega arith) c.short)
      ∙ ap (take (1024 - n)) (ap (λ (j : ℕ). drop j store) place ∙ sym (drop-drop n (at + 2) store)) in
      let parts : n + (1024 - n) ≡ 1024 = omega (arith, c.short) in
      let tail : take n r ++ replicate (1024 - n) 0 ≡ take 1024 r =
      ap (λ (l : List ℕ). take n r ++ l) zeros ∙ sym (take-add n (1024 - n) r) ∙ ap (λ (j : ℕ). take j r) parts in
      ap (λ (j : ℕ). in_bytes 2 j ++ (take n r ++ replicate (1024 - j) 0)) string-length
      ∙ ap₂ {C = List ℕ} ◌++◌ bytes tail
      ∙ ap (take 1026) (sym cell-bytes)

-- cells from a place on that keep their rules are the image of their strings
cells-image : (store : List ℕ) (at n : ℕ) → at + 1026 * n ≤ length store → cells_keep store at n ≡ true
    → store_image (strings_from store at n) ≡ take (1026 * n) (drop at store)
unfolding store_image strings_from cells_keep cell_size
cells-image store at zero fits e = refl
cells-image store at (suc n) fits e =
    let h = (and-eq-true_iff (cell_keeps store at) (cells_keep store (at + 1026) n)).0 e in
    let size : 1026 + 1026 * n ≡ 1026 * suc n = omega arith in
    ap₂ {C = List ℕ} ◌++◌ (cell-image store at (cell_told store at h.0) (omega arith))
    (cells-image store (at + 1026) n (omega arith) h.1 ∙ ap (take (1026 * n)) (sym (drop-drop 1026 at store)))
    ∙ sym (take-add 1026 (1026 * n) (drop at store))
    ∙ ap (λ (j : ℕ). take j (drop at store)) size

length-strings : (store : List ℕ) (at n : ℕ) → length (strings_from store at n) ≡ n
unfolding strings_from
length-strings store at zero = refl
length-strings store at (suc n) = ap suc (length-strings store (at + cell_size) n)

-- the string at a place
strings-at : (store : List ℕ) (at n i : ℕ) → i < n → get_or (strings_from store at n) i [] ≡ stored_string store (at + 1026 * i)
unfolding strings_from cell_size
strings-at store at zero i h = absurd (not-suc-le-zero h)
strings-at store at (suc n) zero h = ap (stored_string store) (sym (add-zero at))
strings-at store at (suc n) (suc i) h =
    let place : at + 1026 + 1026 * i ≡ at + 1026 * suc i = omega arith in
    strings-at store (at + 1026) n i (omega arith) ∙ ap (stored_string store) place

cell_at : (store : List ℕ) (at n i : ℕ) → i < n → cells_keep store at n ≡ true → cell_keeps store (at + 1026 * i) ≡ true
unfolding cells_keep cell_size
cell_at store at zero i h e = absurd (not-suc-le-zero h)
cell_at store at (suc n) zero h e =
    ap (cell_keeps store) (add-zero at) ∙ ((and-eq-true_iff (cell_keeps store at) (cells_keep store (at + 1026) n)).0 e).0
cell_at store at (suc n) (suc i) h e =
    let place : at + 1026 * suc i ≡ at + 1026 + 1026 * i = omega arith in
    ap (cell_keeps store) place
    ∙ cell_at store (at + 1026) n i (omega arith) ((and-eq-true_iff (cell_keeps store at) (cells_keep store (at + 1026) n)).0 e).1

-- the image of a string, where it stands in a store, is a cell that keeps its rules and holds the string
module _ (store : List ℕ) (at : ℕ) (v t : List ℕ) (short : length v ≤ 1024) (e : drop at store ≡ cell_image v ++ t) where
  abbrev zeros-after : List ℕ
  zeros-after = replicate (1024 - length v) 0

  image_stands : BytesStand store at (in_bytes 2 (length v) ++ (v ++ zeros-after))
  unfolding cell_image longest_string
  image_stands = record { behind = t; here = e }

  image_number : numeral_at 2 store at ≡ length v
  image_number = number_read 2 store at (length v) (omega arith) (stands_front store (in_bytes 2 (length v)) (v ++ zeros-after) image_stands)

  image-behind : BytesStand store (at + 2) (v ++ zeros-after)
  unfolding in_bytes
  image-behind = stands_back store (in_bytes 2 (length v)) (v ++ zeros-after) image_stands

  image-string : stored_string store at ≡ v
  unfolding stored_string
  image-string =
      ap (λ (n : ℕ). take n (drop (at + 2) store)) image_number
      ∙ bytes_read store (at + 2) v (stands_front store v zeros-after image-behind)

  image-cell : CellTold store at
  unfolding in_bytes
  image-cell =
      let low = byte-read store at (length v % 256) ((length v / 256 % 256) ∷ (v ++ zeros-after)) image_stands in
      let place : at + (2 + numeral_at 2 store at) ≡ at + 2 + length v = omega (arith, image_number) in
      let zeros : take (1024 - numeral_at 2 store at) (drop (at + (2 + numeral_at 2 store at)) store) ≡ zeros-after =
      ap₂ (λ (n j : ℕ). take (1024 - n) (drop j store)) image_number place
      ∙ ap (λ (n : ℕ). take n (drop (at + 2 + length v) store)) (sym (length-replicate (1024 - length v) 0))
      ∙ bytes_read store (at + 2 + length v) zeros-after (stands_back store v zeros-after image-behind) in
      record {
        low = omega (arith, low);
        short = omega (arith, image_number);
        zeros = ap (all (λ b. eqb b 0)) zeros ∙ all-zeros (1024 - length v);
      }

-- the image of strings, from a place of a store on, holds them
module _ (store rest : List ℕ) where
  image-held : (vs : List (List ℕ)) (at : ℕ) → StringsShort vs → drop at store ≡ store_image vs ++ rest
      → (strings_from store at (length vs) ≡ vs) × (cells_keep store at (length vs) ≡ true)
  unfolding store_image strings_from cells_keep cell_size
  image-held [] at s e = (refl, refl)
  image-held (v ∷ vs) at s e =
      let first : drop at store ≡ cell_image v ++ (store_image vs ++ rest) = e ∙ append_assoc (cell_image v) (store_image vs) rest in
      let next : drop (at + 1026) store ≡ store_image vs ++ rest =
      sym (drop-drop 1026 at store)
      ∙ ap (drop 1026) first
      ∙ drop_at (cell_image v) (store_image vs ++ rest) 1026 (length-image v (s 0)) in
      let more = image-held vs (at + 1026) (λ i. s (suc i)) next in
      let t = store_image vs ++ rest in (
        ap₂ {C = List (List ℕ)} ◌∷◌ (image-string store at v t (s 0) first) more.0,
        (and-eq-true_iff (cell_keeps store at) (cells_keep store (at + 1026) (length vs))).1
            (cell_keeps_lem store at (image-cell store at v t (s 0) first), more.1),
      )

strings_short : (store : List ℕ) (at n : ℕ) → at + 1026 * n ≤ length store → cells_keep store at n ≡ true → StringsShort (strings_from store at n)
unfolding strings_from cells_keep cell_size
strings_short store at zero fits e i = omega arith
strings_short store at (suc n) fits e zero =
    let c = cell_told store at ((and-eq-true_iff (cell_keeps store at) (cells_keep store (at + 1026) n)).0 e).0 in
    omega (arith, string-length store at c (omega arith), c.short)
strings_short store at (suc n) fits e (suc i) =
    strings_short store (at + 1026) n (omega arith) ((and-eq-true_iff (cell_keeps store at) (cells_keep store (at + 1026) n)).0 e).1 i

-- Of a good store: its cells keep their rules, its strings fit their cells, and it is the image of its strings.
module _ (store : List ℕ) (g : StoreGood store) where
  cells-keep : cells_keep store 0 32 ≡ true
  unfolding store_keeps most_strings
  cells-keep = ((and-eq-true_iff (leb store_size (length store)) (cells_keep store 0 32)).0 g.keeps).1

  pub good_cell : (s : ℕ) → s < 32 → CellTold store (1026 * s)
  good_cell s h =
      cell_told store (1026 * s)
      (ap (cell_keeps store) (sym (zero-add (1026 * s))) ∙ cell_at store 0 32 s h cells-keep)

  pub good_short : StringsShort (strings_in store)
  unfolding strings_in most_strings
  good_short = strings_short store 0 32 g.size cells-keep

  pub good_image : store_image (strings_in store) ++ drop store_size store ≡ store
  unfolding strings_in most_strings
  good_image =
      ap (λ (l : List ℕ). l ++ drop store_size store) (cells-image store 0 32 g.size cells-keep) ∙ take-append-drop store_size store

-- a store has 32 strings, and each is that of its cell
pub count-strings : (store : List ℕ) → length (strings_in store) ≡ 32
unfolding strings_in most_strings
count-strings store = length-strings store 0 32

pub string-at : (store : List ℕ) (s : ℕ) → s < 32 → get_or (strings_in store) s [] ≡ stored_string store (1026 * s)
unfolding strings_in most_strings
string-at store s h = strings-at store 0 32 s h ∙ ap (stored_string store) (zero-add (1026 * s))

length_images : (ws : List (List ℕ)) → StringsShort ws → length (store_image ws) ≡ 1026 * length ws
unfolding store_image
length_images [] s = refl
length_images (w ∷ ws) s =
    length-append (cell_image w) (store_image ws)
    ∙ ap₂ ◌+◌ (length-image w (s 0)) (length_images ws (λ i. s (suc i)))
    ∙ omega arith

-- the image of 32 strings that fit their cells is a good store that holds them
module _ (vs : List (List ℕ)) (rest : List ℕ) (All-there : length vs ≡ 32) (short : StringsShort vs) where
  pub image-strings : strings_in (store_image vs ++ rest) ≡ vs
  unfolding strings_in most_strings
  image-strings =
      ap (strings_from (store_image vs ++ rest) 0) (sym All-there) ∙ (image-held (store_image vs ++ rest) rest vs 0 short refl).0

  pub image_good : StoreGood (store_image vs ++ rest)
  unfolding store_keeps most_strings
  image_good =
      let size : store_size ≤ length (store_image vs ++ rest) =
      omega (arith, length-append (store_image vs) rest, length_images vs short) in
      let keep : cells_keep (store_image vs ++ rest) 0 32 ≡ true =
      ap (cells_keep (store_image vs ++ rest) 0) (sym All-there) ∙ (image-held (store_image vs ++ rest) rest vs 0 short refl).1 in
      record {
        size = size;
        keeps =
            (and-eq-true_iff (leb store_size (length (store_image vs ++ rest))) (cells_keep (store_image vs ++ rest) 0 32)).1
            (le-leb _ _ size, keep);
      }

-- the image with one string set is the image with one cell spliced in
image-set : (vs : List (List ℕ)) (i : ℕ) (v : List ℕ) → i < length vs → StringsShort vs → length v ≤ 1024
    → store_image (set vs i v) ≡ splice (store_image vs) (1026 * i) (cell_image v)
unfolding store_image
image-set [] i v h s k = absurd (not-suc-le-zero h)
image-set (w ∷ vs) zero v h s k =
    sym (splice_seam [] (cell_image w) (store_image vs) (cell_image v) 0 refl (length-image w (s 0) ∙ sym (length-image v k)))
image-set (w ∷ vs) (suc i) v h s k =
    let place : length (cell_image w) + 1026 * i ≡ 1026 * suc i = omega (arith, length-image w (s 0)) in
    ap (λ (l : List ℕ). cell_image w ++ l) (image-set vs i v (omega arith) (λ j. s (suc j)) k)
    ∙ sym (append-splice (cell_image w) (store_image vs) (1026 * i) (cell_image v))
    ∙ ap (λ (j : ℕ). splice (cell_image w ++ store_image vs) j (cell_image v)) place

short_set : (vs : List (List ℕ)) (i : ℕ) (v : List ℕ) → StringsShort vs → length v ≤ 1024 → StringsShort (set vs i v)
short_set vs i v s k = set_everywhere (λ w. length w ≤ 1024) vs i v [] k s

-- the store with a string set
unfoldable pub store_with : List ℕ → ℕ → List ℕ → List ℕ
store_with store s v = store_image (set (strings_in store) s v) ++ drop store_size store

-- It is the store with one cell spliced in, and a good store that holds the strings with that one set.
module _ (store : List ℕ) (g : StoreGood store) (s : ℕ) (v : List ℕ) (k : length v ≤ 1024) where
  pub with-splice : s < 32 → store_with store s v ≡ splice store (1026 * s) (cell_image v)
  unfolding store_with
  with-splice h =
      let size : 1026 * s + length (cell_image v) ≤ length (store_image (strings_in store)) =
      omega (arith, length-image v k, length_images (strings_in store) (good_short store g), count-strings store) in
      ap (λ (l : List ℕ). l ++ drop store_size store)
      (image-set (strings_in store) s v (omega (arith, count-strings store)) (good_short store g) k)
      ∙ sym (splice-append (store_image (strings_in store)) (drop store_size store) (1026 * s) (cell_image v) size)
      ∙ ap (λ (l : List ℕ). splice l (1026 * s) (cell_image v)) (good_image store g)

  all_set : length (set (strings_in store) s v) ≡ 32
  all_set = length-set (strings_in store) s v ∙ count-strings store

  pub with-strings : strings_in (store_with store s v) ≡ set (strings_in store) s v
  unfolding store_with
  with-strings =
      image-strings (set (strings_in store) s v) (drop store_size store) all_set (short_set (strings_in store) s v (good_short store g) k)

  pub with_good : StoreGood (store_with store s v)
  unfolding store_with
  with_good =
      image_good (set (strings_in store) s v) (drop store_size store) all_set (short_set (strings_in store) s v (good_short store g) k)

-- where the string of a good store lies, and how long it is
module _ (store : List ℕ) (g : StoreGood store) (s : ℕ) (h : s < 32) where
  pub string-count : length (get_or (strings_in store) s []) ≡ get_or store (1026 * s) 0 + 256 * get_or store (1026 * s + 1) 0
  string-count =
      ap length (string-at store s h)
      ∙ string-length store (1026 * s) (good_cell store g s h) (omega (arith, g.size))
      ∙ number_two store (1026 * s)

  pub string_part : get_or (strings_in store) s [] ≡ take (length (get_or (strings_in store) s [])) (drop (1026 * s + 2) store)
  unfolding stored_string
  string_part =
      string-at store s h
      ∙ ap (λ (n : ℕ). take n (drop (1026 * s + 2) store)) (sym (string-count ∙ sym (number_two store (1026 * s))))

-- zeros are the image of null strings
pub fresh-image : (n : ℕ) → store_image (replicate n []) ≡ replicate (1026 * n) 0
unfolding store_image cell_image in_bytes longest_string
fresh-image zero = refl
fresh-image (suc n) =
    let size : 1026 + 1026 * n ≡ 1026 * suc n = omega arith in
    ap (λ (l : List ℕ). replicate 1026 0 ++ l) (fresh-image n)
    ∙ replicate-append-replicate 1026 (1026 * n) 0
    ∙ ap (λ (j : ℕ). replicate j 0) size
