-- Laws of a scan's fillers: made null one by one, and named piece by piece. Assumes nothing.
use Rattle.std.specs.Prelude.{Bool, ◌||◌, ◌≡◌, ℕ, ◌+◌, ◌*◌, ◌-◌, ◌≤◌, ◌<◌, ltb, ℤ, set}
use Rattle.std.proofs.Math.Bool.{true, false, cond}
use mathlib.Core.List.{List, [], ◌∷◌, ◌++◌}
use Rattle.std.proofs.Math.Option.{none, some}
use Rattle.std.proofs.Math.Path.{refl, sym, ap, ap₂, subst}
use Rattle.std.proofs.Common.{◌∙◌, drop_of_length-le, ext_get_or, get_or-set_other, get_or-set_same, eqb-true, ltb-false, ltb-true, ne_eqb}
use native.Mathlib.Omega.{arith}
use Rattle.std.proofs.Math.Dec.{eqb}
use Rattle.std.proofs.Math.ListN.{length, take, drop, get_or, length-drop, length-take}
use Rattle.std.proofs.lemmas.List.{get_or-take}
use Rattle.std.proofs.Math.Seq.{drop-drop, set_out}
use Rattle.std.proofs.lemmas.Bool.{eqb-false}
use Rattle.base.specs.Choice.{test_cases}
use Rattle.base.specs.ListLaws.{drop-next, get_or_stretch, length_stretch, stretch_within}
use Rattle.base.specs.Lists.{total}
use Rattle.encoding.specs.BufferLaws.{StoreGood, good_image, good_short, store_with, count-strings, with-strings}
use Rattle.encoding.specs.Buffers.{store_image, store_size, strings_in}
use Rattle.encoding.specs.ReadingLaws.{patterns_more}
use Rattle.encoding.specs.Table.{elements_at}
use Rattle.encoding.specs.TableReading.{cell_at, read_pattern, pattern_of_cell}
use Rattle.store.specs.Clauses.{string_of}
use Rattle.syntax.specs.Program.{PatternElement, value, free_filler, fixed_filler}
use Rattle.machine.specs.Scanning.{Valued, named, naming, without_fillers}
use Rattle.machine.specs.State.{with_string}
use Rattle.decoder.specs.Meaning.{patterns_meaning}
use Rattle.decoder.specs.declared.Stretch.{Stretch}
use Rattle.effects.specs.Fillers.{filler_of, named_string, nobody, renamed, lengths_in, Nameable, PlacesNamed, PiecesNamed, Nulled, Patterned, Copied, Copying, is_filler}
use Rattle.effects.specs.Laws.{left_is, stays_same, stays_with}
use Rattle.effects.specs.Leaving.{memory_of, StoreStays}

-- a store left of a store left
pub stays_on : {store middle left : List ℕ} → StoreStays store middle → StoreStays middle left → StoreStays store left
stays_on f g = record { good = g.good; size = g.size ∙ f.size; rest = g.rest ∙ f.rest }

module _ (store : List ℕ) (g : StoreGood store) (s : ℕ) (v : List ℕ) (k : length v ≤ 1024) where
  -- the store with a string set, if the place is one
  pub stays_renamed : StoreStays store (renamed store s v)
  unfolding renamed
  stays_renamed =
      test_cases (λ x. StoreStays store (cond x (store_with store s v) store)) (ltb s 32)
      (λ e. stays_with store g s (ltb-true s 32 e) v k)
      (λ _. stays_same store g)

  -- is the memory with the string named
  pub named-renamed : (numbers : List ℤ) → named (named_string s) v (memory_of store numbers) ≡ memory_of (renamed store s v) numbers
  unfolding named named_string renamed with_string
  named-renamed numbers =
      test_cases (λ x. named (cond x (some s) none) v (memory_of store numbers) ≡ memory_of (cond x (store_with store s v) store) numbers)
      (ltb s 32)
      (λ _. ap (λ (ss : List (List ℕ)). record { strings = ss; numbers = numbers }) (sym (with-strings store g s v k)))
      (λ _. refl)

-- a string made null is one named by no bytes
null_named : (store : List ℕ) (numbers : List ℤ) (s : ℕ)
    → with_string (memory_of store numbers) s [] ≡ named (named_string s) [] (memory_of store numbers)
unfolding named named_string with_string
null_named store numbers s =
    test_cases (λ x. with_string (memory_of store numbers) s [] ≡ named (cond x (some s) none) [] (memory_of store numbers)) (ltb s 32)
    (λ _. refl)
    (λ e.
    let out : length (strings_in store) ≤ s = omega (arith, count-strings store, ltb-false s 32 e) in
    ap (λ (ss : List (List ℕ)). record { strings = ss; numbers = numbers }) (set_out (strings_in store) s [] out))

-- the first element of a pattern
filler_null : (store : List ℕ) (numbers : List ℤ) (x : PatternElement) (xs : List PatternElement)
    → without_fillers (x ∷ xs) (memory_of store numbers) ≡ without_fillers xs (named (named_string (filler_of x)) [] (memory_of store numbers))
unfolding without_fillers named named_string
filler_null store numbers (value x) xs = refl
filler_null store numbers (free_filler s) xs = ap (without_fillers xs) (null_named store numbers s)
filler_null store numbers (fixed_filler s n) xs = ap (without_fillers xs) (null_named store numbers s)

-- the elements of a pattern from a place on are left whose fillers are to be made null
pub record Nulls (table : List ℕ) (s : Stretch) (store : List ℕ) (at : ℕ) (now : List ℕ) : Type 0 where
  pub stays : StoreStays store now
  pub work : (numbers : List ℤ) → without_fillers (read_pattern table s.from s.count) (memory_of store numbers)
      ≡ without_fillers (read_pattern table at (s.from + s.count - at)) (memory_of now numbers)

pub nulls_none : {table : List ℕ} {s : Stretch} {store : List ℕ} → Patterned table store s → Nulls table s store s.from store
nulls_none {table} {s} {store} p =
    let all : s.count ≡ s.from + s.count - s.from = omega arith in
    record {
      stays = stays_same store p.good;
      work = λ numbers. ap (λ (n : ℕ). without_fillers (read_pattern table s.from n) (memory_of store numbers)) all;
    }

module _ {table : List ℕ} {s : Stretch} {store : List ℕ} {at : ℕ} {now : List ℕ} (p : Nulls table s store at now) where
  pub nulls_more : at < s.from + s.count → {x : ℕ} → x ≡ filler_of (pattern_of_cell table (cell_at table (elements_at + 8 * at)))
      → {after : List ℕ} → after ≡ renamed now x [] → Nulls table s store (at + 1) after
  nulls_more h {x} e is =
      let cell = pattern_of_cell table (cell_at table (elements_at + 8 * at)) in
      let left = s.from + s.count - at in
      let rest = read_pattern table (at + 1) (s.from + s.count - (at + 1)) in
      let fewer : left - 1 ≡ s.from + s.count - (at + 1) = omega arith in
      record {
        stays = stays_on p.stays (subst (StoreStays now) (sym is) (stays_renamed now p.stays.good x [] (omega arith)));
        work =
            λ numbers.
            p.work numbers
            ∙ ap (λ (xs : List PatternElement). without_fillers xs (memory_of now numbers)) (patterns_more table at left (omega arith))
            ∙ ap (λ (n : ℕ). without_fillers (cell ∷ read_pattern table (at + 1) n) (memory_of now numbers)) fewer
            ∙ filler_null now numbers cell rest
            ∙ ap (λ (y : ℕ). without_fillers rest (named (named_string y) [] (memory_of now numbers))) (sym e)
            ∙ ap (without_fillers rest)
            (named-renamed now p.stays.good x [] (omega arith) numbers ∙ ap (λ (l : List ℕ). memory_of l numbers) (sym is));
      }

  pub nulls_all : s.from + s.count ≤ at → Nulled table s store now
  unfolding read_pattern without_fillers
  nulls_all h =
      let none : s.from + s.count - at ≡ 0 = omega arith in
      record {
        stays = p.stays;
        work =
            λ numbers.
            p.work numbers ∙ ap (λ (n : ℕ). without_fillers (read_pattern table at n) (memory_of now numbers)) none;
      }

-- the next of a split's lengths
pub next-length : (answer : List ℕ) (count i : ℕ) → length answer ≡ 24 → count ≤ 20 → i < count
    → drop i (lengths_in answer count) ≡ get_or answer (4 + i) 0 ∷ drop (i + 1) (lengths_in answer count)
next-length answer count i size few h =
    let ls = lengths_in answer count in
    let long : length ls ≡ count = length_stretch answer 4 count (omega arith) in
    drop-next ls i 0 (omega arith) ∙ ap (λ (l : ℕ). l ∷ drop (i + 1) ls) (get_or_stretch answer 4 count i h)

-- what a list has next at a place
next_item : (xs : List ℕ) (k : ℕ) {x : ℕ} {rest : List ℕ} → drop k xs ≡ x ∷ rest → (k < length xs) × (x ≡ get_or xs k 0) × (rest ≡ drop (k + 1) xs)
next_item xs k e =
    let some : k < length xs = omega (arith, ap length e, length-drop k xs) in
    let both = sym e ∙ drop-next xs k 0 some in
    (some, ap (λ (l : List ℕ). get_or l 0 0) both, ap (drop 1) both)

-- the next of the places and lengths of so many pieces, with those behind it
pub record NextPiece (names answer : List ℕ) (count k name n : ℕ) (places lengths : List ℕ) : Type 0 where
  pub below : k < count
  pub name_is : name ≡ get_or names k 0
  pub length_is : n ≡ get_or answer (4 + k) 0
  pub places_are : places ≡ drop (k + 1) (take count names)
  pub lengths_are : lengths ≡ drop (k + 1) (lengths_in answer 20)

pub next_piece : (names answer : List ℕ) (count k : ℕ) {name n : ℕ} {places lengths : List ℕ} → drop k (take count names) ≡ name ∷ places
    → drop k (lengths_in answer 20) ≡ n ∷ lengths → NextPiece names answer count k name n places lengths
next_piece names answer count k p q =
    let place = next_item (take count names) k p in
    let size = next_item (lengths_in answer 20) k q in
    let below : k < count = omega (arith, place.0, length-take count names) in
    record {
      below = below;
      name_is = place.1 ∙ get_or-take count names k 0 below;
      length_is = size.1 ∙ get_or_stretch answer 4 20 k (omega (arith, size.0, length-take 20 (drop 4 answer)));
      places_are = place.2;
      lengths_are = size.2;
    }

-- the pieces from i on are to be named, the first of them at a place of the reference
pub record Namings (store reference names answer : List ℕ) (count at i : ℕ) (now : List ℕ) : Type 0 where
  pub stays : StoreStays store now
  pub most : i ≤ count
  pub inside : at + total (λ l. l) (drop i (lengths_in answer count)) ≤ length reference
  pub work : (vs : List Valued) (numbers : List ℤ) → length vs ≡ count → PlacesNamed names vs
      → naming vs (drop (get_or answer 1 0) reference) (lengths_in answer count) (memory_of store numbers)
      ≡ naming (drop i vs) (drop at reference) (drop i (lengths_in answer count)) (memory_of now numbers)

pub namings_none : {store reference names answer : List ℕ} {count at : ℕ} → Nameable store reference names answer count
    → at ≡ get_or answer 1 0 → Namings store reference names answer count at 0 store
namings_none {store} {reference} {answer = answer} {count} p e =
    record {
      stays = stays_same store p.good;
      most = omega arith;
      inside = subst (λ (j : ℕ). j + total (λ l. l) (lengths_in answer count) ≤ length reference) (sym e) p.pieces;
      work =
          λ vs numbers _ _.
          ap (λ (j : ℕ). naming vs (drop j reference) (lengths_in answer count) (memory_of store numbers)) (sym e);
    }

module _ {store reference names answer : List ℕ} {count at i : ℕ} {now : List ℕ} (size : length answer ≡ 24)
    (q : Nameable store reference names answer count) (p : Namings store reference names answer count at i now) where
  -- the next piece
  pub next_inside : i < count → at + (get_or answer (4 + i) 0 + total (λ l. l) (drop (i + 1) (lengths_in answer count))) ≤ length reference
  unfolding total
  next_inside h =
      subst (λ (ls : List ℕ). at + total (λ l. l) ls ≤ length reference) (next-length answer count i size q.few h) p.inside

  pub namings_more : i < count → {l : ℕ} → l ≡ get_or answer (4 + i) 0 → {after : List ℕ}
      → after ≡ renamed now (get_or names i 0) (take l (drop at reference))
      → Namings store reference names answer count (at + l) (i + 1) after
  unfolding naming
  namings_more h {l} e {after} is =
      let ls = lengths_in answer count in
      let piece = take l (drop at reference) in
      let short : length piece ≤ 1024 = omega (arith, stretch_within reference at l, q.short) in
      let behind : drop l (drop at reference) ≡ drop (at + l) reference = drop-drop l at reference in
      let lengths : drop i ls ≡ l ∷ drop (i + 1) ls =
      next-length answer count i size q.few h ∙ ap (λ (x : ℕ). x ∷ drop (i + 1) ls) (sym e) in
      let rest : at + (l + total (λ x. x) (drop (i + 1) ls)) ≤ length reference =
      subst (λ (x : ℕ). at + (x + total (λ y. y) (drop (i + 1) ls)) ≤ length reference) (sym e) (next_inside h) in
      record {
        stays = stays_on p.stays (subst (StoreStays now) (sym is) (stays_renamed now p.stays.good (get_or names i 0) piece short));
        most = omega arith;
        inside = omega arith;
        work =
            λ vs numbers size ns.
            let v = get_or vs i nobody in
            let elements : drop i vs ≡ v ∷ drop (i + 1) vs = drop-next vs i nobody (omega arith) in
            p.work vs numbers size ns
            ∙ ap₂ (λ (us : List Valued) (ks : List ℕ). naming us (drop at reference) ks (memory_of now numbers)) elements lengths
            ∙ ap₂ (λ (r : List ℕ) m. naming (drop (i + 1) vs) r (drop (i + 1) ls) m) behind
            (ap (λ x. named x piece (memory_of now numbers)) (ns.each i (omega arith))
            ∙ named-renamed now p.stays.good (get_or names i 0) piece short numbers
            ∙ ap (λ (x : List ℕ). memory_of x numbers) (sym is));
      }

  pub namings_all : count ≤ i → PiecesNamed store now reference names answer count
  unfolding naming
  namings_all h =
      record {
        stays = p.stays;
        work =
            λ vs numbers size ns.
            p.work vs numbers size ns
            ∙ ap (λ (us : List Valued). naming us (drop at reference) (drop i (lengths_in answer count)) (memory_of now numbers))
            (drop_of_length-le vs {i = i} (omega arith));
      }

-- the strings of a store with one set, if the place is one
string-renamed : (store : List ℕ) → StoreGood store → (s : ℕ) (v : List ℕ) → length v ≤ 1024 → (i : ℕ) → i < 32
    → string_of (renamed store s v) i ≡ cond (eqb i s) v (string_of store i)
unfolding renamed
string-renamed store g s v k i h =
    test_cases (λ x. string_of (cond x (store_with store s v) store) i ≡ cond (eqb i s) v (string_of store i)) (ltb s 32)
    (λ e.
    let known : s < 32 = ltb-true s 32 e in
    ap (λ (ss : List (List ℕ)). get_or ss i []) (with-strings store g s v k)
    ∙ test_cases (λ x. get_or (set (strings_in store) s v) i [] ≡ cond x v (string_of store i)) (eqb i s)
    (λ q.
    ap (λ (j : ℕ). get_or (set (strings_in store) s v) j []) (eqb-true i s q)
    ∙ get_or-set_same (strings_in store) s v [] (omega (arith, count-strings store)))
    (λ q. get_or-set_other (strings_in store) s i v [] (eqb-false i s q)))
    (λ e.
    let out : 32 ≤ s = ltb-false s 32 e in
    rw (ne_eqb i s (λ z. omega arith)))

-- any other is as it was
pub renamed_other : (store : List ℕ) → StoreGood store → (s : ℕ) (v : List ℕ) → length v ≤ 1024 → (i : ℕ) → i < 32 → (s ≡ i → ⊥)
    → string_of (renamed store s v) i ≡ string_of store i
renamed_other store g s v k i h o =
    string-renamed store g s v k i h ∙ ap (λ t. cond t v (string_of store i)) (ne_eqb i s (λ e. o (sym e)))

-- the elements of a pattern from a place on are left whose fillers are to be copied
pub record Copies (table : List ℕ) (s : Stretch) (source to : List ℕ) (at : ℕ) (now : List ℕ) : Type 0 where
  pub stays : StoreStays to now
  pub each : (i : ℕ) → i < 32
      → cond (is_filler i (read_pattern table at (s.from + s.count - at))) (string_of source i) (string_of now i)
      ≡ cond (is_filler i (read_pattern table s.from s.count)) (string_of source i) (string_of to i)

pub copies_none : {table : List ℕ} {s : Stretch} {source to : List ℕ} → Copying table source to s → Copies table s source to s.from to
copies_none {table} {s} {source} {to} p =
    let all : s.from + s.count - s.from ≡ s.count = omega arith in
    record {
      stays = stays_same to p.good;
      each = λ i h. ap (λ (n : ℕ). cond (is_filler i (read_pattern table s.from n)) (string_of source i) (string_of to i)) all;
    }

module _ {table : List ℕ} {s : Stretch} {source to : List ℕ} {at : ℕ} {now : List ℕ} (p : Copies table s source to at now) where
  pub copies_more : StoreGood source → at < s.from + s.count → {x : ℕ}
      → x ≡ filler_of (pattern_of_cell table (cell_at table (elements_at + 8 * at)))
      → {after : List ℕ} → after ≡ renamed now x (string_of source x) → Copies table s source to (at + 1) after
  unfolding is_filler
  copies_more g h {x} e {after} is =
      let cell = pattern_of_cell table (cell_at table (elements_at + 8 * at)) in
      let left = s.from + s.count - at in
      let rest = read_pattern table (at + 1) (s.from + s.count - (at + 1)) in
      let fewer : s.from + s.count - (at + 1) ≡ left - 1 = omega arith in
      let short : length (string_of source x) ≤ 1024 = good_short source g x in
      record {
        stays = stays_on p.stays (subst (StoreStays now) (sym is) (stays_renamed now p.stays.good x (string_of source x) short));
        each =
            λ i k.
            let other = is_filler i rest in
            let mine : string_of after i ≡ cond (eqb i x) (string_of source x) (string_of now i) =
            ap (λ (l : List ℕ). string_of l i) is ∙ string-renamed now p.stays.good x (string_of source x) short i k in
            ap (λ (v : List ℕ). cond other (string_of source i) v) mine
            ∙ either i x other (eqb i x) (string_of now i) refl
            ∙ ap (λ (y : ℕ). cond (eqb i y || other) (string_of source i) (string_of now i)) e
            ∙ ap (λ (n : ℕ). cond (is_filler i (cell ∷ read_pattern table (at + 1) n)) (string_of source i) (string_of now i)) fewer
            ∙ sym (ap (λ (xs : List PatternElement). cond (is_filler i xs) (string_of source i) (string_of now i)) (patterns_more table at left (omega arith)))
            ∙ p.each i k;
      }
    where
      either : (i x : ℕ) (other test : Bool) (v : List ℕ) → eqb i x ≡ test
          → cond other (string_of source i) (cond test (string_of source x) v) ≡ cond (test || other) (string_of source i) v
      either i x true true v q = refl
      either i x false true v q = ap (string_of source) (sym (eqb-true i x q))
      either i x true false v q = refl
      either i x false false v q = refl

  pub copies_all : s.from + s.count ≤ at → Copied table s source to now
  unfolding read_pattern is_filler
  copies_all h =
      let none : s.from + s.count - at ≡ 0 = omega arith in
      record {
        stays = p.stays;
        each =
            λ i k.
            sym (ap (λ (n : ℕ). cond (is_filler i (read_pattern table at n)) (string_of source i) (string_of now i)) none)
            ∙ p.each i k;
      }

-- fillers kept in another store and put back: the store is as it was before any of its fillers changed
pub put_back : (table : List ℕ) (s : Stretch) (store saved kept now left : List ℕ) → StoreGood store → Copied table s store saved kept
    → StoreStays store now
    → ((i : ℕ) → i < 32 → is_filler i (patterns_meaning table s) ≡ false → string_of now i ≡ string_of store i)
    → Copied table s kept now left → left ≡ store
put_back table s store saved kept now left g save stays others back =
    let xs = patterns_meaning table s in
    let each : (i : ℕ) → i < length (strings_in left) → string_of left i ≡ string_of store i =
    λ i h.
    let k : i < 32 = omega (arith, count-strings left) in
    back.each i k ∙ same i k (is_filler i xs) refl in
    let strings : strings_in left ≡ strings_in store =
    ext_get_or [] (strings_in left) (strings_in store) (count-strings left ∙ sym (count-strings store)) each in
    sym (left_is store left (stays_on stays back.stays))
    ∙ ap (λ (ss : List (List ℕ)). store_image ss ++ drop store_size store) strings
    ∙ good_image store g
  where
    same : (i : ℕ) → i < 32 → (x : Bool) → is_filler i (patterns_meaning table s) ≡ x
        → cond (is_filler i (patterns_meaning table s)) (string_of kept i) (string_of now i) ≡ string_of store i
    same i k true e = rw e (save.each i k ∙ rw e)
    same i k false e = rw e (others i k e)
