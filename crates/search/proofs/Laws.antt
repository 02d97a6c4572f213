-- What bytes that differ say of a word's places. Assumes nothing.
use mathlib.Core.Bool.{Bool, true, false, ◌&&◌, ◌||◌, true≢false}
use mathlib.Core.List.{List, [], ◌∷◌}
use mathlib.Core.Logic.{◌⊎◌, inl, inr, ⊎_elim, ⊎_map}
use mathlib.Core.Path.{◌≡◌, refl, sym, ◌∙◌, ap}
use Prim.Native.Nat.{ℕ, zero, suc, ◌+◌, ◌-◌, ◌≤◌, ◌<◌}
use native.Mathlib.Omega.{arith}
use lib.Dec.{eqb}
use lib.ListN.{length, take, drop, get_or, length-drop}
use lib.Seq.{length-take-le, get_or-take, get_or-drop, ext_get_or}
use borrow.Author.Count.{below_more}
use borrow.Author.Tests.{eq-eqb, ne_eqb, eqb-true}
use Rattle.memchr.specs.Find.{Nowhere, NoneBefore, Passes, is_byte}
use Rattle.base.specs.Choice.{both_pass, neither_true}
use Rattle.base.specs.Lists.{begins}
use Rattle.std.specs.List.{fold, zip}
use Rattle.base.specs.ListLaws.{begins_iff, length_stretch, get_or_stretch, stretch_end}
use Rattle.search.specs.Passing.{AgreesUntil, Both, Without, NextByte, WordPasses}

-- a test that can't hold fails
fails : (b : Bool) → (b ≡ true → ⊥) → b ≡ false
fails true h = absurd (h refl)
fails false h = refl

-- a number is below another or not
below_or_not : (j k : ℕ) → (j < k) ⊎ (k ≤ j)
below_or_not zero zero = inr (omega arith)
below_or_not zero (suc k) = inl (omega arith)
below_or_not (suc j) zero = inr (omega arith)
below_or_not (suc j) (suc k) = ⊎_map (λ h. omega arith) (λ h. omega arith) (below_or_not j k)

-- where a word begins a text each of its bytes stands there
begins-byte : (word text : List ℕ) → begins word text ≡ true → (i : ℕ) → i < length word → get_or text i 0 ≡ get_or word i 0
begins-byte word text e i h =
    sym (get_or-take (length word) text i 0 h) ∙ ap (λ (l : List ℕ). get_or l i 0) ((begins_iff word text).0 e)

-- where each of its bytes stands there a word begins a text
bytes_begin : (word text : List ℕ) → length word ≤ length text → ((i : ℕ) → i < length word → get_or text i 0 ≡ get_or word i 0)
    → begins word text ≡ true
bytes_begin word text room same =
    let size : length (take (length word) text) ≡ length word = length-take-le (length word) text room in
    (begins_iff word text).1
    (ext_get_or 0 (take (length word) text) word size
    (λ i h. get_or-take (length word) text i 0 (omega arith) ∙ same i (omega arith)))

-- all bytes agree: the word begins the text
pub agrees-whole : (rest word : List ℕ) (n : ℕ) → length word ≤ length rest → AgreesUntil rest word n → n ≡ length word
    → begins word rest ≡ true
agrees-whole rest word n room a e = bytes_begin word rest room (λ i h. a.same i (omega arith))

-- not all agree: it doesn't
pub agrees_part : (rest word : List ℕ) (n : ℕ) → AgreesUntil rest word n → n < length word → begins word rest ≡ false
agrees_part rest word n a h = fails (begins word rest) (λ e. a.differ h (begins-byte word rest e n h))

-- how many bytes agree tells whether the word begins the text
pub agrees-begins : (rest word : List ℕ) (n : ℕ) → length word ≤ length rest → AgreesUntil rest word n → eqb n (length word) ≡ begins word rest
agrees-begins rest word n room a =
    ⊎_elim
    (λ (h : n < length word). ne_eqb n (length word) (λ e. omega arith) ∙ sym (agrees_part rest word n a h))
    (λ (h : length word ≤ n).
    let e : n ≡ length word = omega (arith, a.inside) in
    eq-eqb n (length word) e ∙ sym (agrees-whole rest word n room a e))
    (below_or_not n (length word))

-- a fold that found nothing in two blocks of one length: at no place both bytes stand
pub hit_none : (fronts backs : List ℕ) (first second : ℕ) (found : Bool) → length fronts ≡ length backs
    → fold (λ t (p : ℕ × ℕ). t || (eqb p.0 first && eqb p.1 second)) found (zip fronts backs) ≡ false
    → (found ≡ false) × ((j : ℕ) → j < length fronts → Both fronts backs first second j → ⊥)
hit_none [] backs first second found size e = (e, λ j h. absurd (omega arith))
hit_none (x ∷ fronts) [] first second found size e = absurd (omega arith)
hit_none (x ∷ fronts) (y ∷ backs) first second found size e =
    let rest = hit_none fronts backs first second (found || (eqb x first && eqb y second)) (omega arith) e in
    let parts = neither_true found (eqb x first && eqb y second) rest.0 in
    (parts.0, others parts.1 rest.1)
  where
    others : (eqb x first && eqb y second) ≡ false → ((j : ℕ) → j < length fronts → Both fronts backs first second j → ⊥)
        → (j : ℕ) → j < suc (length fronts) → Both (x ∷ fronts) (y ∷ backs) first second j → ⊥
    others none more zero h b = true≢false (sym (both_pass (eq-eqb x first b.0) (eq-eqb y second b.1)) ∙ none)
    others none more (suc j) h b = more j (omega arith) b

module _ {text : List ℕ} {first second span places from : ℕ} where
  -- no place passed yet
  pub without_none : from ≤ places → Without text first second span places from from
  without_none h = record { low = omega arith; high = h; differ = λ j low high. absurd (omega arith) }

  module _ {k : ℕ} (w : Without text first second span places from k) where
    -- the places from k to k' as well
    pub without_join : {k' : ℕ} → Without text first second span places k k' → Without text first second span places from k'
    without_join w' =
        record {
          low = omega (arith, w.low, w'.low);
          high = w'.high;
          differ = λ j low high. ⊎_elim (λ (h : j < k). w.differ j low h) (λ (h : k ≤ j). w'.differ j h high) (below_or_not j k);
        }

    -- a block more, of two parts of the text where nothing was found
    pub without_block : (size m n : ℕ) → m ≡ size → n ≡ size → k + size ≤ places
        → ((j : ℕ) → j < size → Both (take m (drop k text)) (take n (drop (k + span) text)) first second j → ⊥)
        → Without text first second span places from (k + size)
    without_block size m n em en room h =
        without_join (record { low = omega arith; high = room; differ = behind })
      where
        behind : (j : ℕ) → k ≤ j → j < k + size → get_or text j 0 ≡ first → get_or text (j + span) 0 ≡ second → ⊥
        behind j low high f l =
            let i : ℕ = j - k in
            let e : k + i ≡ j = omega arith in
            let e' : k + span + i ≡ j + span = omega arith in
            h i (omega arith) (
              get_or_stretch text k m i (omega arith) ∙ ap (λ (n : ℕ). get_or text n 0) e ∙ f,
              get_or_stretch text (k + span) n i (omega arith) ∙ ap (λ (n : ℕ). get_or text n 0) e' ∙ l,
            )

-- a byte looked for from a place on
module _ (text : List ℕ) (byte from m : ℕ) (whole : from + m ≡ length text) where
  abbrev rest : List ℕ
  rest = take m (drop from text)

  -- none up to a place behind it
  none_until : (i : ℕ) → i ≤ m → Nowhere (Passes (is_byte byte) rest) 0 i → (j : ℕ) → from ≤ j → j < from + i → get_or text j 0 ≡ byte → ⊥
  none_until i few none j low high e =
      let k : ℕ = j - from in
      let place : from + k ≡ j = omega arith in
      none k (omega arith) (omega arith)
      (eq-eqb (get_or rest k 0) byte (get_or_stretch text from m k (omega arith) ∙ ap (λ (n : ℕ). get_or text n 0) place ∙ e))

  pub byte_found : {i : ℕ} → NoneBefore (Passes (is_byte byte) rest) 0 (length rest) i × Passes (is_byte byte) rest i → NextByte text byte from (from + i)
  byte_found {i} found =
      let below : i < m = omega (arith, found.0.high, length_stretch text from m (omega arith)) in
      record {
        low = omega arith;
        high = omega arith;
        none = none_until i (omega arith) found.0.before;
        here = λ _. sym (get_or_stretch text from m i below) ∙ eqb-true (get_or rest i 0) byte found.1;
      }

  pub byte_missing : Nowhere (Passes (is_byte byte) rest) 0 (length rest) → NextByte text byte from (length text)
  byte_missing none =
      record {
        low = omega arith;
        high = omega arith;
        none = λ j low high. none_until m (omega arith) (λ k l h. none k l (omega (arith, length_stretch text from m (omega arith)))) j low (omega arith);
        here = λ h. absurd (omega arith);
      }

module _ {text word : List ℕ} where
  -- no place is passed
  pub passes_none : WordPasses text word 0
  passes_none =
      record { inside = omega arith; enough = λ j h. absurd (omega arith); differ = λ j h. absurd (omega arith) }

  -- where not both bytes of the word stand the word does not
  pub passes-more : {span places k k' : ℕ} → span < length word → places + length word ≡ length text + 1 → WordPasses text word k
      → Without text (get_or word 0 0) (get_or word span 0) span places k k' → WordPasses text word k'
  passes-more {span} {places} {k} {k'} inside size p w =
      record {
        inside = omega (arith, w.high);
        enough = λ j h. omega (arith, length-drop j text, w.high);
        differ =
            λ j h. ⊎_elim (λ (l : j < k). p.differ j l) (λ (l : k ≤ j). fails (begins word (drop j text)) (stands j l h)) (below_or_not j k);
      }
    where
      stands : (j : ℕ) → k ≤ j → j < k' → begins word (drop j text) ≡ true → ⊥
      stands j low high e =
          w.differ j low high
          (ap (λ (n : ℕ). get_or text n 0) (omega arith) ∙ sym (get_or-drop j text 0 0) ∙ begins-byte word (drop j text) e 0 (omega arith))
          (sym (get_or-drop j text span 0) ∙ begins-byte word (drop j text) e span inside)

  -- where the one byte of the word does not stand the word does not
  pub passes-byte : {k : ℕ} → length word ≡ 1 → NextByte text (get_or word 0 0) 0 k → WordPasses text word k
  passes-byte one n =
      passes-more {span = 0} {places = length text} (omega arith) (omega arith) passes_none
      (record { low = n.low; high = n.high; differ = λ j low high e l. n.none j low high e })

  -- one more place, where not all bytes agree
  pub passes-one : (places : ℕ) {k n m : ℕ} → places + length word ≡ length text + 1 → k < places → WordPasses text word k
      → m ≡ length text - k → AgreesUntil (take m (drop k text)) word n → n < length word → WordPasses text word (k + 1)
  passes-one places {k} {n} {m} size room p e a h =
      record {
        inside = omega arith;
        enough = λ j l. omega (arith, length-drop j text);
        differ =
            below_more (λ j. begins word (drop j text) ≡ false) k p.differ
            (ap (begins word) (sym (stretch_end text k m e)) ∙ agrees_part (take m (drop k text)) word n a h);
      }
