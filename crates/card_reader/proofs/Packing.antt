-- Laws of packing: one byte more, one part more, and the literals of a whole text.
-- Assumes nothing.
use mathlib.Core.Bool.{Bool, true, false, not, ◌&&◌, ◌||◌, false≢true, and_assoc, and-true}
use mathlib.Core.List.{List, [], ◌∷◌, ◌++◌, append-nil}
use mathlib.Core.Path.{◌≡◌, refl, ap, sym, ◌∙◌}
use Prim.Native.Nat.{ℕ, ◌+◌, ◌≤◌, ◌<◌}
use native.Mathlib.Nat.{add-zero}
use native.Mathlib.Numerals.{add-one}
use native.Mathlib.Omega.{arith}
use denote.Enum.Bare.{sameb}
use mir.Val.{bool_byte}
use lib.Dec.{eqb}
use lib.ListN.{length, take, drop, get_or, set, length-set, drop_of_length-le}
use lib.Seq.{append_snoc, take-suc-set, take-set-le}
use borrow.Author.Tests.{eqb-true, eq-eqb, ne_eqb, not-false}
use Rattle.base.specs.Choice.{test_cases}
use Rattle.base.specs.ListLaws.{drop-next}
use Rattle.cards.specs.Bytes.{is_blank, quote}
use Rattle.cards.specs.Packing.{Place, outside, opened, doubled, inside, place_after, is_dropped, pack_from, literals_from}
use Rattle.card_reader.specs.declared.packed.Packing.{Packing}
use Rattle.card_reader.specs.declared.packed.Place as Code
use Rattle.card_reader.specs.declared.packed.Place.TheVariants.{Outside, Opened, Doubled, Inside}
use Rattle.card_reader.specs.Packs.{Packs, PackingSteps}
use Rattle.card_reader.specs.contracts.packed.Place.{the_type}
use Rattle.card_reader.specs.Places.{is_outside, kept_at, place_behind, place_meaning, stays_whole, unbroken}

-- the place behind a quote, and behind another byte
abbrev pub behind_quote : Place → Place
behind_quote outside = opened
behind_quote opened = doubled
behind_quote doubled = outside
behind_quote inside = outside

abbrev pub behind_other : Place → Place
behind_other outside = outside
behind_other opened = inside
behind_other doubled = outside
behind_other inside = inside

pub after-quote : (p : Place) (b : ℕ) → b ≡ 34 → behind_quote p ≡ place_after p b
unfolding place_after quote
after-quote outside b e = ap (λ t. elim t [ true ↦ opened | false ↦ outside ]) (sym (eq-eqb b 34 e))
after-quote opened b e = ap (λ t. elim t [ true ↦ doubled | false ↦ inside ]) (sym (eq-eqb b 34 e))
after-quote doubled b e = refl
after-quote inside b e = ap (λ t. elim t [ true ↦ outside | false ↦ inside ]) (sym (eq-eqb b 34 e))

pub after-other : (p : Place) (b : ℕ) → (b ≡ 34 → ⊥) → behind_other p ≡ place_after p b
unfolding place_after quote
after-other outside b e = ap (λ t. elim t [ true ↦ opened | false ↦ outside ]) (sym (ne_eqb b 34 e))
after-other opened b e = ap (λ t. elim t [ true ↦ doubled | false ↦ inside ]) (sym (ne_eqb b 34 e))
after-other doubled b e = refl
after-other inside b e = ap (λ t. elim t [ true ↦ outside | false ↦ inside ]) (sym (ne_eqb b 34 e))

pub after_doubled : (b : ℕ) → outside ≡ place_after doubled b
unfolding place_after
after_doubled b = refl

-- the code's places compared
pub outside_told : (p : Code.Place) → sameb the_type p Outside ≡ is_outside (place_meaning p)
outside_told Outside = refl
outside_told Opened = refl
outside_told Doubled = refl
outside_told Inside = refl

pub whole_told : (p : Code.Place) (b : ℕ) → (not (sameb the_type p Doubled) || eqb b 34) ≡ stays_whole (place_meaning p) b
unfolding quote
whole_told Outside b = refl
whole_told Opened b = refl
whole_told Doubled b = refl
whole_told Inside b = refl

-- a byte outside literals counts unless it is a blank; every other byte counts
kept_outside : (b : ℕ) → bool_byte (not (is_blank b)) ≡ kept_at outside b
unfolding kept_at is_dropped
kept_outside b = test_cases (λ t. bool_byte (not t) ≡ elim t [ true ↦ 0 | false ↦ 1 ]) (is_blank b) (λ _. refl) (λ _. refl)

pub kept-other : (p : Place) (b : ℕ) → (is_outside p && not (eqb b 34)) ≡ false → kept_at p b ≡ 1
unfolding kept_at is_dropped is_blank
kept-other outside b e =
    let quoted : b ≡ 34 = eqb-true b 34 (not-false (eqb b 34) e) in
    ap (λ t. elim t [ true ↦ 0 | false ↦ 1 ]) (ne_eqb b 32 (λ blank. omega arith))
kept-other opened b e = refl
kept-other doubled b e = refl
kept-other inside b e = refl

pub flag_small : (t : Bool) → bool_byte t ≤ 1
flag_small true = omega arith
flag_small false = omega arith

kept_small : (p : Place) (b : ℕ) → kept_at p b ≤ 1
unfolding kept_at
kept_small p b = test_cases (λ t. elim t [ true ↦ 0 | false ↦ 1 ] ≤ 1) (is_dropped p b) (λ _. omega arith) (λ _. omega arith)

outside_only : (p : Place) → is_outside p ≡ true → p ≡ outside
outside_only outside e = refl
outside_only opened e = absurd (false≢true e)
outside_only doubled e = absurd (false≢true e)
outside_only inside e = absurd (false≢true e)

-- one byte more, outside literals and no quote
pub steps_outside : (s : Packing) (b : ℕ) (blank : Bool) → is_outside (place_meaning s.place) ≡ true → (b ≡ 34 → ⊥) → blank ≡ is_blank b →
    PackingSteps s b (record { place = s.place; whole = s.whole; length = s.length + bool_byte (not blank) })
steps_outside s b blank out other eb =
    let at : place_meaning s.place ≡ outside = outside_only _ out in
    record {
      place = at ∙ after-other outside b other ∙ ap (λ p. place_after p b) (sym at);
      whole = sym (and-true s.whole) ∙ ap (λ p. s.whole && stays_whole p b) (sym at);
      length =
          ap (λ (n : ℕ). s.length + n)
          (ap (λ t. bool_byte (not t)) eb ∙ kept_outside b ∙ ap (λ p. kept_at p b) (sym at));
    }

-- one byte more, any other
pub steps-other : (s : Packing) (b : ℕ) (whole : Bool) (place : Code.Place) → (is_outside (place_meaning s.place) && not (eqb b 34)) ≡ false →
    place_meaning place ≡ place_after (place_meaning s.place) b → whole ≡ stays_whole (place_meaning s.place) b →
    PackingSteps s b (record { place = place; whole = s.whole && whole; length = s.length + 1 })
steps-other s b whole place left p w =
    record {
      place = p;
      whole = ap (λ t. s.whole && t) w;
      length = ap (λ (n : ℕ). s.length + n) (sym (kept-other (place_meaning s.place) b left));
    }

-- a byte stored behind the packed ones, and counted or not
stored : (dropped : Bool) (text rest : List ℕ) (at b : ℕ) → at < length text →
    take (at + elim dropped [ true ↦ 0 | false ↦ 1 ]) (set text at b) ++ rest
    ≡ take at text ++ elim dropped [ true ↦ rest | false ↦ b ∷ rest ]
stored true text rest at b h = rw (add-zero at, take-set-le at text at b (omega arith))
stored false text rest at b h = rw (add-one at, take-suc-set text at b h) (append_snoc (take at text) b rest)

-- one byte more
pub packed_more : (part text : List ℕ) (place : Place) (at i : ℕ) → at < length text → i < length part →
    take (at + kept_at place (get_or part i 0)) (set text at (get_or part i 0))
    ++ pack_from (place_after place (get_or part i 0)) (drop (i + 1) part)
    ≡ take at text ++ pack_from place (drop i part)
unfolding kept_at pack_from
packed_more part text place at i ht hp =
    rw (drop-next part i 0 hp)
    (stored (is_dropped place (get_or part i 0)) text (pack_from (place_after place (get_or part i 0)) (drop (i + 1) part)) at (get_or part i 0) ht)

pub place-more : (part : List ℕ) (i : ℕ) (place : Place) → i < length part →
    place_behind (place_after place (get_or part i 0)) (drop (i + 1) part) ≡ place_behind place (drop i part)
unfolding place_behind
place-more part i place h = rw (drop-next part i 0 h)

pub unbroken-more : (part : List ℕ) (i : ℕ) (place : Place) → i < length part →
    (stays_whole place (get_or part i 0) && unbroken (place_after place (get_or part i 0)) (drop (i + 1) part)) ≡ unbroken place (drop i part)
unfolding unbroken
unbroken-more part i place h = rw (drop-next part i 0 h)

-- the packing s₀ of text has gone on to s over i bytes of part: what is left leads to the same
pub record Going (part text : List ℕ) (s₀ : Packing) (text' : List ℕ) (s : Packing) (i : ℕ) : Type 0 where
  pub inside : i ≤ length part
  pub size : length text' ≡ length text
  pub room : s.length ≤ s₀.length + i
  pub bytes :
      take s.length text' ++ pack_from (place_meaning s.place) (drop i part)
      ≡ take s₀.length text ++ pack_from (place_meaning s₀.place) part
  pub place : place_behind (place_meaning s.place) (drop i part) ≡ place_behind (place_meaning s₀.place) part
  pub whole : (s.whole && unbroken (place_meaning s.place) (drop i part)) ≡ (s₀.whole && unbroken (place_meaning s₀.place) part)

pub going_start : (part text : List ℕ) (s : Packing) → Going part text s text s 0
going_start part text s = record { inside = omega arith; size = refl; room = omega arith; bytes = refl; place = refl; whole = refl }

module _ (part text : List ℕ) (s₀ : Packing) (text' : List ℕ) (s : Packing) (i : ℕ) (g : Going part text s₀ text' s i) where
  pub going_more : (r : Packing) → i < length part → s.length < length text' → PackingSteps s (get_or part i 0) r →
      Going part text s₀ (set text' s.length (get_or part i 0)) r (i + 1)
  going_more r hp ht st =
      let b = get_or part i 0 in
      let kept = kept_small (place_meaning s.place) b in
      record {
        inside = omega arith;
        size = length-set text' s.length b ∙ g.size;
        room = omega arith;
        bytes = rw (st.length, st.place) (packed_more part text' (place_meaning s.place) s.length i ht hp ∙ g.bytes);
        place = rw st.place (place-more part i (place_meaning s.place) hp ∙ g.place);
        whole =
            rw (st.whole, st.place)
            (and_assoc s.whole _ _ ∙ ap (λ t. s.whole && t) (unbroken-more part i (place_meaning s.place) hp) ∙ g.whole);
      }

  pub going_done : length part ≤ i → Packs part text s₀ text' s
  unfolding pack_from place_behind unbroken
  going_done h =
      let over : drop i part ≡ [] = drop_of_length-le part h in
      record {
        bytes =
            sym (append-nil (take s.length text'))
            ∙ ap (λ (l : List ℕ). take s.length text' ++ pack_from (place_meaning s.place) l) (sym over)
            ∙ g.bytes;
        place = ap (λ (l : List ℕ). place_behind (place_meaning s.place) l) (sym over) ∙ g.place;
        whole = sym (and-true s.whole) ∙ ap (λ (l : List ℕ). s.whole && unbroken (place_meaning s.place) l) (sym over) ∙ g.whole;
        room = let within = g.inside in omega arith;
        size = g.size;
      }

-- one part more
pub packed-parts : (place : Place) (xs ys : List ℕ) → pack_from place (xs ++ ys) ≡ pack_from place xs ++ pack_from (place_behind place xs) ys
unfolding pack_from place_behind
packed-parts place [] ys = refl
packed-parts place (b ∷ bs) ys =
    let rest = packed-parts (place_after place b) bs ys in
    test_cases
    (λ t.
    elim t [ true ↦ pack_from (place_after place b) (bs ++ ys) | false ↦ b ∷ pack_from (place_after place b) (bs ++ ys) ]
    ≡ elim t [ true ↦ pack_from (place_after place b) bs | false ↦ b ∷ pack_from (place_after place b) bs ]
    ++ pack_from (place_behind (place_after place b) bs) ys)
    (is_dropped place b) (λ _. rest) (λ _. ap (λ (l : List ℕ). b ∷ l) rest)

pub place-parts : (place : Place) (xs ys : List ℕ) → place_behind place (xs ++ ys) ≡ place_behind (place_behind place xs) ys
unfolding place_behind
place-parts place [] ys = refl
place-parts place (b ∷ bs) ys = place-parts (place_after place b) bs ys

pub unbroken-parts : (place : Place) (xs ys : List ℕ) →
    unbroken place (xs ++ ys) ≡ (unbroken place xs && unbroken (place_behind place xs) ys)
unfolding unbroken place_behind
unbroken-parts place [] ys = refl
unbroken-parts place (b ∷ bs) ys =
    ap (λ t. stays_whole place b && t) (unbroken-parts (place_after place b) bs ys) ∙ sym (and_assoc (stays_whole place b) _ _)

-- literals are whole if none is broken and the text ends outside of one
pub literals_end : (place : Place) (xs : List ℕ) → literals_from place xs ≡ (unbroken place xs && is_outside (place_behind place xs))
unfolding literals_from unbroken place_behind place_after
literals_end outside [] = refl
literals_end opened [] = refl
literals_end doubled [] = refl
literals_end inside [] = refl
literals_end outside (b ∷ bs) = literals_end (place_after outside b) bs
literals_end opened (b ∷ bs) = literals_end (place_after opened b) bs
literals_end doubled (b ∷ bs) =
    let rest = literals_end outside bs in
    test_cases
    (λ t. elim t [ true ↦ literals_from outside bs | false ↦ false ] ≡ ((t && unbroken outside bs) && is_outside (place_behind outside bs)))
    (eqb b quote) (λ _. rest) (λ _. refl)
literals_end inside (b ∷ bs) = literals_end (place_after inside b) bs
