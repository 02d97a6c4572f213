-- The tests of a cell by its kind, and what they come to in any class of kinds: a cell that passes is read as a thing that holds and is
-- written the same, and the cell of a thing that holds passes. Assumes nothing.
use Rattle.std.specs.Prelude.{Bool, false, ◌&&◌, ◌≡◌, ℕ, zero, suc, ◌+◌, ◌-◌, ◌^◌, ◌≤◌, ◌<◌, eqb, ltb, ℤ, pos, negsuc, length, drop, Option as Found, Some, None}
use Rattle.std.proofs.Math.Bool.{true, not}
use Rattle.std.proofs.Common.{true≢false, ◌∙◌}
use Rattle.std.proofs.lemmas.Bool.{false≢true}
use mathlib.Core.List.{List, [], ◌∷◌}
use Rattle.std.proofs.Math.Option.{Option, none, some}
use Rattle.std.proofs.Math.Path.{refl, sym, ap, subst}
use Rattle.std.proofs.Math.Nat.{not-suc-le-zero}
use native.Mathlib.Omega.{arith}
use Rattle.std.proofs.Math.Dec.{leb}
use Rattle.std.proofs.Math.ListN.{take}
use borrow.Author.Tests.{ltb-true, leb-true, eqb-true, eqb-false, lt-ltb, le-leb, le-ltb, not-true}
use Rattle.base.specs.Choice.{test_cases, both_true, both_pass}
use Rattle.base.specs.Current.{current, limit}
use Rattle.base.specs.ListLaws.{length_stretch}
use Rattle.base.specs.Lists.{all, is_nil}
use Rattle.encoding.specs.CellLaws.{range_read, value_front}
use Rattle.encoding.specs.KindLaws.{kind_in, place_for, KindClass, read_found, found_number, found-passes, found_respells, found_none, has_none}
use Rattle.encoding.specs.KindLaws.{all_plain}
use Rattle.encoding.specs.Kinds.{Counting, no_place, of_string, of_number, Valuing, no_value, natural, signed, placed, spelt, Payload, CellKind, Spelled}
use Rattle.encoding.specs.NumeralLaws.{biased-unbiased, number_between_lem}
use Rattle.encoding.specs.Numerals.{bias, biased, unbiased}
use Rattle.encoding.specs.Rules.{place_holds, value_holds, holds}
use Rattle.encoding.specs.Table.{Cell, range_value, payload_value, literal_of, cell_for, literals_at}
use Rattle.encoding.specs.TableReading.{range_from, range_count, payload_in, read_cell}
use Rattle.verifier.specs.Asked.{CellAsks, cell_asks, asked_among, cell_asked, same_asks, same_asks_true}
use Rattle.values.specs.Numbers.{is_negative, is_in_range}

-- the least number that keeps a constant, and the one behind the greatest
abbrev pub lowest_constant : ℕ
lowest_constant = 140_737_488_355_328 - limit

abbrev pub behind_highest : ℕ
behind_highest = 140_737_488_355_328 + limit + 1

-- the length of a literal, where the value is the range of one
unfoldable pub own_length : Valuing → (value : ℕ) → ℕ
own_length no_value v = 0
own_length natural v = 0
own_length signed v = 0
own_length placed v = 0
own_length spelt v = range_count v

-- what the value is, nothing where there is no kind
unfoldable pub value_asked : Found CellAsks → Valuing
value_asked None = no_value
value_asked (Some a) = a.valuing

-- the least value
unfoldable pub value_low : Valuing → ℕ
value_low no_value = 0
value_low natural = 140_737_488_355_328
value_low signed = lowest_constant
value_low placed = 0
value_low spelt = 0

-- a program of so many strings and numbers
module _ (strings numbers : ℕ) where
  -- what the place and the value lie under
  unfoldable pub place_bound : Counting → ℕ
  place_bound no_place = 1
  place_bound of_string = strings
  place_bound of_number = numbers

  unfoldable pub value_bound : Valuing → ℕ
  value_bound no_value = 1
  value_bound natural = behind_highest
  value_bound signed = behind_highest
  value_bound placed = numbers
  value_bound spelt = 281_474_976_710_656

  -- place and value are as a kind asks for; no cell is as no kind asks
  unfoldable pub fit_test : CellAsks → Cell → Bool
  fit_test a c = (ltb c.place (place_bound a.counting) && leb (value_low a.valuing) c.value) && ltb c.value (value_bound a.valuing)

  unfoldable pub asked_test : Found CellAsks → Cell → Bool
  asked_test None c = false
  asked_test (Some a) c = fit_test a c

  -- a cell of a kind from low to high
  unfoldable pub cell_test : (low high : ℕ) → Cell → Bool
  cell_test low high c = (leb low c.kind && leb c.kind high) && asked_test (cell_asked c.kind) c

  pub record CellFits {A : Type 0} (k : CellKind A) (p v : ℕ) : Type 0 where
    pub place : p < place_bound k.counting
    pub low : value_low k.valuing ≤ v
    pub high : v < value_bound k.valuing

  -- a cell fits a kind exactly when it passes the test of what the kind asks
  module _ {A : Type 0} (k : CellKind A) (c : Cell) where
    fits : fit_test (cell_asks k.counting k.valuing) c ≡ true → CellFits k c.place c.value
    unfolding fit_test
    fits h =
        let one = ltb c.place (place_bound k.counting) in
        let two = leb (value_low k.valuing) c.value in
        let a = both_true (one && two) (ltb c.value (value_bound k.valuing)) h in
        let b = both_true one two a.0 in
        record { place = ltb-true _ _ b.0; low = leb-true _ _ b.1; high = ltb-true _ _ a.1 }

    fitted : CellFits k c.place c.value → fit_test (cell_asks k.counting k.valuing) c ≡ true
    unfolding fit_test
    fitted f = rw (lt-ltb _ _ f.place, le-leb _ _ f.low, lt-ltb _ _ f.high)

-- the numbers from low on, so many, are told by the kinds of a class
unfoldable pub told_by_kinds : {A : Type 0} → List (CellKind A) → (low count : ℕ) → Bool
told_by_kinds ks low zero = true
told_by_kinds ks low (suc n) = same_asks (asked_among ks low) (cell_asked low) && told_by_kinds ks (suc low) n

pub told_at : {A : Type 0} (ks : List (CellKind A)) (low count k : ℕ) → told_by_kinds ks low count ≡ true → low ≤ k → k < low + count
    → asked_among ks k ≡ cell_asked k
unfolding told_by_kinds
told_at ks low zero k h least most = absurd (omega arith)
told_at ks low (suc n) k h least most =
    let both = both_true (same_asks (asked_among ks low) (cell_asked low)) (told_by_kinds ks (suc low) n) h in
    test_cases (λ _. asked_among ks k ≡ cell_asked k) (eqb k low)
    (λ e. subst (λ (j : ℕ). asked_among ks j ≡ cell_asked j) (sym (eqb-true k low e)) (same_asks_true (asked_among ks low) (cell_asked low) both.0))
    (λ e. told_at ks (suc low) n k both.1 (omega (arith, eqb-false k low e)) (omega arith))

-- a number not under the bias keeps a constant that is not negative, and bytes that are some are not none
natural_holds : (v : ℕ) → 140_737_488_355_328 ≤ v → is_negative (unbiased v) ≡ false
unfolding is_negative unbiased bias
natural_holds v low = rw (le-ltb v (2 ^ 47) (omega arith)) (le-ltb (v - 2 ^ 47) 0 (omega arith))

some_bytes : (w : List ℕ) → 1 ≤ length w → not (is_nil w) ≡ true
unfolding is_nil
some_bytes [] h = absurd (not-suc-le-zero h)
some_bytes (b ∷ bs) h = refl

-- the number that keeps an integer in range lies between the limits, and that of one not negative is not under the bias
limited : (z : ℤ) → is_in_range current z ≡ true → (lowest_constant ≤ biased z) × (biased z < behind_highest)
unfolding is_in_range current biased bias
limited (pos m) h = let small = leb-true m limit h in (omega arith, omega arith)
limited (negsuc m) h =
    let small = leb-true (suc m) limit h in
    let e = le-ltb (2 ^ 47) (suc m) (omega arith) in
    (rw e (omega arith), rw e (omega arith))

natural_low : (z : ℤ) → is_negative z ≡ false → 140_737_488_355_328 ≤ biased z
unfolding is_negative biased bias
natural_low (pos m) h = omega arith
natural_low (negsuc m) h = absurd (true≢false h)

-- the cell's literal stands at a place, where its kind has one
abbrev pub LiteralFits : List ℕ → ℕ → Valuing → ℕ → Type 0
LiteralFits t at no_value v = Unit {0}
LiteralFits t at natural v = Unit {0}
LiteralFits t at signed v = Unit {0}
LiteralFits t at placed v = Unit {0}
LiteralFits t at spelt v = (1 ≤ range_count v) × (v ≡ range_value at (range_count v) 0) × (range_from v ≡ at) × (literals_at + at + range_count v ≤ length t)

-- what a cell keeps: x is spelled as the cell, and holds
module _ (strings numbers steps : ℕ) where
  -- a value that fits is written as it was read, and holds as well as what comes before it
  value_written : (t : List ℕ) (at : ℕ) (w : Valuing) (v : ℕ) → value_low w ≤ v → v < value_bound strings numbers w → LiteralFits t at w v
      → payload_value at w (payload_in t w v) ≡ v
  unfolding payload_value payload_in value_low value_bound
  value_written t at no_value v low high l = omega arith
  value_written t at natural v low high l = biased-unbiased v
  value_written t at signed v low high l = biased-unbiased v
  value_written t at placed v low high l = refl
  value_written t at spelt v low high l =
      let size = length_stretch t (literals_at + range_from v) (range_count v) (omega (arith, l.2, l.3)) in
      ap (λ (n : ℕ). range_value at n 0) size ∙ sym l.1

  value_holds_lem : (b : Bool) (t : List ℕ) (at : ℕ) (w : Valuing) (v : ℕ) → b ≡ true → value_low w ≤ v → v < value_bound strings numbers w
      → LiteralFits t at w v → value_holds current strings numbers steps b w (payload_in t w v) ≡ true
  unfolding value_holds payload_in value_low value_bound
  value_holds_lem b t at no_value v h low high l = h
  value_holds_lem b t at natural v h low high l = both_pass h (both_pass (number_between_lem v (omega arith) (omega arith)) (ap not (natural_holds v low)))
  value_holds_lem b t at signed v h low high l = both_pass h (number_between_lem v low (omega arith))
  value_holds_lem b t at placed v h low high l = both_pass h (lt-ltb v numbers high)
  value_holds_lem b t at spelt v h low high l =
      let size = length_stretch t (literals_at + range_from v) (range_count v) (omega (arith, l.2, l.3)) in
      both_pass h (some_bytes (take (range_count v) (drop (literals_at + range_from v) t)) (omega (arith, l.0, size)))

  -- a spelling that is a cell's, with the literal that stands at the place
  pub record CellSpelt {A : Type 0} (t : List ℕ) (at : ℕ) (c : Cell) (s : Spelled A) : Type 0 where
    pub same : cell_for at s ≡ c
    pub hold : holds current strings numbers steps s ≡ true
    pub own : length (literal_of s.kind.valuing s.payload) ≡ own_length (value_asked (cell_asked c.kind)) c.value
    pub bytes :
        literal_of s.kind.valuing s.payload
        ≡ take (length (literal_of s.kind.valuing s.payload)) (drop (literals_at + at) t)

  place-written : (k : Counting) (p : ℕ) → p < place_bound strings numbers k → place_for k p ≡ p
  unfolding place_for place_bound
  place-written no_place p h = omega arith
  place-written of_string p h = refl
  place-written of_number p h = refl

  place-holds : (k : Counting) (p : ℕ) → p < place_bound strings numbers k → place_holds current strings numbers steps k (place_for k p) ≡ true
  unfolding place_for place_holds place_bound
  place-holds no_place p h = refl
  place-holds of_string p h = lt-ltb p strings h
  place-holds of_number p h = lt-ltb p numbers h

  literal_own : (t : List ℕ) (at : ℕ) (w : Valuing) (v : ℕ) → LiteralFits t at w v → length (literal_of w (payload_in t w v)) ≡ own_length w v
  unfolding literal_of payload_in own_length
  literal_own t at no_value v l = refl
  literal_own t at natural v l = refl
  literal_own t at signed v l = refl
  literal_own t at placed v l = refl
  literal_own t at spelt v l = length_stretch t (literals_at + range_from v) (range_count v) (omega (arith, l.2, l.3))

  literal_bytes : (t : List ℕ) (at : ℕ) (w : Valuing) (v : ℕ) → LiteralFits t at w v
      → literal_of w (payload_in t w v) ≡ take (length (literal_of w (payload_in t w v))) (drop (literals_at + at) t)
  unfolding literal_of payload_in
  literal_bytes t at no_value v l = refl
  literal_bytes t at natural v l = refl
  literal_bytes t at signed v l = refl
  literal_bytes t at placed v l = refl
  literal_bytes t at spelt v l =
      let size = length_stretch t (literals_at + range_from v) (range_count v) (omega (arith, l.2, l.3)) in
      ap (λ (n : ℕ). take n (drop (literals_at + range_from v) t)) (sym size)
      ∙ ap (λ (n : ℕ). take (length (take (range_count v) (drop (literals_at + range_from v) t))) (drop (literals_at + n) t)) l.2

  -- a class whose kinds tell the numbers from low to high
  module _ {A : Type 0} {ks : List (CellKind A)} {spell : A → Spelled A} (class : KindClass ks spell) (low count high : ℕ)
      (tells : told_by_kinds ks low count ≡ true) (most : high < low + count) where
    pub record CellFound (c : Cell) : Type 0 where
      pub kind : CellKind A
      pub finds : kind_in ks c.kind ≡ some kind
      pub asks : cell_asked c.kind ≡ Some (cell_asks kind.counting kind.valuing)
      pub fits_it : CellFits strings numbers kind c.place c.value

    pub cell-found : (c : Cell) → cell_test strings numbers low high c ≡ true → CellFound c
    unfolding cell_test asked_test asked_among
    cell-found c h =
        let range = leb low c.kind && leb c.kind high in
        let both = both_true range (asked_test strings numbers (cell_asked c.kind) c) h in
        let inside = both_true (leb low c.kind) (leb c.kind high) both.0 in
        let asks = told_at ks low count c.kind tells (leb-true low c.kind inside.0) (omega (arith, leb-true c.kind high inside.1)) in
        by (kind_in ks c.kind) refl (sym asks) both.1
      where
        by : (o : Option (CellKind A)) → kind_in ks c.kind ≡ o → cell_asked c.kind ≡ elim o [ none ↦ None | some x ↦ Some (cell_asks x.counting x.valuing) ]
            → asked_test strings numbers (cell_asked c.kind) c ≡ true → CellFound c
        by none e asks fit = absurd (false≢true (subst (λ (a : Found CellAsks). asked_test strings numbers a c ≡ true) asks fit))
        by (some k) e asks fit =
            record {
              kind = k;
              finds = e;
              asks = asks;
              fits_it = fits strings numbers k c (subst (λ (a : Found CellAsks). asked_test strings numbers a c ≡ true) asks fit);
            }

    -- a cell that passes, and whose literal stands at the place, is read as a thing that is spelled as the cell and holds
    pub class_back : (other : A) (t : List ℕ) (at : ℕ) (c : Cell) (f : CellFound c) → LiteralFits t at f.kind.valuing c.value
        → CellSpelt t at c (spell (read_cell other ks t c))
    unfolding cell_for holds value_asked
    class_back other t at c f literal =
        let k = f.kind in
        let fit = f.fits_it in
        let w = payload_in t k.valuing c.value in
        let is =
        ap spell (read_found other ks k t c f.finds) ∙ found_respells spell ks c.kind k class.respells f.finds c.place w in
        let number = found_number ks c.kind k f.finds in
        let place = place-written k.counting c.place fit.place in
        let value = value_written t at k.valuing c.value fit.low fit.high literal in
        let asks : k.valuing ≡ value_asked (cell_asked c.kind) = ap value_asked (sym f.asks) in
        subst (CellSpelt t at c) (sym is)
        (record {
          same = λ i. record { kind = sym number i; place = place i; value = value i };
          hold =
              value_holds_lem (place_holds current strings numbers steps k.counting (place_for k.counting c.place)) t at k.valuing c.value
              (place-holds k.counting c.place fit.place) fit.low fit.high literal;
          own = literal_own t at k.valuing c.value literal ∙ ap (λ (v : Valuing). own_length v c.value) asks;
          bytes = literal_bytes t at k.valuing c.value literal;
        })

    -- what holds fits its kind
    place_fits : (k : Counting) (p : ℕ) → place_holds current strings numbers steps k p ≡ true → p < place_bound strings numbers k
    unfolding place_holds place_bound
    place_fits no_place p h = omega (arith, eqb-true p 0 h)
    place_fits of_string p h = ltb-true p strings h
    place_fits of_number p h = ltb-true p numbers h

    value_fits : (b : Bool) (at : ℕ) (v : Valuing) (w : Payload v) → value_holds current strings numbers steps b v w ≡ true
        → at + length (literal_of v w) < 2 ^ 16 → (value_low v ≤ payload_value at v w) × (payload_value at v w < value_bound strings numbers v)
    unfolding value_holds payload_value literal_of value_low value_bound
    value_fits b at no_value w h small = (omega arith, omega arith)
    value_fits b at natural w h small =
        let g = both_true (is_in_range current w) (not (is_negative w)) (both_true b (is_in_range current w && not (is_negative w)) h).1 in
        (natural_low w (not-true (is_negative w) g.1), (limited w g.0).1)
    value_fits b at signed w h small = limited w (both_true b (is_in_range current w) h).1
    value_fits b at placed w h small = (omega arith, ltb-true w numbers (both_true b (ltb w numbers) h).1)
    value_fits b at spelt w h small = (omega arith, (range_read at (length w) 0 (omega arith) (omega arith) (omega arith)).small)

    -- the cell of a thing that holds passes
    pub class_forth : all (λ k. leb low k.number && leb k.number high) ks ≡ true → (at : ℕ) (x : A)
        → holds current strings numbers steps (spell x) ≡ true
        → at + length (literal_of (spell x).kind.valuing (spell x).payload) < 2 ^ 16
        → (cell_test strings numbers low high (cell_for at (spell x)) ≡ true)
        × (cell_asked (spell x).kind.number ≡ Some (cell_asks (spell x).kind.counting (spell x).kind.valuing))
    unfolding cell_test asked_test cell_for holds asked_among
    class_forth within at x h small =
        let s = spell x in
        let k = s.kind in
        let finds = (class.spells x).finds in
        let range = found-passes (λ k. leb low k.number && leb k.number high) ks k.number k within finds in
        let inside = both_true (leb low k.number) (leb k.number high) range in
        let told =
        told_at ks low count k.number tells (leb-true low k.number inside.0) (omega (arith, leb-true k.number high inside.1)) in
        let asks : cell_asked k.number ≡ Some (cell_asks k.counting k.valuing) =
        sym told ∙ ap (λ (o : Option (CellKind A)). elim o [ none ↦ None | some m ↦ Some (cell_asks m.counting m.valuing) ]) finds in
        let b = place_holds current strings numbers steps k.counting s.place in
        let value = value_fits b at k.valuing s.payload h small in
        let fit : CellFits strings numbers k s.place (payload_value at k.valuing s.payload) =
        record {
          place = place_fits k.counting s.place (value_front current strings numbers steps b k.valuing s.payload h);
          low = value.0;
          high = value.1;
        } in
        (both_pass range (ap (λ (a : Found CellAsks). asked_test strings numbers a (cell_for at s)) asks ∙ fitted strings numbers k (cell_for at s) fit), asks)

    -- a kind without literal bytes has none that would have to stand anywhere
    pub plain_fits : all_plain ks ≡ true → {c : Cell} (f : CellFound c) → LiteralFits [] 0 f.kind.valuing c.value
    unfolding has_none
    plain_fits plain {c} f = by f.kind.valuing c.value (found_none ks c.kind f.kind plain f.finds)
      where
        by : (w : Valuing) (v : ℕ) → has_none w ≡ true → LiteralFits [] 0 w v
        by no_value v h = tt
        by natural v h = tt
        by signed v h = tt
        by placed v h = tt
        by spelt v h = absurd (false≢true h)
