-- What a cell of the table keeps is read back from it, of every class of kinds by one law. Assumes nothing.
use Rattle.std.specs.Prelude.{Bool, true, ◌&&◌, List, [], ◌∷◌, ◌++◌, ◌≡◌, refl, ℕ, ◌+◌, ◌^◌, ◌≤◌, ◌<◌, ltb, ℤ, nat_abs, length, drop}
use Rattle.std.proofs.Math.Bool.{not}
use Rattle.std.proofs.Common.{sym, ◌∙◌}
use Rattle.std.proofs.Math.Path.{ap}
use native.Mathlib.Omega.{arith}
use borrow.Author.Tests.{ltb-true, leb-true, eqb-true}
use Rattle.base.specs.Choice.{both_true}
use Rattle.base.specs.Edition.{Edition}
use Rattle.base.specs.Lists.{is_nil}
use Rattle.syntax.specs.Program.{Length, constantly, numbered, Part, whole, first, Operand, number_of, Item, operand}
use Rattle.syntax.specs.Program.{Element, part, PatternElement, value, fixed_filler}
use Rattle.values.specs.Numbers.{is_negative, is_in_range}
use Rattle.encoding.specs.KindLaws.{KindClass, read_found, found_small, found_plain, all_plain}
use Rattle.encoding.specs.KindLaws.{part_class, operand_class, item_class, element_class, pattern_class}
use Rattle.encoding.specs.KindLaws.{part_plain, operand_plain, item_plain}
use Rattle.encoding.specs.Kinds.{Counting, no_place, of_string, of_number, Valuing, no_value, natural, signed, placed, spelt, Payload}
use Rattle.encoding.specs.Kinds.{CellKind, Spelled, parts, spell_part, spell_pattern}
use Rattle.encoding.specs.NumeralLaws.{BytesStand, stands_back, byte-read, bytes_read, number_read, biased_small, unbiased-biased}
use Rattle.encoding.specs.Numerals.{in_bytes, bias}
use Rattle.encoding.specs.Rules.{place_holds, value_holds, holds, part_holds, operand_holds, item_holds, element_holds, pattern_holds, place_of}
use Rattle.encoding.specs.Table.{Cell, cell_bytes, range_value, payload_value, literal_of, cell_for, part_cell, operand_cell, item_cell}
use Rattle.encoding.specs.Table.{element_cell, pattern_cell, literal_in, literals_at}
use Rattle.encoding.specs.TableReading.{cell_at, range_from, range_count, range_more, payload_in, read_cell, other_part, part_of_cell}
use Rattle.encoding.specs.TableReading.{operand_of_cell, item_of_cell, element_of_cell, pattern_of_cell}

-- a cell whose value has 6 bytes is read where its bytes stand
pub cell-read : (t : List ℕ) (at : ℕ) (c : Cell) → c.value < 2 ^ 48 → BytesStand t at (cell_bytes c) → cell_at t at ≡ c
unfolding cell_bytes cell_at
cell-read t at c small s =
    let bytes = in_bytes 6 c.value in
    let kinds = byte-read t at c.kind (c.place ∷ bytes) s in
    let places = byte-read t (at + 1) c.place bytes (stands_back t (c.kind ∷ []) (c.place ∷ bytes) s) in
    let values = number_read 6 t (at + 2) c.value small (stands_back t (c.kind ∷ (c.place ∷ [])) bytes s) in
    λ i. record { kind = kinds i; place = places i; value = values i }

-- the bytes of a cell
pub length-cell_bytes : (c : Cell) → length (cell_bytes c) ≡ 8
unfolding cell_bytes in_bytes
length-cell_bytes c = refl

-- The three numbers of a range are read back, and the range has 6 bytes.
pub record RangeRead (from count more : ℕ) : Type 0 where
  pub first : range_from (range_value from count more) ≡ from
  pub second : range_count (range_value from count more) ≡ count
  pub third : range_more (range_value from count more) ≡ more
  pub small : range_value from count more < 2 ^ 48

-- which holds of numbers of 2 bytes
pub range_read : (from count more : ℕ) → from < 2 ^ 16 → count < 2 ^ 16 → more < 2 ^ 16 → RangeRead from count more
unfolding range_value range_from range_count range_more
range_read from count more h g k = record { first = omega arith; second = omega arith; third = omega arith; small = omega arith }

-- The cell keeps x: its value has 6 bytes, and x is read from it.
pub record CellKept {A : Type 0} (back : Cell → A) (c : Cell) (x : A) : Type 0 where
  pub small : c.value < 2 ^ 48
  pub same : back c ≡ x

-- what a cell keeps is read where its bytes stand
pub kept_read : {A : Type 0} (t : List ℕ) (at : ℕ) (back : Cell → A) (c : Cell) (x : A) → CellKept back c x → BytesStand t at (cell_bytes c)
    → back (cell_at t at) ≡ x
kept_read t at back c x kept s = rw (cell-read t at c kept.small s) kept.same

-- the place of a string or substring
pub part_cell_place : (kind : ℕ) (p : Part) → (part_cell kind p).place ≡ place_of p
unfolding part_cell cell_for spell_part place_of
part_cell_place kind (whole s) = refl
part_cell_place kind (first s (constantly z)) = refl
part_cell_place kind (first s (numbered i)) = refl

-- parts and fillers have no literal bytes
pub part_literal : (p : Part) → literal_in (value (part p)) ≡ []
unfolding literal_in
part_literal (whole s) = refl
part_literal (first s (constantly z)) = refl
part_literal (first s (numbered i)) = refl

pub fixed_literal : (s : ℕ) (n : Length) → literal_in (fixed_filler s n) ≡ []
unfolding literal_in
fixed_literal s (constantly z) = refl
fixed_literal s (numbered i) = refl

-- the kind and the place of a cell are bytes
pub record SmallCell (c : Cell) : Type 0 where
  pub kind : c.kind < 256
  pub place : c.place < 256

-- no bytes stand anywhere
nothing_stands : (t : List ℕ) (at : ℕ) {bs : List ℕ} → bs ≡ [] → BytesStand t at bs
nothing_stands t at e = record { behind = drop at t; here = ap (λ (l : List ℕ). l ++ drop at t) (sym e) }

module _ (e : Edition) (strings numbers steps : ℕ) where
  -- where a cell's value holds, so does what comes before it
  pub value_front : (b : Bool) (v : Valuing) (w : Payload v) → value_holds e strings numbers steps b v w ≡ true → b ≡ true
  unfolding value_holds
  value_front b no_value w h = h
  value_front b natural w h = (both_true b (is_in_range e w && not (is_negative w)) h).0
  value_front b signed w h = (both_true b (is_in_range e w) h).0
  value_front b placed w h = (both_true b (ltb w numbers) h).0
  value_front b spelt w h = (both_true b (not (is_nil w)) h).0

-- what is in range in a program of so many strings, numbers and steps
module _ (e : Edition) (strings numbers steps : ℕ) (few : numbers ≤ 32) where
  place_small : strings ≤ 32 → (c : Counting) (p : ℕ) → place_holds e strings numbers steps c p ≡ true → p < 256
  unfolding place_holds
  place_small short no_place p h = omega (arith, eqb-true p 0 h)
  place_small short of_string p h = omega (arith, ltb-true p strings h)
  place_small short of_number p h = omega (arith, ltb-true p numbers h)

  -- the cell of what holds has bytes for kind and place
  pub class_small : strings ≤ 32 → {A : Type 0} {ks : List (CellKind A)} {spell : A → Spelled A} → KindClass ks spell → (at : ℕ) (x : A)
      → holds e strings numbers steps (spell x) ≡ true → SmallCell (cell_for at (spell x))
  unfolding holds cell_for
  class_small short {A} {ks} {spell} class at x h =
      let s = spell x in
      let k = s.kind in
      record {
        kind = found_small ks k.number k class.small (class.spells x).finds;
        place =
            place_small short k.counting s.place
            (value_front e strings numbers steps (place_holds e strings numbers steps k.counting s.place) k.valuing s.payload h);
      }

  module _ (limit : e.limit < bias) where
    -- an integer in range is small enough
    in_range_small : (z : ℤ) → is_in_range e z ≡ true → nat_abs z < bias
    unfolding is_in_range
    in_range_small z h = omega (arith, leb-true (nat_abs z) e.limit h)

    -- a value that holds has 6 bytes and is read back, where its literal bytes stand at their place among all literal bytes
    value_kept : (b : Bool) (t : List ℕ) (at : ℕ) (v : Valuing) (w : Payload v) → value_holds e strings numbers steps b v w ≡ true
        → BytesStand t (literals_at + at) (literal_of v w) → at + length (literal_of v w) < 2 ^ 16
        → (payload_value at v w < 2 ^ 48) × (payload_in t v (payload_value at v w) ≡ w)
    unfolding value_holds payload_value literal_of payload_in
    value_kept b t at no_value w h s inside = (omega arith, refl)
    value_kept b t at natural w h s inside =
        let small = in_range_small w (both_true (is_in_range e w) (not (is_negative w)) (both_true b (is_in_range e w && not (is_negative w)) h).1).0 in
        (biased_small w small, unbiased-biased w small)
    value_kept b t at signed w h s inside =
        let small = in_range_small w (both_true b (is_in_range e w) h).1 in
        (biased_small w small, unbiased-biased w small)
    value_kept b t at placed w h s inside = (omega (arith, ltb-true w numbers (both_true b (ltb w numbers) h).1), refl)
    value_kept b t at spelt w h s inside =
        let ranges = range_read at (length w) 0 (omega arith) (omega arith) (omega arith) in
        (ranges.small, rw (ranges.first, ranges.second, bytes_read t (literals_at + at) w s))

    -- What holds is kept by its cell.
    pub class_kept : {A : Type 0} {ks : List (CellKind A)} {spell : A → Spelled A} → KindClass ks spell → (other : A) (t : List ℕ) (at : ℕ) (x : A)
        → holds e strings numbers steps (spell x) ≡ true
        → BytesStand t (literals_at + at) (literal_of (spell x).kind.valuing (spell x).payload)
        → at + length (literal_of (spell x).kind.valuing (spell x).payload) < 2 ^ 16
        → CellKept (read_cell other ks t) (cell_for at (spell x)) x
    unfolding holds cell_for
    class_kept {A} {ks} {spell} class other t at x h stands inside =
        let s = spell x in
        let k = s.kind in
        let own =
        value_kept (place_holds e strings numbers steps k.counting s.place) t at k.valuing s.payload h stands inside in
        record {
          small = own.0;
          same =
              read_found other ks k t (cell_for at s) (class.spells x).finds
              ∙ ap (λ (w : Payload k.valuing). k.make s.place w) own.1
              ∙ (class.spells x).makes;
        }

    -- and by a cell that has no literal bytes
    plain-kept : {A : Type 0} {ks : List (CellKind A)} {spell : A → Spelled A} → KindClass ks spell → all_plain ks ≡ true → (other x : A)
        → holds e strings numbers steps (spell x) ≡ true → CellKept (read_cell other ks []) (cell_for 0 (spell x)) x
    plain-kept {A} {ks} {spell} class plain other x h =
        let s = spell x in
        let empty = found_plain ks s.kind.number s.kind plain (class.spells x).finds s.payload in
        class_kept class other [] 0 x h (nothing_stands [] (literals_at + 0) empty) (rw empty (omega arith))

    pub part_kept : (p : Part) → part_holds e strings numbers steps p ≡ true → CellKept (part_of_cell parts) (part_cell parts p) p
    unfolding part_holds part_of_cell part_cell
    part_kept = plain-kept part_class part_plain other_part

    pub operand_kept : (a : Operand) → operand_holds e strings numbers steps a ≡ true → CellKept operand_of_cell (operand_cell a) a
    unfolding operand_holds operand_of_cell operand_cell
    operand_kept = plain-kept operand_class operand_plain (number_of other_part)

    pub item_kept : (x : Item) → item_holds e strings numbers steps x ≡ true → CellKept item_of_cell (item_cell x) x
    unfolding item_holds item_of_cell item_cell
    item_kept = plain-kept item_class item_plain (operand (number_of other_part))

    pub element-kept : (t : List ℕ) (at : ℕ) (x : Element) → element_holds e strings numbers steps x ≡ true
        → BytesStand t (literals_at + at) (literal_in (value x)) → at + length (literal_in (value x)) < 2 ^ 16
        → CellKept (element_of_cell t) (element_cell at x) x
    unfolding element_holds element_of_cell element_cell literal_in spell_pattern
    element-kept = class_kept element_class (part other_part)

    pub pattern-kept : (t : List ℕ) (at : ℕ) (x : PatternElement) → pattern_holds e strings numbers steps x ≡ true
        → BytesStand t (literals_at + at) (literal_in x) → at + length (literal_in x) < 2 ^ 16 → CellKept (pattern_of_cell t) (pattern_cell at x) x
    unfolding pattern_holds pattern_of_cell pattern_cell literal_in
    pattern-kept = class_kept pattern_class (value (part other_part))
