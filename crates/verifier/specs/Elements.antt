-- The tests of elements one behind the other ask for what the rules say: their cells stand at their places and hold, and their literal
-- bytes follow one another. Assumes nothing.
use Rattle.std.specs.Prelude.{Bool, false, ◌&&◌, not, ◌≡◌, get_or, Option, Some, None, option_and_then}
use Rattle.std.proofs.Math.Bool.{true, cond}
use Rattle.std.proofs.lemmas.Bool.{false≢true}
use mathlib.Core.List.{List, [], ◌∷◌, map}
use Rattle.std.proofs.Math.Path.{refl, sym, ap, subst}
use Rattle.std.proofs.Common.{◌∙◌}
use Rattle.std.proofs.lemmas.Option.{none-some, same_Some}
use Prim.Native.Nat.{ℕ, zero, suc, ◌+◌, ◌*◌, ◌≤◌, ◌<◌}
use native.Mathlib.Omega.{arith}
use Rattle.std.proofs.Math.Dec.{leb, eqb}
use Rattle.std.proofs.Math.ListN.{length, length-append}
use borrow.Author.Tests.{leb-true, eqb-true, le-leb, eq-eqb}
use Rattle.base.specs.Choice.{test_cases, cond_cases, both_true, both_pass}
use Rattle.base.specs.Current.{current, table_size}
use Rattle.base.specs.Lists.{all, is_nil}
use Rattle.syntax.specs.Program.{PatternElement}
use Rattle.encoding.specs.CellLaws.{cell-read, range_read, class_kept}
use Rattle.encoding.specs.Conditions.{current-limit}
use Rattle.encoding.specs.KindLaws.{KindClass}
use Rattle.encoding.specs.Kinds.{Valuing, no_value, natural, signed, placed, spelt, Payload, CellKind, Spelled}
use Rattle.encoding.specs.Rules.{place_holds, value_holds, holds}
use Rattle.encoding.specs.Table.{Cell, cell_bytes, range_value, payload_value, literal_of, cell_for, pattern_cell, literal_in, all_literals, elements_at, literals_at}
use Rattle.encoding.specs.TableReading.{cell_at, range_from, range_count, read_cell}
use Rattle.verifier.specs.CellTests.{own_length, value_asked, asked_test, cell_test, told_by_kinds, LiteralFits, cell-found, class_back, class_forth}
use Rattle.verifier.specs.Asked.{CellAsks, cell_asked}
use Rattle.verifier.specs.Same.{SameElements}
use Rattle.verifier.specs.Written.{piece, cell-written, piece_stands}

-- a literal that stands at a place has a byte, and its range says where; all of it lies among the literals
unfoldable pub stands_test : Valuing → (at value : ℕ) → Bool
stands_test no_value at v = true
stands_test natural at v = true
stands_test signed at v = true
stands_test placed at v = true
stands_test spelt at v = leb 1 (range_count v) && eqb v (at + 65_536 * range_count v)

unfoldable pub literal_test : Valuing → (at value : ℕ) → Bool
literal_test w at v = stands_test w at v && leb (at + own_length w v) 4096

literal_tests : (t : List ℕ) (at v : ℕ) (w : Valuing) → table_size ≤ length t → literal_test w at v ≡ true
    → LiteralFits t at w v × (at + own_length w v ≤ 4096)
unfolding literal_test stands_test own_length range_value range_from literals_at
literal_tests t at v w room h =
    let both = both_true (stands_test w at v) (leb (at + own_length w v) 4096) h in
    let inside = leb-true (at + own_length w v) 4096 both.1 in
    (by w both.0 inside, inside)
  where
    by : (w : Valuing) → stands_test w at v ≡ true → at + own_length w v ≤ 4096 → LiteralFits t at w v
    by no_value h i = tt
    by natural h i = tt
    by signed h i = tt
    by placed h i = tt
    by spelt h i =
        let parts = both_true (leb 1 (range_count v)) (eqb v (at + 65_536 * range_count v)) h in
        let some = leb-true 1 (range_count v) parts.0 in
        let is = eqb-true v (at + 65_536 * range_count v) parts.1 in
        (some, omega (arith, is), omega (arith, is, i), omega (arith, i, room))

range_sum : (at n : ℕ) → range_value at n 0 ≡ at + 65_536 * n
unfolding range_value
range_sum at n = omega arith

-- the literal of a value that holds passes
some_length : (w : List ℕ) → not (is_nil w) ≡ true → 1 ≤ length w
unfolding is_nil
some_length [] h = absurd (false≢true h)
some_length (b ∷ bs) h = omega arith

literal_passes : (strings numbers steps : ℕ) (b : Bool) (at : ℕ) (v : Valuing) (w : Payload v)
    → value_holds current strings numbers steps b v w ≡ true → at + length (literal_of v w) ≤ 4096
    → (literal_test v at (payload_value at v w) ≡ true) × (own_length v (payload_value at v w) ≡ length (literal_of v w))
unfolding literal_test stands_test own_length payload_value literal_of value_holds
literal_passes strings numbers steps b at no_value w h i = (le-leb (at + 0) 4096 i, refl)
literal_passes strings numbers steps b at natural w h i = (le-leb (at + 0) 4096 i, refl)
literal_passes strings numbers steps b at signed w h i = (le-leb (at + 0) 4096 i, refl)
literal_passes strings numbers steps b at placed w h i = (le-leb (at + 0) 4096 i, refl)
literal_passes strings numbers steps b at spelt w h i =
    let some = some_length w (both_true b (not (is_nil w)) h).1 in
    let ranges = range_read at (length w) 0 (omega arith) (omega arith) (omega arith) in
    let is = range_sum at (length w) in
    rw (ranges.second, le-leb 1 (length w) some, le-leb (at + length w) 4096 i, eq-eqb (range_value at (length w) 0) (at + 65_536 * length w) is) (refl, refl)

module _ (strings numbers steps : ℕ) where
  -- the place behind the literal of an element whose kind goes up to high, and behind so many of them, from element k on; none where an
  -- element breaks a rule
  unfoldable pub element_test : (high at : ℕ) → Cell → Bool
  element_test high at c = cell_test strings numbers 64 high c && literal_test (value_asked (cell_asked c.kind)) at c.value

  unfoldable pub element_end : (high at : ℕ) → Cell → Option ℕ
  element_end high at c = cond (element_test high at c) (Some (at + own_length (value_asked (cell_asked c.kind)) c.value)) None

  unfoldable pub elements_end : (high : ℕ) → List ℕ → (k at count : ℕ) → Option ℕ
  elements_end high t k at zero = Some at
  elements_end high t k at (suc m) = option_and_then (λ end. elements_end high t (k + 1) end m) (element_end high at (cell_at t (elements_at + 8 * k)))

  -- the tests of an element one by one
  element_tests : (t : List ℕ) (high at : ℕ) (c : Cell) → element_test high at c ≡ true
      → (cell_test strings numbers 64 high c ≡ true) × (literal_test (value_asked (cell_asked c.kind)) at c.value ≡ true)
  unfolding element_test
  element_tests t high at c h = both_true (cell_test strings numbers 64 high c) (literal_test (value_asked (cell_asked c.kind)) at c.value) h

  -- the place behind an element that passes, and one that doesn't
  pub element_ends : (high at : ℕ) (c : Cell)
      → (cell_test strings numbers 64 high c && literal_test (value_asked (cell_asked c.kind)) at c.value) ≡ true
      → element_end high at c ≡ Some (at + own_length (value_asked (cell_asked c.kind)) c.value)
  unfolding element_end element_test
  element_ends high at c h = rw h

  pub element_breaks : (high at : ℕ) (c : Cell)
      → (cell_test strings numbers 64 high c && literal_test (value_asked (cell_asked c.kind)) at c.value) ≡ false → element_end high at c ≡ None
  unfolding element_end element_test
  element_breaks high at c h = rw h

  pub element_other : (high at : ℕ) (c : Cell) → None ≡ cell_asked c.kind → None ≡ element_end high at c
  unfolding element_end cell_test asked_test
  element_other high at c e =
      cond_cases (λ (x : Option ℕ). None ≡ x) (element_test high at c)
      (λ h.
      let tested = both_true (leb 64 c.kind && leb c.kind high) (asked_test strings numbers (cell_asked c.kind) c) (element_tests [] high at c h).0 in
      absurd (false≢true (subst (λ (o : Option CellAsks). asked_test strings numbers o c ≡ true) (sym e) tested.1)))
      (λ h. refl)

  pub element_inside : (high at : ℕ) (c : Cell)
      → (cell_test strings numbers 64 high c && literal_test (value_asked (cell_asked c.kind)) at c.value) ≡ true
      → at + own_length (value_asked (cell_asked c.kind)) c.value ≤ 4096
  unfolding literal_test
  element_inside high at c h =
      let v = value_asked (cell_asked c.kind) in
      let passes = cell_test strings numbers 64 high c in
      let both = both_true passes (stands_test v at c.value && leb (at + own_length v c.value) 4096) h in
      leb-true (at + own_length v c.value) 4096 (both_true (stands_test v at c.value) (leb (at + own_length v c.value) 4096) both.1).1

  -- Elements of a class whose kinds go up to high, each an element of a pattern by f; from reads so many of them.
  module _ {A : Type 0} {ks : List (CellKind A)} {spell : A → Spelled A} (class : KindClass ks spell) (count high : ℕ)
      (tells : told_by_kinds ks 64 count ≡ true) (most : high < 64 + count) (other : A) (f : A → PatternElement)
      (cells : (at : ℕ) (x : A) → pattern_cell at (f x) ≡ cell_for at (spell x))
      (literals : (x : A) → literal_in (f x) ≡ literal_of (spell x).kind.valuing (spell x).payload) where
    abbrev ok : A → Bool
    ok x = holds current strings numbers steps (spell x)

    pub record ElementsBack (t : List ℕ) (k at end : ℕ) (xs : List A) : Type 0 where
      pub same : SameElements t k at (map f xs)
      pub hold : all ok xs ≡ true
      pub last : at + length (all_literals (map f xs)) ≡ end

    module _ (t : List ℕ) (bytes : (i : ℕ) → get_or t i 0 < 256) (room : table_size ≤ length t) (from : ℕ → ℕ → List A)
        (none : (k : ℕ) → from k 0 ≡ [])
        (next : (k m : ℕ) → from k (suc m) ≡ read_cell other ks t (cell_at t (elements_at + 8 * k)) ∷ from (k + 1) m) where
      pub elements-back : (k at m end : ℕ) → k + m ≤ 1024 → elements_end high t k at m ≡ Some end → ElementsBack t k at end (from k m)
      unfolding elements_end element_end all all_literals elements_at value_asked
      elements-back k at zero end inside e =
          subst (ElementsBack t k at end) (sym (none k)) (record { same = tt; hold = refl; last = omega (arith, same_Some at end e) })
      elements-back k at (suc m) end inside e =
          let c = cell_at t (elements_at + 8 * k) in
          let x = read_cell other ks t c in
          let xs = from (k + 1) m in
          let own = own_length (value_asked (cell_asked c.kind)) c.value in
          subst (ElementsBack t k at end) (sym (next k m))
          (test_cases (λ b. element_test high at c ≡ b → option_and_then (λ j. elements_end high t (k + 1) j m) (cond b (Some (at + own)) None) ≡ Some end
          → ElementsBack t k at end (x ∷ xs))
          (element_test high at c)
          (λ _ h g.
          let tests = element_tests t high at c h in
          let found = cell-found strings numbers steps class 64 count high tells most c tests.0 in
          let asks : value_asked (cell_asked c.kind) ≡ found.kind.valuing = ap value_asked found.asks in
          let fit = literal_tests t at c.value found.kind.valuing room (subst (λ (v : Valuing). literal_test v at c.value ≡ true) asks tests.1) in
          let back = class_back strings numbers steps class 64 count high tells most other t at c found fit.0 in
          let size : length (literal_in (f x)) ≡ own = ap length (literals x) ∙ back.own in
          let rest = elements-back (k + 1) (at + own) m end (omega arith) g in
          let piece_is : literal_in (f x) ≡ piece t (literals_at + at) (length (literal_in (f x))) =
          literals x ∙ back.bytes ∙ ap (λ (l : List ℕ). piece t (literals_at + at) (length l)) (sym (literals x)) in
          let others = subst (λ (n : ℕ). SameElements t (k + 1) (at + n) (map f xs)) (sym size) rest.same in
          record {
            same = (ap cell_bytes (cells at x ∙ back.same) ∙ cell-written t bytes (elements_at + 8 * k) (omega arith), piece_is, others);
            hold = both_pass back.hold rest.hold;
            last = omega (arith, size, rest.last, length-append (literal_in (f x)) (all_literals (map f xs)));
          })
          (λ _ h g. absurd (none-some end g)) refl e)

    -- elements that hold, where their cells stand at their places
    module _ (within : all (λ k. leb 64 k.number && leb k.number high) ks ≡ true) (few : numbers ≤ 32) (t : List ℕ) where
      -- the place behind one
      element_forth : (k at : ℕ) (x : A) → cell_bytes (pattern_cell at (f x)) ≡ piece t (elements_at + 8 * k) 8
          → literal_in (f x) ≡ piece t (literals_at + at) (length (literal_in (f x))) → ok x ≡ true → at + length (literal_in (f x)) ≤ 4096
          → element_end high at (cell_at t (elements_at + 8 * k)) ≡ Some (at + length (literal_in (f x)))
      unfolding element_end element_test holds cell_for value_asked
      element_forth k at x same bytes hold inside =
          let s = spell x in
          let c = cell_for at s in
          let place = elements_at + 8 * k in
          let size = ap length (literals x) in
          let passes = class_forth strings numbers steps class 64 count high tells most within at x hold (omega (arith, size, inside)) in
          let stands = piece_stands t (literals_at + at) (length (literal_in (f x))) (sym (literals x) ∙ bytes) in
          let kept = class_kept current strings numbers steps few current-limit class other t at x hold stands (omega (arith, size, inside)) in
          let read : cell_at t place ≡ c = cell-read t place c kept.small (piece_stands t place 8 (ap cell_bytes (sym (cells at x)) ∙ same)) in
          let asks : value_asked (cell_asked s.kind.number) ≡ s.kind.valuing = ap value_asked passes.1 in
          let own =
          literal_passes strings numbers steps (place_holds current strings numbers steps s.kind.counting s.place) at s.kind.valuing
          s.payload hold (omega (arith, size, inside)) in
          rw (read, passes.0, asks, own.0) (ap (λ (n : ℕ). Some (at + n)) (own.1 ∙ sym size))

      pub elements_forth : (xs : List A) (k at : ℕ) → SameElements t k at (map f xs) → all ok xs ≡ true
          → at + length (all_literals (map f xs)) ≤ 4096 → elements_end high t k at (length xs) ≡ Some (at + length (all_literals (map f xs)))
      unfolding elements_end all all_literals
      elements_forth [] k at same hold inside = ap Some (omega arith)
      elements_forth (x ∷ xs) k at same hold inside =
          let count = length-append (literal_in (f x)) (all_literals (map f xs)) in
          let g = both_true (ok x) (all ok xs) hold in
          let one = element_forth k at x same.0 same.1 g.0 (omega arith) in
          ap (option_and_then (λ end. elements_end high t (k + 1) end (length xs))) one
          ∙ elements_forth xs (k + 1) (at + length (literal_in (f x))) same.2 g.1 (omega arith)
          ∙ ap Some (omega arith)
