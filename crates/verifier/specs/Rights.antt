-- The right cell of a row with its items and elements, and the whole row: the tests ask for what the rules say. Assumes nothing.
use Rattle.std.specs.Prelude.{Bool, true, false, ◌&&◌, ◌≡◌, ℕ, ◌+◌, ◌≤◌, ◌<◌, leb, get_or, replicate, Option, Some, None, option_and_then}
use Rattle.std.proofs.Math.Bool.{cond}
use mathlib.Core.List.{List, [], ◌∷◌, ◌++◌, map}
use Rattle.std.proofs.Math.Path.{refl, sym, ap, subst}
use Rattle.std.proofs.Common.{◌∙◌, arith}
use Rattle.std.proofs.lemmas.Option.{none-some, same_Some, option_and_then_some}
use Rattle.std.proofs.Math.Dec.{eqb}
use Rattle.std.proofs.Math.ListN.{length, length-append, length-map}
use borrow.Author.Tests.{leb-true, eqb-true, le-leb, eq-eqb}
use Rattle.base.specs.Choice.{test_cases, both_true, both_pass}
use Rattle.base.specs.Current.{current, table_size}
use Rattle.base.specs.Lists.{all}
use Rattle.syntax.specs.Program.{Item, Element, part, PatternElement, value}
use Rattle.encoding.specs.CellLaws.{range_read}
use Rattle.encoding.specs.KindLaws.{element_class, pattern_class}
use Rattle.encoding.specs.Kinds.{Righting, no_right, operand_right, items_right, elements_right, pattern_right, replacing_right, RightOf}
use Rattle.encoding.specs.Kinds.{range_number}
use Rattle.encoding.specs.ReadingLaws.{length-items, length-elements, length_patterns}
use Rattle.encoding.specs.RowLaws.{EachFrom}
use Rattle.encoding.specs.Rules.{operand_holds, item_holds, element_holds, pattern_holds, row_holds, patterns_hold, roles_hold, balanced, right_holds}
use Rattle.encoding.specs.Table.{Cell, cell, no_cell, range_cell, range_value, pattern_cell, literal_in, all_literals}
use Rattle.encoding.specs.Table.{right_elements, right_items, right_cell}
use Rattle.encoding.specs.TableReading.{range_from, range_count, range_more, other_part, element_of_cell, pattern_of_cell}
use Rattle.encoding.specs.TableReading.{read_items, read_elements, read_pattern, right_in}
use Rattle.encoding.specs.TableLiterals.{all-literals-append}
use Rattle.verifier.specs.CellTests.{cell_test}
use Rattle.verifier.specs.Classes.{elements_told, patterns_told, elements_within, patterns_within}
use Rattle.verifier.specs.Conjunctions.{four}
use Rattle.verifier.specs.Elements.{elements_end, elements-back, elements_forth}
use Rattle.verifier.specs.Items.{items_end, items_back, items_forth}
use Rattle.verifier.specs.Roles.{roles_test, no_marks, roles-tested, same-cells}
use Rattle.verifier.specs.Rows.{nothing_written, nothing_passes, range_written, range_passes, operand_written, operand_passes}
use Rattle.verifier.specs.Same.{ItemSame, SameElements, same-append}
use Rattle.verifier.specs.Split.{same-front, same_back}
use Rattle.encoding.specs.declared.cells.Counts.{Counts}
use Rattle.verifier.specs.declared.steps.Places.{Places}
use Rattle.verifier.specs.declared.steps.Stretches.{Stretches}
use Rattle.verifier.specs.Tests.{right_test, stretches, stretches_of, start_test, most_more, last_kind, waiting_left, pattern_test, stretches_test}
use Rattle.verifier.specs.Tests.{places, literals_end, cells_end, FewCounts}

-- a range is made of its three numbers
range_made : (v : ℕ) → range_value (range_from v) (range_count v) (range_more v) ≡ v
unfolding range_value range_from range_count range_more
range_made v = omega arith

-- elements by themselves are those of a pattern
map_same : {A : Type 0} (xs : List A) → map (λ x. x) xs ≡ xs
map_same [] = refl
map_same (x ∷ xs) = ap (λ ys. x ∷ ys) (map_same xs)

-- places that are equal number by number
pub places_same : {e e' i i' l l' : ℕ} → e ≡ e' → i ≡ i' → l ≡ l' → places e i l ≡ places e' i' l'
unfolding places
places_same e i l = λ k. record { elements = e k; items = i k; literals = l k }

module _ (n : Counts) where
  -- the tests of stretches one by one
  pub stretches_tests : (p : Places) (r : Righting) (s : Stretches) → stretches_test n p r s ≡ true
      → (s.more ≤ most_more r) × (s.first ≤ 20) × (p.elements + s.first + s.more ≤ n.elements) × (p.items + s.items ≤ n.items)
  unfolding stretches_test
  stretches_tests p r s h =
      let f = four (leb s.more (most_more r)) (leb s.first 20) (leb (p.elements + s.first + s.more) n.elements)
      (leb (p.items + s.items) n.items) h in (
        leb-true s.more (most_more r) f.0,
        leb-true s.first 20 f.1,
        leb-true (p.elements + s.first + s.more) n.elements f.2,
        leb-true (p.items + s.items) n.items f.3,
      )

module _ (n : Counts) (few : FewCounts n) where
  abbrev items_ok : List Item → Bool
  items_ok = all (item_holds current n.strings n.numbers n.steps)

  -- so many elements, and so many of a pattern, read in a table of bytes
  module _ (t : List ℕ) (bytes : (i : ℕ) → get_or t i 0 < 256) (room : table_size ≤ length t) where
    pub record PatternRun (k at end : ℕ) (ys : List PatternElement) : Type 0 where
      pub same : SameElements t k at ys
      pub last : at + length (all_literals ys) ≡ end

    values-back : (k at m end : ℕ) → k + m ≤ 1024 → elements_end n.strings n.numbers n.steps 95 t k at m ≡ Some end
        → PatternRun k at end (map value (read_elements t k m))
        × (all (element_holds current n.strings n.numbers n.steps) (read_elements t k m) ≡ true)
    unfolding read_elements element_of_cell element_holds pattern_cell literal_in
    values-back k at m end inside e =
        let back =
        elements-back n.strings n.numbers n.steps element_class 32 95 elements_told (omega arith) (part other_part) value (λ at x. refl)
        (λ x. refl) t bytes room (read_elements t) (λ k. refl) (λ k m. refl) k at m end inside e in
        (record { same = back.same; last = back.last }, back.hold)

    patterns_back : (k at m end : ℕ) → k + m ≤ 1024 → elements_end n.strings n.numbers n.steps 111 t k at m ≡ Some end
        → PatternRun k at end (read_pattern t k m)
        × (all (pattern_holds current n.strings n.numbers n.steps) (read_pattern t k m) ≡ true)
    unfolding read_pattern pattern_of_cell pattern_holds pattern_cell literal_in
    patterns_back k at m end inside e =
        let back =
        elements-back n.strings n.numbers n.steps pattern_class 48 111 patterns_told (omega arith) (value (part other_part)) (λ x. x)
        (λ at x. refl) (λ x. refl) t bytes room (read_pattern t) (λ k. refl) (λ k m. refl) k at m end inside e in
        let whole : PatternRun k at end (map (λ x. x) (read_pattern t k m)) = record { same = back.same; last = back.last } in
        (subst (PatternRun k at end) (map_same (read_pattern t k m)) whole, back.hold)

    -- What the tests of a right cell come to.
    pub record RightBack (p q : Places) (reference : ℕ) (r : Righting) (c : Cell) (w : RightOf r) : Type 0 where
      pub same : right_cell p.elements p.items r w ≡ c
      pub hold : (b : Bool) → b ≡ true → right_holds current n.strings n.numbers n.steps b reference r w ≡ true
      pub elements : SameElements t p.elements p.literals (right_elements r w)
      pub items : EachFrom (ItemSame t) p.items (right_items r w)
      pub end :
          q
          ≡ places (p.elements + length (right_elements r w)) (p.items + length (right_items r w))
          (p.literals + length (all_literals (right_elements r w)))

    -- where there are places behind the cells: the items leave what they should, the roles hold, and the literals end somewhere
    module _ (p : Places) (r : Righting) (reference : ℕ) (s : Stretches) where
      record CellsBack (q : Places) : Type 0 where
        middle : ℕ
        last : ℕ
        left : items_end n.strings n.numbers n.steps t p.items 0 s.items ≡ Some (waiting_left r)
        roles : pattern_test r t reference p.elements s.first ≡ true
        first : elements_end n.strings n.numbers n.steps (last_kind r) t p.elements p.literals s.first ≡ Some middle
        second : elements_end n.strings n.numbers n.steps 95 t (p.elements + s.first) middle s.more ≡ Some last
        is : q ≡ places (p.elements + s.first + s.more) (p.items + s.items) last

      cells-back : (q : Places) → cells_end n t p r reference s ≡ Some q → CellsBack q
      unfolding cells_end literals_end
      cells-back q e =
          let two = pattern_test r t reference p.elements s.first in
          let here : ℕ → Option Places = λ l. Some (places (p.elements + s.first + s.more) (p.items + s.items) l) in
          let behind = literals_end n t p (last_kind r) s in
          option_and_then_some (λ known. cond (eqb known (waiting_left r) && two) (option_and_then here behind) None)
          (items_end n.strings n.numbers n.steps t p.items 0 s.items) q e
          (λ known is left.
          test_cases (λ b. (eqb known (waiting_left r) && two) ≡ b → cond b (option_and_then here behind) None ≡ Some q → CellsBack q)
          (eqb known (waiting_left r) && two)
          (λ _ h g.
          let both = both_true (eqb known (waiting_left r)) two h in
          option_and_then_some here behind q g
          (λ l ends made.
          option_and_then_some (λ middle. elements_end n.strings n.numbers n.steps 95 t (p.elements + s.first) middle s.more)
          (elements_end n.strings n.numbers n.steps (last_kind r) t p.elements p.literals s.first) l ends
          (λ middle first second.
          record {
            middle = middle;
            last = l;
            left = is ∙ ap Some (eqb-true known (waiting_left r) both.0);
            roles = both.1;
            first = first;
            second = second;
            is = sym (same_Some (places (p.elements + s.first + s.more) (p.items + s.items) l) q made);
          })))
          (λ _ h g. absurd (none-some q g)) refl left)

    -- a range cell by its numbers
    range_is : (p : Places) (c : Cell) (from count more : ℕ) → cell_test n.strings n.numbers range_number range_number c ≡ true
        → range_from c.value ≡ from → range_count c.value ≡ count → range_more c.value ≡ more → range_cell from count more ≡ c
    unfolding range_cell
    range_is p c from count more h e f g =
        ap (cell range_number 0) (sym (λ i. range_value (e i) (f i) (g i)) ∙ range_made c.value) ∙ (range_written n.strings n.numbers n.steps c h).0

    -- a pattern whose elements hold and whose roles pass
    pattern-holds : (k at reference : ℕ) (xs : List PatternElement) → length xs ≤ 20
        → all (pattern_holds current n.strings n.numbers n.steps) xs ≡ true → SameElements t k at xs → {m : ℕ} → length xs ≡ m
        → roles_test t reference (replicate 256 false) k m ≡ true → patterns_hold current n.strings n.numbers n.steps reference xs ≡ true
    unfolding patterns_hold
    pattern-holds k at reference xs short hold same count h =
        let tested = roles-tested t reference (replicate 256 false) [] k xs no_marks (same-cells t bytes k at xs same) in
        let roles = sym tested ∙ ap (roles_test t reference (replicate 256 false) k) count ∙ h in
        both_pass (le-leb (length xs) 20 short) (both_pass hold roles)

    pub right_back : (p q : Places) (reference : ℕ) (r : Righting) (c : Cell) → right_test n r c ≡ true → start_test p r c.value ≡ true
        → stretches_test n p r (stretches_of r c.value) ≡ true → cells_end n t p r reference (stretches_of r c.value) ≡ Some q
        → RightBack p q reference r c (right_in t r c)
    unfolding right_test start_test stretches_of stretches right_in right_cell right_holds right_elements right_items most_more last_kind waiting_left pattern_test
        elements_end items_end all_literals row_holds places
    right_back p q reference no_right c h start fits e =
        let own = cells-back p no_right reference (stretches 0 0 0) q e in
        record {
          same = nothing_written n.strings n.numbers n.steps c h;
          hold = λ b t. t;
          elements = tt;
          items = tt;
          end = own.is ∙ places_same (omega arith) (omega arith) (omega (arith, same_Some _ _ own.first, same_Some _ _ own.second));
        }
    right_back p q reference operand_right c h start fits e =
        let own = cells-back p operand_right reference (stretches 0 0 0) q e in
        let back = operand_written n.strings n.numbers n.steps c h in
        record {
          same = back.0;
          hold = λ b t. both_pass t back.1;
          elements = tt;
          items = tt;
          end = own.is ∙ places_same (omega arith) (omega arith) (omega (arith, same_Some _ _ own.first, same_Some _ _ own.second));
        }
    right_back p q reference items_right c h start fits e =
        let v = c.value in
        let s = stretches 0 (range_more v) (range_count v) in
        let own = cells-back p items_right reference s q e in
        let tests = stretches_tests n p items_right s fits in
        let back = items_back n.strings n.numbers n.steps t bytes room p.items 0 (range_count v) (omega (arith, tests.3, few.items)) own.left in
        let from = eqb-true (range_from v) p.items start in
        let xs = read_items t p.items (range_count v) in
        let count = length-items t p.items (range_count v) in
        let more : range_more v ≡ 0 = omega (arith, tests.0) in
        let last : own.middle ≡ own.last =
        same_Some _ _ (ap (elements_end n.strings n.numbers n.steps 95 t (p.elements + 0) own.middle) (sym more) ∙ own.second) in
        let read : xs ≡ read_items t (range_from v) (range_count v) = ap (λ (k : ℕ). read_items t k (range_count v)) (sym from) in
        subst (RightBack p q reference items_right c) read
        (record {
          same = range_is p c p.items (length xs) 0 h from (sym count) more;
          hold = λ b t. both_pass t (both_pass back.whole back.hold);
          elements = tt;
          items = back.same;
          end =
              own.is
              ∙ places_same (omega (arith, more)) (omega (arith, count)) (omega (arith, same_Some _ _ own.first, last));
        })
    right_back p q reference elements_right c h start fits e =
        let v = c.value in
        let k = p.elements in
        let s = stretches (range_count v) (range_more v) 0 in
        let own = cells-back p elements_right reference s q e in
        let tests = stretches_tests n p elements_right s fits in
        let more : range_more v ≡ 0 = omega (arith, tests.0) in
        let last : own.middle ≡ own.last =
        same_Some _ _ (ap (elements_end n.strings n.numbers n.steps 95 t (k + range_count v) own.middle) (sym more) ∙ own.second) in
        let back = values-back k p.literals (range_count v) own.middle (omega (arith, tests.2, few.elements)) own.first in
        let from = eqb-true (range_from v) k start in
        let xs = read_elements t k (range_count v) in
        let count = length-elements t k (range_count v) in
        let mapped = length-map xs value in
        subst (RightBack p q reference elements_right c) (ap (λ (j : ℕ). read_elements t j (range_count v)) (sym from))
        (record {
          same = range_is p c k (length xs) 0 h from (sym count) more;
          hold = λ b t. both_pass t (both_pass (le-leb (length xs) 20 (omega (arith, count, tests.1))) back.1);
          elements = back.0.same;
          items = tt;
          end = own.is ∙ places_same (omega (arith, more, count, mapped)) (omega arith) (sym last ∙ sym back.0.last);
        })
    right_back p q reference pattern_right c h start fits e =
        let v = c.value in
        let k = p.elements in
        let s = stretches (range_count v) (range_more v) 0 in
        let own = cells-back p pattern_right reference s q e in
        let tests = stretches_tests n p pattern_right s fits in
        let more : range_more v ≡ 0 = omega (arith, tests.0) in
        let last : own.middle ≡ own.last =
        same_Some _ _ (ap (elements_end n.strings n.numbers n.steps 95 t (k + range_count v) own.middle) (sym more) ∙ own.second) in
        let back = patterns_back k p.literals (range_count v) own.middle (omega (arith, tests.2, few.elements)) own.first in
        let from = eqb-true (range_from v) k start in
        let xs = read_pattern t k (range_count v) in
        let count = length_patterns t k (range_count v) in
        subst (RightBack p q reference pattern_right c) (ap (λ (j : ℕ). read_pattern t j (range_count v)) (sym from))
        (record {
          same = range_is p c k (length xs) 0 h from (sym count) more;
          hold = λ b t. both_pass t (pattern-holds k p.literals reference xs (omega (arith, count, tests.1)) back.1 back.0.same count own.roles);
          elements = back.0.same;
          items = tt;
          end = own.is ∙ places_same (omega (arith, more, count)) (omega arith) (sym last ∙ sym back.0.last);
        })
    right_back p q reference replacing_right c h start fits e =
        let v = c.value in
        let k = p.elements in
        let s = stretches (range_count v) (range_more v) 0 in
        let own = cells-back p replacing_right reference s q e in
        let tests = stretches_tests n p replacing_right s fits in
        let second = values-back (k + range_count v) own.middle (range_more v) own.last (omega (arith, tests.2, few.elements)) own.second in
        let back = patterns_back k p.literals (range_count v) own.middle (omega (arith, tests.2, few.elements)) own.first in
        let from = eqb-true (range_from v) k start in
        let xs = read_pattern t k (range_count v) in
        let ys = read_elements t (k + range_count v) (range_more v) in
        let count = length_patterns t k (range_count v) in
        let behind = length-elements t (k + range_count v) (range_more v) in
        let mapped = length-map ys value in
        let sum = length-append xs (map value ys) in
        let literals = ap length (all-literals-append xs (map value ys)) ∙ length-append (all_literals xs) (all_literals (map value ys)) in
        let moved : SameElements t (k + length xs) (p.literals + length (all_literals xs)) (map value ys) =
        subst (λ (j : ℕ). SameElements t j (p.literals + length (all_literals xs)) (map value ys)) (ap (λ (j : ℕ). k + j) (sym count))
        (subst (λ (j : ℕ). SameElements t (k + range_count v) j (map value ys)) (sym back.0.last) second.0.same) in
        subst (RightBack p q reference replacing_right c)
        (ap (λ (j : ℕ). (read_pattern t j (range_count v), read_elements t (j + range_count v) (range_more v))) (sym from))
        (record {
          same = range_is p c k (length xs) (length ys) h from (sym count) (sym behind);
          hold =
              λ b t.
              both_pass t
              (both_pass (pattern-holds k p.literals reference xs (omega (arith, count, tests.1)) back.1 back.0.same count own.roles)
              (both_pass (le-leb (length ys) 20 (omega (arith, behind, tests.0))) second.1));
          elements = same-append t k p.literals xs (map value ys) back.0.same moved;
          items = tt;
          end =
              own.is
              ∙ places_same (omega (arith, count, behind, mapped, sum)) (omega arith) (omega (arith, back.0.last, second.0.last, literals));
        })

    -- What the right cell of a row that holds comes to.
    pub record RightForth (p : Places) (reference : ℕ) (r : Righting) (w : RightOf r) : Type 0 where
      pub tested : right_test n r (right_cell p.elements p.items r w) ≡ true
      pub starts : start_test p r (right_cell p.elements p.items r w).value ≡ true
      pub fits : stretches_test n p r (stretches_of r (right_cell p.elements p.items r w).value) ≡ true
      pub end :
          cells_end n t p r reference (stretches_of r (right_cell p.elements p.items r w).value)
          ≡ Some
          (places (p.elements + length (right_elements r w)) (p.items + length (right_items r w))
          (p.literals + length (all_literals (right_elements r w))))

    values_forth : (xs : List Element) (k at : ℕ) → SameElements t k at (map value xs)
        → all (element_holds current n.strings n.numbers n.steps) xs ≡ true → at + length (all_literals (map value xs)) ≤ 4096
        → elements_end n.strings n.numbers n.steps 95 t k at (length xs) ≡ Some (at + length (all_literals (map value xs)))
    unfolding element_holds pattern_cell literal_in
    values_forth xs k at same hold inside =
        elements_forth n.strings n.numbers n.steps element_class 32 95 elements_told (omega arith) (part other_part) value (λ at x. refl)
        (λ x. refl) elements_within few.numbers t xs k at same hold inside

    patterns_forth : (xs : List PatternElement) (k at : ℕ) → SameElements t k at xs
        → all (pattern_holds current n.strings n.numbers n.steps) xs ≡ true → at + length (all_literals xs) ≤ 4096
        → elements_end n.strings n.numbers n.steps 111 t k at (length xs) ≡ Some (at + length (all_literals xs))
    unfolding pattern_holds pattern_cell literal_in
    patterns_forth xs k at same hold inside =
        let e = map_same xs in
        elements_forth n.strings n.numbers n.steps pattern_class 48 111 patterns_told (omega arith) (value (part other_part)) (λ x. x)
        (λ at x. refl) (λ x. refl) patterns_within few.numbers t xs k at (subst (SameElements t k at) (sym e) same) hold
        (subst (λ (ys : List PatternElement). at + length (all_literals ys) ≤ 4096) (sym e) inside)
        ∙ ap (λ (ys : List PatternElement). Some (at + length (all_literals ys))) e

    -- cells whose items and elements end as they should
    cells_forth : (p : Places) (r : Righting) (reference : ℕ) (s : Stretches) {e l middle : ℕ}
        → items_end n.strings n.numbers n.steps t p.items 0 s.items ≡ Some (waiting_left r)
        → pattern_test r t reference p.elements s.first ≡ true → p.elements + s.first + s.more ≡ e
        → elements_end n.strings n.numbers n.steps (last_kind r) t p.elements p.literals s.first ≡ Some middle
        → elements_end n.strings n.numbers n.steps 95 t (p.elements + s.first) middle s.more ≡ Some l
        → cells_end n t p r reference s ≡ Some (places e (p.items + s.items) l)
    unfolding cells_end literals_end
    cells_forth p r reference s left roles e first second =
        rw (left, eq-eqb (waiting_left r) (waiting_left r) refl, roles, first, second) (ap Some (places_same e refl refl))

    -- the stretches of a range
    fit_stretches : (p : Places) (r : Righting) (first more items : ℕ) → more ≤ most_more r → first ≤ 20 → p.elements + first + more ≤ n.elements
        → p.items + items ≤ n.items → stretches_test n p r (stretches first more items) ≡ true
    unfolding stretches_test stretches
    fit_stretches p r first more items a b c d =
        rw (le-leb more (most_more r) a, le-leb first 20 b, le-leb (p.elements + first + more) n.elements c, le-leb (p.items + items) n.items d)

    pattern-parts : (reference : ℕ) (xs : List PatternElement) → patterns_hold current n.strings n.numbers n.steps reference xs ≡ true
        → (length xs ≤ 20) × (all (pattern_holds current n.strings n.numbers n.steps) xs ≡ true) × (roles_hold reference [] xs ≡ true)
    unfolding patterns_hold
    pattern-parts reference xs h =
        let own = all (pattern_holds current n.strings n.numbers n.steps) xs in
        let roles = roles_hold reference [] xs in
        let one = both_true (leb (length xs) 20) (own && roles) h in
        let two = both_true own roles one.1 in
        (leb-true (length xs) 20 one.0, two.0, two.1)

    row-parts : (xs : List Element) → row_holds current n.strings n.numbers n.steps xs ≡ true
        → (length xs ≤ 20) × (all (element_holds current n.strings n.numbers n.steps) xs ≡ true)
    unfolding row_holds
    row-parts xs h =
        let both = both_true (leb (length xs) 20) (all (element_holds current n.strings n.numbers n.steps) xs) h in
        (leb-true (length xs) 20 both.0, both.1)

    roles_pass : (reference k at : ℕ) (xs : List PatternElement) → SameElements t k at xs → roles_hold reference [] xs ≡ true
        → roles_test t reference (replicate 256 false) k (length xs) ≡ true
    roles_pass reference k at xs same h = roles-tested t reference (replicate 256 false) [] k xs no_marks (same-cells t bytes k at xs same) ∙ h

    pub right_forth : (b : Bool) (p : Places) (reference : ℕ) (r : Righting) (w : RightOf r)
        → right_holds current n.strings n.numbers n.steps b reference r w ≡ true
        → SameElements t p.elements p.literals (right_elements r w) → EachFrom (ItemSame t) p.items (right_items r w)
        → p.elements + length (right_elements r w) ≤ n.elements → p.items + length (right_items r w) ≤ n.items
        → p.literals + length (all_literals (right_elements r w)) ≤ 4096 → RightForth p reference r w
    unfolding right_test start_test stretches_of stretches right_cell range_cell no_cell right_holds right_elements right_items most_more last_kind waiting_left
        pattern_test elements_end items_end all_literals
    right_forth b p reference no_right w h es is e i l =
        record {
          tested = nothing_passes n.strings n.numbers n.steps;
          starts = refl;
          fits = fit_stretches p no_right 0 0 0 (omega arith) (omega arith) (omega arith) (omega arith);
          end = cells_forth p no_right reference (stretches 0 0 0) refl refl (omega arith) refl (ap Some (omega arith));
        }
    right_forth b p reference operand_right w h es is e i l =
        record {
          tested = operand_passes n.strings n.numbers n.steps w (both_true b (operand_holds current n.strings n.numbers n.steps w) h).1;
          starts = refl;
          fits = fit_stretches p operand_right 0 0 0 (omega arith) (omega arith) (omega arith) (omega arith);
          end = cells_forth p operand_right reference (stretches 0 0 0) refl refl (omega arith) refl (ap Some (omega arith));
        }
    right_forth b p reference items_right w h es is e i l =
        let ranges = range_read p.items (length w) 0 (omega (arith, few.items)) (omega (arith, few.items)) (omega arith) in
        let holds = both_true (balanced 0 w) (items_ok w) (both_true b (balanced 0 w && items_ok w) h).1 in
        let left = items_forth n.strings n.numbers n.steps few.numbers t p.items 0 w (omega arith) is holds.1 holds.0 in
        record {
          tested = range_passes n.strings n.numbers n.steps (range_value p.items (length w) 0) ranges.small;
          starts = eq-eqb (range_from (range_value p.items (length w) 0)) p.items ranges.first;
          fits = rw (ranges.second, ranges.third) (fit_stretches p items_right 0 0 (length w) (omega arith) (omega arith) (omega arith) i);
          end = rw (ranges.second, ranges.third) (cells_forth p items_right reference (stretches 0 0 (length w)) left refl (omega arith) refl (ap Some (omega arith)));
        }
    right_forth b p reference elements_right w h es is e i l =
        let mapped = length-map w value in
        let ranges = range_read p.elements (length w) 0 (omega (arith, few.elements)) (omega (arith, few.elements)) (omega arith) in
        let parts = row-parts w (both_true b (row_holds current n.strings n.numbers n.steps w) h).1 in
        let walked = values_forth w p.elements p.literals es parts.1 l in
        record {
          tested = range_passes n.strings n.numbers n.steps (range_value p.elements (length w) 0) ranges.small;
          starts = eq-eqb (range_from (range_value p.elements (length w) 0)) p.elements ranges.first;
          fits = rw (ranges.second, ranges.third) (fit_stretches p elements_right (length w) 0 0 (omega arith) parts.0 (omega arith) (omega arith));
          end =
              rw (ranges.second, ranges.third)
              (cells_forth p elements_right reference (stretches (length w) 0 0) refl refl (omega (arith, mapped)) walked refl);
        }
    right_forth b p reference pattern_right w h es is e i l =
        let ranges = range_read p.elements (length w) 0 (omega (arith, few.elements)) (omega (arith, few.elements)) (omega arith) in
        let parts = pattern-parts reference w (both_true b (patterns_hold current n.strings n.numbers n.steps reference w) h).1 in
        let walked = patterns_forth w p.elements p.literals es parts.1 l in
        let roles = roles_pass reference p.elements p.literals w es parts.2 in
        record {
          tested = range_passes n.strings n.numbers n.steps (range_value p.elements (length w) 0) ranges.small;
          starts = eq-eqb (range_from (range_value p.elements (length w) 0)) p.elements ranges.first;
          fits = rw (ranges.second, ranges.third) (fit_stretches p pattern_right (length w) 0 0 (omega arith) parts.0 (omega arith) (omega arith));
          end =
              rw (ranges.second, ranges.third) (cells_forth p pattern_right reference (stretches (length w) 0 0) refl roles (omega arith) walked refl);
        }
    right_forth b p reference replacing_right w h es is e i l =
        let xs = w.0 in
        let ys = w.1 in
        let mapped = length-map ys value in
        let sum = length-append xs (map value ys) in
        let literals = ap length (all-literals-append xs (map value ys)) ∙ length-append (all_literals xs) (all_literals (map value ys)) in
        let ranges = range_read p.elements (length xs) (length ys) (omega (arith, few.elements)) (omega (arith, few.elements)) (omega (arith, few.elements)) in
        let pattern = patterns_hold current n.strings n.numbers n.steps reference xs in
        let row = row_holds current n.strings n.numbers n.steps ys in
        let both = both_true pattern row (both_true b (pattern && row) h).1 in
        let parts = pattern-parts reference xs both.0 in
        let more = row-parts ys both.1 in
        let front = same-front t p.elements p.literals xs (map value ys) es in
        let back = same_back t p.elements p.literals xs (map value ys) es in
        let one = patterns_forth xs p.elements p.literals front parts.1 (omega arith) in
        let two = values_forth ys (p.elements + length xs) (p.literals + length (all_literals xs)) back more.1 (omega arith) in
        let roles = roles_pass reference p.elements p.literals xs front parts.2 in
        let all_of : p.literals + length (all_literals xs) + length (all_literals (map value ys)) ≡ p.literals + length (all_literals (xs ++ map value ys)) =
        omega (arith, literals) in
        record {
          tested = range_passes n.strings n.numbers n.steps (range_value p.elements (length xs) (length ys)) ranges.small;
          starts = eq-eqb (range_from (range_value p.elements (length xs) (length ys))) p.elements ranges.first;
          fits =
              rw (ranges.second, ranges.third)
              (fit_stretches p replacing_right (length xs) (length ys) 0 more.0 parts.0 (omega arith) (omega arith));
          end =
              rw (ranges.second, ranges.third)
              (cells_forth p replacing_right reference (stretches (length xs) (length ys) 0) refl roles (omega (arith, mapped, sum)) one (two ∙ ap Some all_of));
        }
