-- The tests of a whole row ask for what the rules say of its statement. Assumes nothing.
use Rattle.std.proofs.Math.Bool.{true}
use Rattle.std.specs.Prelude.{◌&&◌, List, ◌≡◌, refl, ℕ, ◌+◌, ◌^◌, ◌≤◌, ◌<◌, eqb, length, get_or, Option as Found, Some, None, cond, option_and_then}
use Rattle.std.proofs.Math.Option.{Option, none, some}
use Rattle.std.proofs.Math.Path.{sym, ap, subst}
use Rattle.std.proofs.Common.{◌∙◌, arith}
use Rattle.std.proofs.lemmas.Bool.{false≢true}
use Rattle.std.proofs.lemmas.Option.{none-some}
use Rattle.std.proofs.Math.Dec.{leb, ltb}
use borrow.Author.Tests.{ltb-true, eqb-true}
use Rattle.base.specs.Choice.{test_cases, both_true}
use Rattle.base.specs.Current.{current, table_size}
use Rattle.syntax.specs.Program.{Statement}
use Rattle.encoding.specs.KindLaws.{row_in, row-found, row_number, row_respells, rows_respell, row_spells}
use Rattle.encoding.specs.Kinds.{Lefting, no_left, number_left, string_left, part_left, operand_left, nothing_number, range_number, parts}
use Rattle.encoding.specs.Kinds.{Righting, no_right, operand_right, items_right, elements_right, pattern_right, replacing_right}
use Rattle.encoding.specs.Kinds.{Stepping, no_step, one_step, both_steps, RowKind, row_kinds, SpelledRow, spell_statement}
use Rattle.encoding.specs.RowLaws.{EachFrom, RowFits}
use Rattle.encoding.specs.RuleLaws.{steps_front, right_front}
use Rattle.encoding.specs.Rules.{left_holds, right_holds, steps_hold, left_place, statement_holds}
use Rattle.encoding.specs.Table.{Cell, Row, success_of, failure_of, left_cell, right_cell, right_elements, right_items, row_for, statement_row}
use Rattle.encoding.specs.Table.{elements_of, items_of, all_literals}
use Rattle.encoding.specs.TableReading.{flag_in, steps_in, left_in, right_in, statement_of_row}
use Rattle.encoding.specs.Kinds.{Valuing, no_value, natural, signed, placed, spelt}
use Rattle.verifier.specs.Asked.{CellAsks, cell_asked, RowAsks, row_asks, row_asked}
use Rattle.verifier.specs.CellTests.{cell_test, asked_test, fit_test, place_bound, value_low, value_bound}
use Rattle.verifier.specs.Conjunctions.{three, four}
use Rattle.verifier.specs.Rights.{right_back, right_forth}
use Rattle.verifier.specs.Rows.{flag_written, flag_passes, steps-written, steps_hold_lem, steps_pass, left-written, left-passes}
use Rattle.verifier.specs.Same.{ItemSame, SameElements}
use Rattle.encoding.specs.declared.cells.Counts.{Counts}
use Rattle.verifier.specs.declared.steps.Places.{Places}
use Rattle.verifier.specs.Tests.{flag_test, steps_test, left_test, right_test, start_test, stretches_of, stretches_test, cells_end, row_test, step_test, row_end, places, FewCounts}

-- what a kind of row asks
abbrev asks_of : RowKind → RowAsks
asks_of k = row_asks k.flagging k.stepping k.lefting k.righting

module _ (n : Counts) (few : FewCounts n) (t : List ℕ) (bytes : (i : ℕ) → get_or t i 0 < 256) (room : table_size ≤ length t) where
  -- What the tests of a row come to.
  pub record RowBack (p q : Places) (r : Row) (x : SpelledRow) : Type 0 where
    pub row_is : row_for p.elements p.items x ≡ r
    pub holds :
        steps_hold current n.strings n.numbers n.steps
        (right_holds current n.strings n.numbers n.steps (left_holds current n.strings n.numbers n.steps x.kind.lefting x.left)
        (left_place x.kind.lefting x.left) x.kind.righting x.right)
        x.kind.stepping x.steps
        ≡ true
    pub elements : SameElements t p.elements p.literals (right_elements x.kind.righting x.right)
    pub items : EachFrom (ItemSame t) p.items (right_items x.kind.righting x.right)
    pub end :
        q
        ≡ places (p.elements + length (right_elements x.kind.righting x.right)) (p.items + length (right_items x.kind.righting x.right))
        (p.literals + length (all_literals (right_elements x.kind.righting x.right)))

  kind_back : (p q : Places) (r : Row) (k : RowKind) → row_in row_kinds r.kind ≡ some k → step_test n p (asks_of k) r ≡ true
      → cells_end n t p k.righting r.left.place (stretches_of k.righting r.right.value) ≡ Some q
      → RowBack p q r (spell_statement (statement_of_row t r))
  unfolding step_test row_test statement_of_row row_for left_place
  kind_back p q r k finds h end_ok =
      let right = k.righting in
      let v = r.right.value in
      let tests = three (row_test n (asks_of k) r) (start_test p right v) (stretches_test n p right (stretches_of right v)) h in
      let fields =
      four (flag_test k.flagging r.flag) (steps_test n.steps k.stepping r.success r.failure) (left_test n k.lefting r.left)
      (right_test n right r.right) tests.0 in
      let flag = flag_written k.flagging r.flag fields.0 in
      let branch = steps-written n.strings n.numbers n.steps k.stepping r fields.1 in
      let lefts = left-written n k.lefting r.left fields.2 in
      let back = right_back n few t bytes room p q r.left.place k.righting r.right fields.3 tests.1 tests.2 end_ok in
      let l = left_in k.lefting r.left in
      let w = right_in t k.righting r.right in
      let place = ap (λ (y : Cell). y.place) lefts.0 in
      let left_true = lefts.1 in
      let right_true =
      subst
      (λ (j : ℕ). right_holds current n.strings n.numbers n.steps (left_holds current n.strings n.numbers n.steps k.lefting l) j
      k.righting w ≡ true)
      (sym place) (back.hold (left_holds current n.strings n.numbers n.steps k.lefting l) left_true) in
      let is =
      ap spell_statement (row-found row_kinds k t r finds)
      ∙ row_respells row_kinds r.kind k rows_respell finds (flag_in k.flagging r.flag) (steps_in k.stepping r) l w in
      subst (RowBack p q r) (sym is)
      (record {
        row_is =
            λ i. record {
              kind = sym (row_number row_kinds r.kind k finds) i;
              flag = flag i;
              success = branch.0 i;
              failure = branch.1 i;
              left = lefts.0 i;
              right = back.same i;
            };
        holds = steps_hold_lem n.strings n.numbers n.steps k.stepping r fields.1 _ right_true;
        elements = back.elements;
        items = back.items;
        end = back.end;
      })

  -- a row that is one of its kind, with places behind it
  pub row_back : (p q : Places) (r : Row) → option_and_then (row_end n t p r) (row_asked r.kind) ≡ Some q
      → RowBack p q r (spell_statement (statement_of_row t r))
  unfolding row_asked row_end
  row_back p q r e = by (row_in row_kinds r.kind) refl e
    where
      by : (o : Option RowKind) → row_in row_kinds r.kind ≡ o
          → option_and_then (row_end n t p r) (elim o [ none ↦ None | some x ↦ Some (asks_of x) ]) ≡ Some q
          → RowBack p q r (spell_statement (statement_of_row t r))
      by none f e = absurd (none-some q e)
      by (some k) f e =
          let cells = cells_end n t p k.righting r.left.place (stretches_of k.righting r.right.value) in
          test_cases (λ b. step_test n p (asks_of k) r ≡ b → cond b cells None ≡ Some q → RowBack p q r (spell_statement (statement_of_row t r)))
          (step_test n p (asks_of k) r) (λ _ h g. kind_back p q r k f h g) (λ _ h g. absurd (none-some q g)) refl e

  -- a cell that passes has a value of 6 bytes
  most : (v : Valuing) → value_bound n.strings n.numbers v ≤ 2 ^ 48
  unfolding value_bound
  most no_value = omega arith
  most natural = omega arith
  most signed = omega arith
  most placed = omega (arith, few.numbers)
  most spelt = omega arith

  value_small : (low high : ℕ) (c : Cell) → cell_test n.strings n.numbers low high c ≡ true → c.value < 2 ^ 48
  unfolding cell_test asked_test fit_test
  value_small low high c h = by (cell_asked c.kind) (both_true (leb low c.kind && leb c.kind high) (asked_test n.strings n.numbers (cell_asked c.kind) c) h).1
    where
      by : (o : Found CellAsks) → asked_test n.strings n.numbers o c ≡ true → c.value < 2 ^ 48
      by None h = absurd (false≢true h)
      by (Some a) h =
          let two = ltb c.place (place_bound n.strings n.numbers a.counting) && leb (value_low a.valuing) c.value in
          let below = ltb-true c.value (value_bound n.strings n.numbers a.valuing) (both_true two (ltb c.value (value_bound n.strings n.numbers a.valuing)) h).1 in
          omega (arith, below, most a.valuing)

  left_small : (l : Lefting) (c : Cell) → left_test n l c ≡ true → c.value < 2 ^ 48
  unfolding left_test
  left_small no_left c h = value_small nothing_number nothing_number c h
  left_small number_left c h = value_small 33 33 c h
  left_small string_left c h = value_small parts parts c h
  left_small part_left c h = value_small parts 79 c h
  left_small operand_left c h = value_small 32 63 c h

  right_small : (r : Righting) (c : Cell) → right_test n r c ≡ true → c.value < 2 ^ 48
  unfolding right_test
  right_small no_right c h = value_small nothing_number nothing_number c h
  right_small operand_right c h = value_small 32 63 c h
  right_small items_right c h = value_small range_number range_number c h
  right_small elements_right c h = value_small range_number range_number c h
  right_small pattern_right c h = value_small range_number range_number c h
  right_small replacing_right c h = value_small range_number range_number c h

  steps_small : (s : Stepping) (success failure : ℕ) → steps_test n.steps s success failure ≡ true → (success < 2 ^ 16) × (failure < 2 ^ 16)
  unfolding steps_test
  steps_small no_step a b h =
      let g = both_true (eqb a 0) (eqb b 0) h in
      (omega (arith, eqb-true a 0 g.0), omega (arith, eqb-true b 0 g.1))
  steps_small one_step a b h =
      let g = both_true (ltb a n.steps) (eqb b 0) h in
      (omega (arith, few.steps, ltb-true a n.steps g.0), omega (arith, eqb-true b 0 g.1))
  steps_small both_steps a b h =
      let g = both_true (ltb a n.steps) (ltb b n.steps) h in
      (omega (arith, few.steps, ltb-true a n.steps g.0), omega (arith, few.steps, ltb-true b n.steps g.1))

  -- What the row of a statement that holds comes to, where its elements and items stand at their places within the header's counts.
  pub record RowForth (p : Places) (s : Statement) : Type 0 where
    pub fits : RowFits (statement_row p.elements p.items s)
    pub end : (let r = statement_row p.elements p.items s in
        option_and_then (row_end n t p r) (row_asked r.kind)
        ≡ Some (places (p.elements + length (elements_of s)) (p.items + length (items_of s)) (p.literals + length (all_literals (elements_of s)))))

  pub row_forth : (p : Places) (s : Statement) → statement_holds current n.strings n.numbers n.steps s ≡ true
      → SameElements t p.elements p.literals (elements_of s) → EachFrom (ItemSame t) p.items (items_of s)
      → p.elements + length (elements_of s) ≤ n.elements → p.items + length (items_of s) ≤ n.items
      → p.literals + length (all_literals (elements_of s)) ≤ 4096 → RowForth p s
  unfolding statement_holds elements_of items_of statement_row row_for row_end step_test row_test row_asked left_place
  row_forth p s h es is e i l =
      let x = spell_statement s in
      let k = x.kind in
      let reference = left_place k.lefting x.left in
      let left_hold = left_holds current n.strings n.numbers n.steps k.lefting x.left in
      let right_hold = right_holds current n.strings n.numbers n.steps left_hold reference k.righting x.right in
      let right_true = steps_front current n.strings n.numbers n.steps right_hold k.stepping x.steps h in
      let left_true = right_front current n.strings n.numbers n.steps left_hold reference k.righting x.right right_true in
      let steps_ok = steps_pass n.strings n.numbers n.steps right_hold k.stepping x.steps h in
      let left_ok = left-passes n k.lefting x.left left_true in
      let own = right_forth n few t bytes room left_hold p reference k.righting x.right right_true es is e i l in
      let r = statement_row p.elements p.items s in
      let q =
      places (p.elements + length (elements_of s)) (p.items + length (items_of s)) (p.literals + length (all_literals (elements_of s))) in
      let ended : row_end n t p r (asks_of k) ≡ Some q =
      rw (flag_passes k.flagging x.flag, steps_ok, left_ok, own.tested, own.starts, own.fits) own.end in
      let targets = steps_small k.stepping (success_of k.stepping x.steps) (failure_of k.stepping x.steps) steps_ok in
      record {
        fits =
            record {
              success = targets.0;
              failure = targets.1;
              left = left_small k.lefting (left_cell k.lefting x.left) left_ok;
              right = right_small k.righting (right_cell p.elements p.items k.righting x.right) own.tested;
            };
        end =
            ap (λ (o : Option RowKind). option_and_then (row_end n t p r) (elim o [ none ↦ None | some m ↦ Some (asks_of m) ])) (row_spells s).finds
            ∙ ended;
      }
