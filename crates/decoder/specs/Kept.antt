-- What a table that keeps the rules lets callers rely on: each statement that is read from it holds, and a step behind it is there.
-- Assumes nothing.
use Rattle.std.specs.Prelude as Prelude
use Rattle.std.specs.Prelude.{Some, None, Bool, true, false, not, ◌&&◌, List, [], ◌∷◌, ◌++◌, map, ◌≡◌, leb, take, drop, get_or}
use Rattle.std.proofs.Math.Bool.{and-eq-true_iff}
use Rattle.std.proofs.lemmas.Bool.{false≢true}
use Rattle.std.proofs.Math.Option.{Option, none, some}
use Rattle.std.proofs.Math.Path.{refl, sym, ap, subst}
use Rattle.std.proofs.Common.{◌∙◌, arith, length-append}
use Prim.Native.Nat.{ℕ, zero, suc, ◌+◌, ◌*◌, ◌-◌, ◌≤◌, ◌<◌}
use Rattle.std.proofs.Math.ListN.{length, get_or-map}
use Rattle.std.proofs.lemmas.List.{length-map}
use borrow.Author.Tests.{leb-true, ltb-true}
use Rattle.base.specs.Current.{current}
use Rattle.base.specs.Limits as Limits
use Rattle.base.specs.Lists.{all, is_nil}
use Rattle.syntax.specs.Program as Program
use Rattle.syntax.specs.Program.{is_finish}
use Rattle.machine.specs.Step.{statement_at}
use Rattle.encoding.specs.Kinds.{literal_kind}
use Rattle.encoding.specs.NumeralLaws.{BytesStand}
use Rattle.encoding.specs.Numerals.{numeral_at}
use Rattle.encoding.specs.ProgramLaws.{program_runs, statement_holds_lem, step-behind, first_step}
use Rattle.encoding.specs.ReadingLaws.{rows_each, rows_at, rows_length}
use Rattle.encoding.specs.RowLaws.{scan-elements}
use Rattle.encoding.specs.RuleLaws.{scan-parts, number_parts, test_holds}
use Rattle.encoding.specs.Rules as Rules
use Rattle.encoding.specs.Rules.{keeps_rules, balanced}
use Rattle.encoding.specs.Table as Table
use Rattle.encoding.specs.Table.{steps_at, elements_at, items_at, literals_at, elements_of, items_of, replacement_of, row_bytes, statement_row, row_with}
use Rattle.encoding.specs.Table.{range_cell, all_elements, all_items}
use Rattle.encoding.specs.TableLaws.{ProgramInRange, keeps_image}
use Rattle.encoding.specs.TableReading.{cell_at, read_row_at, item_of_cell, element_of_cell, pattern_of_cell, read_items, read_elements, read_pattern}
use Rattle.encoding.specs.TableReading.{statement_of_row, step_in, read_steps, program_in}
use Rattle.decoder.specs.Holds.{ItemsHold, ElementsHold, PatternsHold, ReplacementHolds, ElementHolds, PatternHolds}
use Rattle.decoder.specs.Holds.{StretchHas, searched_place, BranchHolds, ScanHolds, StatementHolds}
use Rattle.decoder.specs.HoldsLaws.{place_is, is_other, roles_others, below-strings, part_holds_lem, item_holds_lem, text_holds, free_holds, fixed_holds}
use Rattle.decoder.specs.HoldsLaws.{branch-holds, if_holds}
use Rattle.decoder.specs.Meaning.{part_meaning, element_meaning, pattern_meaning, items_meaning, elements_meaning}
use Rattle.encoding.specs.Meaning.{direction_meaning, branch_meaning}
use Rattle.decoder.specs.Meaning.{patterns_meaning, replacement_meaning, statement_meaning}
use Rattle.decoder.specs.Reading.{ElementDecoded, PatternRead, StretchRead, ReplacementDecoded, ScanStretches, StretchesRead, StatementDecoded}
use Rattle.decoder.specs.ReadingLaws.{element_cases, pattern_cases}
use Rattle.decoder.specs.Regions.{RowPlace, RangeIs, row_range, program_in_range, kept_row, kept_literal}
use Rattle.decoder.specs.declared.Element.{Element}
use Rattle.decoder.specs.declared.Element.TheVariants.{Literal, Part, Text}
use Rattle.decoder.specs.declared.PatternElement.{PatternElement}
use Rattle.decoder.specs.declared.PatternElement.TheVariants.{Value, Free, Fixed}
use Rattle.encoding.specs.declared.cells.Branch.{Branch}
use Rattle.decoder.specs.declared.Stretch.{Stretch}
use Rattle.decoder.specs.declared.Scan as Scan
use Rattle.decoder.specs.declared.Statement.{Statement}
use Rattle.decoder.specs.declared.Statement.TheVariants as statements

-- rows that are read one behind the other
module _ {A : Type 0} (single : ℕ → A) (rows : ℕ → ℕ → List A) (next : (at n : ℕ) → rows at (suc n) ≡ single at ∷ rows (at + 1) n) where
  -- the one at a place within a stretch passes a test that all pass
  within_row : (f : A → Bool) (s : Stretch) (k : ℕ) → StretchHas s k → all f (rows s.from s.count) ≡ true → f (single k) ≡ true
  within_row f s k w g =
      let place : s.from + (k - s.from) ≡ k = omega arith in
      subst (λ (i : ℕ). f (single i) ≡ true) place (rows_each single rows next f s.from s.count (k - s.from) (omega arith) g)

-- a cell that is read as a literal is of its kind
literal_kind_lem : (t : List ℕ) (c : Table.Cell) (w : List ℕ) → Program.literal w ≡ element_of_cell t c → c.kind ≡ literal_kind.number
literal_kind_lem t c w =
    element_cases c t (λ y. Program.literal w ≡ y → c.kind ≡ literal_kind.number) (λ h _ e. h)
    (λ n e. let z : ◌≡◌ {A = ℕ} 0 1 = cc in absurd (omega arith))
    (λ e. let z : ◌≡◌ {A = ℕ} 0 1 = cc in absurd (omega arith))

-- a value of a pattern is read as an element
value_read : (t : List ℕ) (c : Table.Cell) (x : Element) → PatternRead t c (Value x) → ElementDecoded t c x
value_read t c x r = record { means = inner r.means; ends = r.ends }
  where
    inner : Program.value (element_meaning t x) ≡ pattern_of_cell t c → element_meaning t x ≡ element_of_cell t c
    inner =
        pattern_cases c t (λ y. Program.value (element_meaning t x) ≡ y → element_meaning t x ≡ element_of_cell t c)
        (λ e. let z : ◌≡◌ {A = ℕ} 0 1 = cc in absurd (omega arith))
        (λ n e. let z : ◌≡◌ {A = ℕ} 0 1 = cc in absurd (omega arith))
        (λ e. cc)

-- bytes that are cut out of a list are none only where none are asked for
cut_some : (n : ℕ) (l : List ℕ) → not (is_nil (take n l)) ≡ true → 0 < n
unfolding is_nil
cut_some zero l h = absurd (false≢true h)
cut_some (suc n) l h = omega arith

-- the header's count is that of the program's steps
pub step_count : (t : List ℕ) → length (program_in t).steps ≡ numeral_at 2 t 2
unfolding program_in read_steps
step_count t = rows_length (λ k. step_in t (steps_at + 24 * k)) (read_steps t) (λ at. refl) (λ at n. refl) 0 (numeral_at 2 t 2)

-- the program's step k is the one of row k
program_step : (t : List ℕ) (k : ℕ) (d : Program.Step) → k < numeral_at 2 t 2 → get_or (program_in t).steps k d ≡ step_in t (steps_at + 24 * k)
unfolding program_in read_steps
program_step t k d h =
    rows_at (λ j. step_in t (steps_at + 24 * j)) (read_steps t) (λ at n. refl) 0 (numeral_at 2 t 2) k d h
    ∙ ap (λ j. step_in t (steps_at + 24 * j)) (omega arith)

-- what stands behind the last step
abbrev no_step : Program.Step
no_step = record { card = 0; statement = Program.finish }

-- the statement that the machine carries out at step k is the one of row k
pub statement_is : (t : List ℕ) (k : ℕ) → k < numeral_at 2 t 2 → statement_at (program_in t) k ≡ statement_of_row t (read_row_at t (steps_at + 24 * k))
unfolding statement_at step_in
statement_is t k h =
    let statement : Program.Step → Program.Statement = λ s. s.statement in
    get_or-map statement (program_in t).steps k no_step ∙ ap statement (program_step t k no_step h)

-- the table keeps the rules
module _ (t : List ℕ) (kept : keeps_rules current t ≡ true) where
  -- what its program has
  abbrev strings : ℕ
  strings = (program_in t).strings

  abbrev numbers : ℕ
  numbers = (program_in t).numbers

  abbrev steps : ℕ
  steps = length (program_in t).steps

  abbrev elements : ℕ
  elements = length (all_elements (program_in t).steps)

  abbrev items : ℕ
  items = length (all_items (program_in t).steps)

  ok : ProgramInRange current (program_in t)
  ok = program_in_range t kept

  -- an element that is read from one of its cells and passes the test holds
  element-holds : (k : ℕ) (x : Element) → k < elements → ElementDecoded t (cell_at t (elements_at + 8 * k)) x
      → Rules.element_holds current strings numbers steps (element_meaning t x) ≡ true → ElementHolds x
  unfolding Rules.element_holds Rules.part_holds literals_at
  element-holds k (Literal from to) inside r h =
      let kind = literal_kind_lem t (cell_at t (elements_at + 8 * k)) (take (to - from) (drop from t)) r.means in
      let end = kept_literal t kept k inside kind in
      let some = cut_some (to - from) (drop from t) h in
      record { order = omega arith; inside = omega (arith, r.ends) }
  element-holds k (Part p) inside r h = part_holds_lem strings numbers steps ok.strings ok.numbers p h
  element-holds k (Text n m) inside r h = text_holds strings numbers steps ok.strings ok.numbers n m h

  -- and so does an element of a pattern
  pattern-holds : (reference k : ℕ) (x : PatternElement) → k < elements → PatternRead t (cell_at t (elements_at + 8 * k)) x
      → Rules.pattern_holds current strings numbers steps (pattern_meaning t x) ≡ true → is_other reference (pattern_meaning t x) ≡ true
      → PatternHolds reference x
  unfolding Rules.pattern_holds Rules.element_holds
  pattern-holds r k (Value x) inside read h g = element-holds k x inside (value_read t (cell_at t (elements_at + 8 * k)) x read) h
  pattern-holds r k (Free s) inside read h g = free_holds strings numbers steps ok.strings ok.numbers r s h g
  pattern-holds r k (Fixed s n) inside read h g = fixed_holds strings numbers steps ok.strings ok.numbers r s n h g

  -- a stretch of items that pass the test and end within all items
  items_hold : (s : Stretch) → s.from + s.count ≤ items → balanced 0 (items_meaning t s) ≡ true
      → all (Rules.item_holds current strings numbers steps) (items_meaning t s) ≡ true → ItemsHold t s
  unfolding read_items
  items_hold s end whole h =
      let test = Rules.item_holds current strings numbers steps in
      let own : ℕ → Program.Item = λ k. item_of_cell (cell_at t (items_at + 8 * k)) in
      record {
        inside = omega (arith, ok.items);
        whole = whole;
        each =
            λ k x w e.
            item_holds_lem strings numbers steps ok.strings ok.numbers x
            (ap test e ∙ within_row own (read_items t) (λ at n. refl) test s k w h);
      }

  -- a stretch of elements
  elements_hold : (s : Stretch) → s.from + s.count ≤ elements → s.count ≡ length (elements_meaning t s)
      → Rules.row_holds current strings numbers steps (elements_meaning t s) ≡ true → ElementsHold t s
  unfolding Rules.row_holds read_elements
  elements_hold s end count h =
      let test = Rules.element_holds current strings numbers steps in
      let size = length (elements_meaning t s) in
      let both = (and-eq-true_iff (leb size Limits.row_elements) (all test (elements_meaning t s))).0 h in
      let own : ℕ → Program.Element = λ k. element_of_cell t (cell_at t (elements_at + 8 * k)) in
      record {
        inside = omega (arith, ok.elements);
        few = omega (arith, leb-true size Limits.row_elements both.0);
        each =
            λ k x w r.
            element-holds k x (omega arith) r (ap test r.means ∙ within_row own (read_elements t) (λ at n. refl) test s k w both.1);
      }

  -- a stretch of a pattern
  patterns_hold_lem : (reference : ℕ) (s : Stretch) → s.from + s.count ≤ elements → s.count ≤ Limits.row_elements
      → all (Rules.pattern_holds current strings numbers steps) (patterns_meaning t s) ≡ true
      → all (is_other reference) (patterns_meaning t s) ≡ true → PatternsHold t reference s
  unfolding read_pattern
  patterns_hold_lem reference s end few h g =
      let test = Rules.pattern_holds current strings numbers steps in
      let other = is_other reference in
      let own : ℕ → Program.PatternElement = λ k. pattern_of_cell t (cell_at t (elements_at + 8 * k)) in
      record {
        inside = omega (arith, ok.elements);
        few = few;
        each =
            λ k x w r.
            pattern-holds reference k x (omega arith) r (ap test r.means ∙ within_row own (read_pattern t) (λ at n. refl) test s k w h)
            (ap other r.means ∙ within_row own (read_pattern t) (λ at n. refl) other s k w g);
      }

  -- a row's stretch of elements, and nothing behind it
  stretch_holds : (at card element : ℕ) (r : Table.Row) (s : Stretch) → BytesStand t at (row_bytes card r)
      → r.right ≡ range_cell element (length (elements_meaning t s)) 0 → element + length (map Program.value (elements_meaning t s)) ≤ elements
      → StretchRead (read_row_at t at).right.value s → Rules.row_holds current strings numbers steps (elements_meaning t s) ≡ true
      → ElementsHold t s
  stretch_holds at card element r s bytes right end read h =
      let size = length (elements_meaning t s) in
      let count = length-map (elements_meaning t s) Program.value in
      let range = row_range t at card element size 0 r bytes right (omega (arith, ok.elements)) in
      elements_hold s (omega (arith, read.from, read.count, range.first, range.second)) (read.count ∙ range.second) h

  -- a replacement behind its pattern
  replacement-holds : (x : Prelude.Option Stretch) (v from count : ℕ) → RangeIs v from count (length (replacement_of (replacement_meaning t x)))
      → ReplacementDecoded v x → from + (count + length (replacement_of (replacement_meaning t x))) ≤ elements
      → Rules.row_holds current strings numbers steps (replacement_of (replacement_meaning t x)) ≡ true → ReplacementHolds t x
  unfolding replacement_of
  replacement-holds None v from count range read end h = tt
  replacement-holds (Some s) v from count range read end h =
      elements_hold s (omega (arith, read.from, read.count, range.first, range.second, range.third)) (read.count ∙ range.third) h

  -- the right cell of a scan has its pattern and what it puts
  scan_right : (element item : ℕ) (d : Program.Direction) (p : Program.Part) (xs : List Program.PatternElement)
      (r : Option (List Program.Element)) (b : Program.Branch)
      → (statement_row element item (Program.scan d p xs r b)).right ≡ range_cell element (length xs) (length (replacement_of r))
  unfolding statement_row replacement_of
  scan_right element item d p xs none b = refl
  scan_right element item d p xs (some ys) b = refl

  -- a scan
  scan-holds : (at card : ℕ) (x : Scan.Scan) → RowPlace t at elements items card (statement_meaning t (statements.Scan x))
      → ScanStretches (read_row_at t at).right.value x
      → Rules.statement_holds current strings numbers steps (statement_meaning t (statements.Scan x)) ≡ true → ScanHolds t steps x
  scan-holds at card x p r h =
      let xs = patterns_meaning t x.pattern in
      let put = replacement_meaning t x.replacement in
      let more = replacement_of put in
      let d = direction_meaning x.direction in
      let part = part_meaning x.part in
      let b = branch_meaning x.branch in
      let tests = scan-parts current strings numbers steps d part xs put b h in
      let own : length (elements_of (Program.scan d part xs put b)) ≡ length (xs ++ map Program.value more) =
      ap (λ (l : List Program.PatternElement). length l) (scan-elements d part xs put b) in
      let count = length-append xs (map Program.value more) in
      let more_count = length-map more Program.value in
      let end : p.element + (length xs + length more) ≤ elements = omega (arith, p.elements_end) in
      let row = statement_row p.element p.item (Program.scan d part xs put b) in
      let right = scan_right p.element p.item d part xs put b in
      let range = row_range t at card p.element (length xs) (length more) row p.bytes right (omega (arith, ok.elements)) in
      let few = leb-true (length xs) Limits.row_elements tests.few in
      let size = r.pattern.count ∙ range.second in
      let inside : x.pattern.from + x.pattern.count ≤ elements = omega (arith, r.pattern.from, range.first) in
      let others = roles_others (searched_place x.part) [] xs (rw (place_is x.part) at tests.roles) in
      record {
        part = part_holds_lem strings numbers steps ok.strings ok.numbers x.part tests.part;
        pattern = patterns_hold_lem (searched_place x.part) x.pattern inside (omega arith) tests.patterns others;
        replacement =
            replacement-holds x.replacement (read_row_at t at).right.value p.element (length xs) range r.replacement end tests.row;
        branch = branch-holds strings numbers steps ok.strings ok.numbers x.branch tests.branch;
      }

  -- what passes a test, with a branch behind it
  and_branch : {A : Type 0} (test : Bool) (b : Branch) → (test ≡ true → A)
      → test && Rules.branch_holds current strings numbers steps (branch_meaning b) ≡ true → A × BranchHolds steps b
  and_branch test b holds h =
      let both = (and-eq-true_iff test (Rules.branch_holds current strings numbers steps (branch_meaning b))).0 h in
      (holds both.0, branch-holds strings numbers steps ok.strings ok.numbers b both.1)

  -- a statement that is read from its row
  statement_kept : (at card : ℕ) (x : Statement) → RowPlace t at elements items card (statement_meaning t x)
      → StretchesRead (read_row_at t at).right.value x → Rules.statement_holds current strings numbers steps (statement_meaning t x) ≡ true
      → StatementHolds t steps x
  unfolding Rules.statement_holds test_holds statement_row elements_of items_of
  statement_kept at card (statements.SetNumber i s) p r h =
      let l = items_meaning t s in
      let tests = number_parts current strings numbers steps i l h in
      let own = statement_row p.element p.item (Program.set_number i l) in
      let range = row_range t at card p.item (length l) 0 own p.bytes refl (omega (arith, p.items_end, ok.items)) in
      let end : s.from + s.count ≤ items = omega (arith, r.from, r.count, range.first, range.second, p.items_end) in
      (omega (arith, ltb-true i numbers tests.0, ok.numbers), items_hold s end tests.1 tests.2)
  statement_kept at card (statements.SetString q s) p r h =
      let l = elements_meaning t s in
      let both =
      (and-eq-true_iff (Rules.part_holds current strings numbers steps (part_meaning q)) (Rules.row_holds current strings numbers steps l)).0 h in
      let own = statement_row p.element p.item (Program.set_string (part_meaning q) l) in (
        part_holds_lem strings numbers steps ok.strings ok.numbers q both.0,
        stretch_holds at card p.element own s p.bytes refl p.elements_end r both.1,
      )
  statement_kept at card (statements.Goto k) p r h = ltb-true k steps h
  statement_kept at card statements.Finish p r h = tt
  statement_kept at card (statements.IfNull s b) p r h = and_branch _ b (below-strings strings numbers steps ok.strings ok.numbers s) h
  statement_kept at card (statements.IfNumeric q b) p r h = and_branch _ b (part_holds_lem strings numbers steps ok.strings ok.numbers q) h
  statement_kept at card (statements.If x b) p r h = and_branch _ b (if_holds strings numbers steps ok.strings ok.numbers x) h
  statement_kept at card (statements.Scan x) p r h = scan-holds at card x p r h
  statement_kept at card (statements.Read q b) p r h = and_branch _ b (part_holds_lem strings numbers steps ok.strings ok.numbers q) h
  statement_kept at card (statements.Write s) p r h =
      let own = statement_row p.element p.item (Program.write (elements_meaning t s)) in
      stretch_holds at card p.element own s p.bytes refl p.elements_end r h
  statement_kept at card (statements.Execute k) p r h = ltb-true k steps h
  statement_kept at card statements.Return p r h = tt

  -- the statement of step k, as the code reads it, holds
  pub kept_statement : (k : ℕ) (x : Statement) → k < numeral_at 2 t 2 → StatementDecoded t (read_row_at t (steps_at + 24 * k)) x
      → StatementHolds t (numeral_at 2 t 2) x
  unfolding step_in
  kept_statement k x h r =
      let own = ap (λ (s : Program.Step). s.statement) (program_step t k no_step h) ∙ sym r.means in
      let inside : k < steps = omega (arith, step_count t) in
      let card = (get_or (program_in t).steps k no_step).card in
      let place = subst (RowPlace t (steps_at + 24 * k) elements items card) own (kept_row t kept k no_step inside) in
      let test = statement_holds_lem current strings numbers steps (program_in t).steps k ok.hold in
      let passes =
      ap (Rules.statement_holds current strings numbers steps)
      (sym own ∙ sym (get_or-map (λ (s : Program.Step). s.statement) (program_in t).steps k no_step)) ∙ test in
      subst (λ (n : ℕ). StatementHolds t n x) (step_count t) (statement_kept (steps_at + 24 * k) card x place r.stretches passes)

  -- there is a first step, and not too many
  pub kept-steps : (0 < numeral_at 2 t 2) × (numeral_at 2 t 2 ≤ Limits.statements)
  kept-steps =
      let runs = program_runs current (program_in t) (keeps_image current t kept).0 in
      omega (arith, step_count t, first_step (program_in t).steps runs.last, ok.steps)

  -- behind a step that doesn't finish there is a step
  pub kept_next : (k : ℕ) → k < numeral_at 2 t 2 → is_finish (statement_of_row t (read_row_at t (steps_at + 24 * k))) ≡ false → k + 1 < numeral_at 2 t 2
  unfolding statement_at
  kept_next k h goes =
      let runs = program_runs current (program_in t) (keeps_image current t kept).0 in
      let count = step_count t in
      omega (arith, step-behind (program_in t).steps k runs.last (omega arith) (ap is_finish (statement_is t k h) ∙ goes))
