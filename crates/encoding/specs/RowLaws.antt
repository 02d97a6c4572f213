-- What a row of the table keeps is read back from it: the items and elements of a stretch, the statement of a step, the steps of a
-- program. Assumes nothing.
use Rattle.std.specs.Prelude.{Bool, true, ◌&&◌, ◌≡◌, ℕ, suc, ◌+◌, ◌*◌, ◌^◌, ◌≤◌, ◌<◌, leb, ltb}
use Rattle.std.proofs.Math.Bool.{and-eq-true_iff}
use mathlib.Core.List.{List, [], ◌∷◌, ◌++◌, map, append-nil}
use Rattle.std.proofs.Math.Option.{Option, none, some}
use Rattle.std.proofs.Math.Path.{refl, ap, ap₂}
use Rattle.std.proofs.Common.{sym, ◌∙◌, subst}
use native.Mathlib.Omega.{arith}
use Rattle.std.proofs.Math.ListN.{length, length-append, length-map}
use borrow.Author.Tests.{ltb-true}
use Rattle.base.specs.Choice.{both_true}
use Rattle.base.specs.Edition.{Edition}
use Rattle.base.specs.Lists.{all}
use Rattle.syntax.specs.Program.{Part, Item, Element, PatternElement, value, Test, is_null, is_numeric, compares, Branch, Statement}
use Rattle.syntax.specs.Program.{if_test, scan, Step}
use Rattle.syntax.specs.Program.{Comparison, equal, unequal, less, greater, at_most, at_least, Direction, forward, backward}
use Rattle.encoding.specs.CellLaws.{cell-read, RangeRead, range_read, CellKept, kept_read, part_kept, operand_kept, item_kept}
use Rattle.encoding.specs.CellLaws.{element-kept, pattern-kept}
use Rattle.encoding.specs.KindLaws.{row_spells, row-found}
use Rattle.encoding.specs.Kinds.{Flagging, no_flag, of_comparison, of_direction, FlagOf, Stepping, no_step, one_step, both_steps, StepsOf}
use Rattle.encoding.specs.Kinds.{Lefting, no_left, number_left, string_left, part_left, operand_left, LeftOf}
use Rattle.encoding.specs.Kinds.{Righting, no_right, operand_right, items_right, elements_right, pattern_right, replacing_right, RightOf}
use Rattle.encoding.specs.Kinds.{row_kinds, spell_statement}
use Rattle.encoding.specs.NumeralLaws.{BytesStand, stands_moved, stands_front, stands_back, byte-read, number_behind}
use Rattle.encoding.specs.Numerals.{in_bytes, numeral_at, bias}
use Rattle.encoding.specs.RuleLaws.{branch_inside, patterns_all, steps_front, right_front}
use Rattle.encoding.specs.Rules.{operand_holds, item_holds, element_holds, pattern_holds, row_holds, patterns_hold, branch_holds}
use Rattle.encoding.specs.Rules.{balanced, left_holds, right_holds, steps_hold, left_place, statement_holds, step_holds}
use Rattle.encoding.specs.Table.{Cell, no_cell, cell_bytes, part_cell, operand_cell, item_cell, element_cell, pattern_cell, literal_in}
use Rattle.encoding.specs.Table.{replacement_of, elements_of, items_of, right_elements, right_items, Row, row_bytes, row_with, range_cell, comparison_number}
use Rattle.encoding.specs.Table.{direction_number, flag_number, success_of, failure_of, left_cell, right_cell, row_for, statement_row, step_rows}
use Rattle.encoding.specs.Table.{all_elements, all_items, steps_at, elements_at, items_at, literals_at}
use Rattle.encoding.specs.TableReading.{item_of_cell, element_of_cell, pattern_of_cell, read_items, read_elements}
use Rattle.encoding.specs.TableReading.{read_pattern, comparison_of, direction_of, read_row_at, flag_in, steps_in, left_in, right_in}
use Rattle.encoding.specs.TableReading.{statement_of_row, step_in, read_steps}

-- a property of an element of a row and its place
module _ {A : Type 0} (P : ℕ → A → Type 0) where
  -- each element has it with its place, counted from a place on
  abbrev pub EachFrom : ℕ → List A → Type 0
  EachFrom at [] = Unit {0}
  EachFrom at (x ∷ xs) = P at x × EachFrom (at + 1) xs

  -- of two rows the first has it from the place on
  pub each-front : (at : ℕ) (xs ys : List A) → EachFrom at (xs ++ ys) → EachFrom at xs
  each-front at [] ys h = tt
  each-front at (x ∷ xs) ys h = (h.0, each-front (at + 1) xs ys h.1)

  -- and the second from behind the first on
  pub each_back : (at : ℕ) (xs ys : List A) → EachFrom at (xs ++ ys) → EachFrom (at + length xs) ys
  each_back at [] ys h = subst (λ (n : ℕ). EachFrom n ys) (omega arith) h
  each_back at (x ∷ xs) ys h =
      let place : at + 1 + length xs ≡ at + suc (length xs) = omega arith in
      subst (λ (n : ℕ). EachFrom n ys) place (each_back (at + 1) xs ys h.1)

-- the cell of an item stands in the table at its place among all items
abbrev pub ItemStands : List ℕ → ℕ → Item → Type 0
ItemStands t at x = BytesStand t (items_at + 8 * at) (cell_bytes (item_cell x))

-- the cell of an element stands in the table at its place among all elements, and its literal bytes at theirs
pub record ElementStands (t : List ℕ) (at : ℕ) (x : PatternElement) : Type 0 where
  pub literal : ℕ
  pub cell : BytesStand t (elements_at + 8 * at) (cell_bytes (pattern_cell literal x))
  pub bytes : BytesStand t (literals_at + literal) (literal_in x)
  pub small : literal + length (literal_in x) < 2 ^ 16

-- the direction of a scan is read from its number
direction_read : (d : Direction) → direction_of (direction_number d) ≡ d
unfolding direction_of direction_number
direction_read forward = refl
direction_read backward = refl

-- a sign of comparison is read from its number
comparison-read : (c : Comparison) → comparison_of (comparison_number c) ≡ c
unfolding comparison_of comparison_number
comparison-read equal = refl
comparison-read unequal = refl
comparison-read less = refl
comparison-read greater = refl
comparison-read at_most = refl
comparison-read at_least = refl

-- an IF has no elements and no items, and a scan those of its pattern and its replacement
pub test-elements : (t : Test) (b : Branch) → elements_of (if_test t b) ≡ []
unfolding elements_of
test-elements (is_null s) b = refl
test-elements (is_numeric p) b = refl
test-elements (compares x c y) b = refl

pub test-items : (t : Test) (b : Branch) → items_of (if_test t b) ≡ []
unfolding items_of
test-items (is_null s) b = refl
test-items (is_numeric p) b = refl
test-items (compares x c y) b = refl

pub scan-elements : (d : Direction) (p : Part) (xs : List PatternElement) (r : Option (List Element)) (b : Branch)
    → elements_of (scan d p xs r b) ≡ xs ++ map value (replacement_of r)
unfolding elements_of replacement_of
scan-elements d p xs none b = sym (append-nil xs)
scan-elements d p xs (some ys) b = refl

pub scan-items : (d : Direction) (p : Part) (xs : List PatternElement) (r : Option (List Element)) (b : Branch)
    → items_of (scan d p xs r b) ≡ []
unfolding items_of
scan-items d p xs none b = refl
scan-items d p xs (some ys) b = refl

-- the bytes of a row
pub length-row_bytes : (card : ℕ) (r : Row) → length (row_bytes card r) ≡ 24
unfolding row_bytes cell_bytes in_bytes
length-row_bytes card r = refl

-- the numbers of a row fit into their bytes
pub record RowFits (r : Row) : Type 0 where
  pub success : r.success < 2 ^ 16
  pub failure : r.failure < 2 ^ 16
  pub left : r.left.value < 2 ^ 48
  pub right : r.right.value < 2 ^ 48

-- a row that stands at a place
module _ (t : List ℕ) (at card : ℕ) (r : Row) (s : BytesStand t at (row_bytes card r)) where
  -- the row is read there where its numbers fit
  pub row_read : RowFits r → read_row_at t at ≡ r
  unfolding row_bytes read_row_at in_bytes cell_bytes
  row_read fits =
      let left = cell_bytes r.left in
      let right = cell_bytes r.right in
      let failure = in_bytes 2 r.failure ++ (left ++ right) in
      let success = in_bytes 2 r.success ++ failure in
      let start = r.kind ∷ (r.flag ∷ in_bytes 2 card) in
      let rest = r.flag ∷ (in_bytes 2 card ++ success) in
      let branch = start ++ (in_bytes 2 r.success ++ in_bytes 2 r.failure) in
      let kinds = byte-read t at r.kind rest s in
      let flags = byte-read t (at + 1) r.flag (in_bytes 2 card ++ success) (stands_back t (r.kind ∷ []) rest s) in
      let successes = number_behind 2 t at r.success start failure fits.success s in
      let failures = number_behind 2 t at r.failure (start ++ in_bytes 2 r.success) (left ++ right) fits.failure s in
      let lefts = cell-read t (at + 8) r.left fits.left (stands_front t left right (stands_back t branch (left ++ right) s)) in
      let rights = cell-read t (at + 16) r.right fits.right (stands_back t (branch ++ left) right s) in
      λ i. record { kind = kinds i; flag = flags i; success = successes i; failure = failures i; left = lefts i; right = rights i }

  -- and so is its card
  pub card_read : card < 2 ^ 16 → numeral_at 2 t (at + 2) ≡ card
  unfolding row_bytes
  card_read small =
      let after = in_bytes 2 r.success ++ (in_bytes 2 r.failure ++ (cell_bytes r.left ++ cell_bytes r.right)) in
      number_behind 2 t at card (r.kind ∷ (r.flag ∷ [])) after small s

-- The row keeps the statement: its numbers fit into their bytes, and the statement is read from it and its stretches.
pub record RowKept (t : List ℕ) (r : Row) (s : Statement) : Type 0 where
  pub fits : RowFits r
  pub same : statement_of_row t r ≡ s

-- what is in range in a program of so many strings, numbers and steps
module _ (e : Edition) (limit : e.limit < bias) (strings numbers steps : ℕ) (few : numbers ≤ 32) (short : steps ≤ 256)
    (t : List ℕ) where
  -- items that hold are read where they stand, and so are the elements of a pattern and other elements
  items-read : (at : ℕ) (xs : List Item) → all (item_holds e strings numbers steps) xs ≡ true → EachFrom (ItemStands t) at xs
      → read_items t at (length xs) ≡ xs
  unfolding all read_items
  items-read at [] h s = refl
  items-read at (x ∷ xs) h s =
      let holds = (and-eq-true_iff (item_holds e strings numbers steps x) (all (item_holds e strings numbers steps) xs)).0 h in
      let kept = item_kept e strings numbers steps few limit x holds.0 in
      ap₂ {C = List Item} ◌∷◌ (kept_read t (items_at + 8 * at) item_of_cell (item_cell x) x kept s.0) (items-read (at + 1) xs holds.1 s.1)

  patterns_read : (at : ℕ) (xs : List PatternElement) → all (pattern_holds e strings numbers steps) xs ≡ true
      → EachFrom (ElementStands t) at xs → read_pattern t at (length xs) ≡ xs
  unfolding all read_pattern
  patterns_read at [] h s = refl
  patterns_read at (x ∷ xs) h s =
      let holds = (and-eq-true_iff (pattern_holds e strings numbers steps x) (all (pattern_holds e strings numbers steps) xs)).0 h in
      let l = s.0.literal in
      let kept = pattern-kept e strings numbers steps few limit t l x holds.0 s.0.bytes s.0.small in
      let head = kept_read t (elements_at + 8 * at) (pattern_of_cell t) (pattern_cell l x) x kept s.0.cell in
      ap₂ {C = List PatternElement} ◌∷◌ head (patterns_read (at + 1) xs holds.1 s.1)

  elements-read : (at : ℕ) (xs : List Element) → all (element_holds e strings numbers steps) xs ≡ true
      → EachFrom (ElementStands t) at (map value xs) → read_elements t at (length xs) ≡ xs
  unfolding all read_elements pattern_cell element_cell
  elements-read at [] h s = refl
  elements-read at (x ∷ xs) h s =
      let holds = (and-eq-true_iff (element_holds e strings numbers steps x) (all (element_holds e strings numbers steps) xs)).0 h in
      let l = s.0.literal in
      let kept = element-kept e strings numbers steps few limit t l x holds.0 s.0.bytes s.0.small in
      let head = kept_read t (elements_at + 8 * at) (element_of_cell t) (element_cell l x) x kept s.0.cell in
      ap₂ {C = List Element} ◌∷◌ head (elements-read (at + 1) xs holds.1 s.1)

  -- a row of elements that holds has elements that hold
  row_elements_hold : (xs : List Element) → row_holds e strings numbers steps xs ≡ true → all (element_holds e strings numbers steps) xs ≡ true
  unfolding row_holds
  row_elements_hold xs h = ((and-eq-true_iff (leb (length xs) 20) (all (element_holds e strings numbers steps) xs)).0 h).1

  -- the stretch of a row fits its numbers
  stretch_fits : (from : ℕ) (xs : List PatternElement) (ys : List Element) → from + length (xs ++ map value ys) < 2 ^ 16
      → RangeRead from (length xs) (length ys)
  stretch_fits from xs ys h =
      let size = length-append xs (map value ys) in
      let more = length-map ys value in
      range_read from (length xs) (length ys) (omega arith) (omega arith) (omega arith)

  -- each field of a row is read back: the flag, the steps, the left cell, the right cell with its items and elements
  flag_read : (f : Flagging) (w : FlagOf f) → flag_in f (flag_number f w) ≡ w
  unfolding flag_in flag_number
  flag_read no_flag w = refl
  flag_read of_comparison w = comparison-read w
  flag_read of_direction w = direction_read w

  steps_fit : (b : Bool) (s : Stepping) (w : StepsOf s) → steps_hold e strings numbers steps b s w ≡ true
      → (success_of s w < 2 ^ 16) × (failure_of s w < 2 ^ 16)
  unfolding steps_hold success_of failure_of
  steps_fit b no_step w h = omega arith
  steps_fit b one_step w h = omega (arith, ltb-true w steps (both_true b (ltb w steps) h).1)
  steps_fit b both_steps w h =
      omega (arith, branch_inside e strings numbers steps w (both_true b (branch_holds e strings numbers steps w) h).1)

  steps_back : (s : Stepping) (w : StepsOf s) (kind flag : ℕ) (left right : Cell)
      → steps_in s (row_with kind flag (success_of s w) (failure_of s w) left right) ≡ w
  unfolding steps_in success_of failure_of
  steps_back no_step w kind flag left right = refl
  steps_back one_step w kind flag left right = refl
  steps_back both_steps w kind flag left right = refl

  left-kept : (l : Lefting) (w : LeftOf l) → left_holds e strings numbers steps l w ≡ true → CellKept (left_in l) (left_cell l w) w
  unfolding left_holds left_in left_cell no_cell operand_cell part_cell
  left-kept no_left w h = record { small = omega arith; same = refl }
  left-kept number_left w h = record { small = omega arith; same = refl }
  left-kept string_left w h = record { small = omega arith; same = refl }
  left-kept part_left w h = part_kept e strings numbers steps few limit w h
  left-kept operand_left w h = operand_kept e strings numbers steps few limit w h

  right_kept : (b : Bool) (reference element item : ℕ) (r : Righting) (w : RightOf r)
      → right_holds e strings numbers steps b reference r w ≡ true → EachFrom (ElementStands t) element (right_elements r w)
      → EachFrom (ItemStands t) item (right_items r w) → element + length (right_elements r w) < 2 ^ 16
      → item + length (right_items r w) < 2 ^ 16 → CellKept (right_in t r) (right_cell element item r w) w
  unfolding right_holds right_elements right_items right_in right_cell range_cell no_cell patterns_hold
  right_kept b reference element item no_right w h es is few_elements few_items = record { small = omega arith; same = refl }
  right_kept b reference element item operand_right w h es is few_elements few_items =
      operand_kept e strings numbers steps few limit w (both_true b (operand_holds e strings numbers steps w) h).1
  right_kept b reference element item items_right w h es is few_elements few_items =
      let items = all (item_holds e strings numbers steps) w in
      let holds = both_true (balanced 0 w) items (both_true b (balanced 0 w && items) h).1 in
      let ranges = range_read item (length w) 0 (omega arith) (omega arith) (omega arith) in
      record { small = ranges.small; same = rw (ranges.first, ranges.second, items-read item w holds.1 is) }
  right_kept b reference element item elements_right w h es is few_elements few_items =
      let own = row_elements_hold w (both_true b (row_holds e strings numbers steps w) h).1 in
      let count = length-map w value in
      let ranges = range_read element (length w) 0 (omega arith) (omega arith) (omega arith) in
      record { small = ranges.small; same = rw (ranges.first, ranges.second, elements-read element w own es) }
  right_kept b reference element item pattern_right w h es is few_elements few_items =
      let own = patterns_all e strings numbers steps reference w (both_true b (patterns_hold e strings numbers steps reference w) h).1 in
      let ranges = range_read element (length w) 0 (omega arith) (omega arith) (omega arith) in
      record { small = ranges.small; same = rw (ranges.first, ranges.second, patterns_read element w own es) }
  right_kept b reference element item replacing_right w h es is few_elements few_items =
      let xs = w.0 in
      let ys = w.1 in
      let pattern = patterns_hold e strings numbers steps reference xs in
      let row = row_holds e strings numbers steps ys in
      let holds = both_true pattern row (both_true b (pattern && row) h).1 in
      let ranges = stretch_fits element xs ys few_elements in
      let front = patterns_read element xs (patterns_all e strings numbers steps reference xs holds.0) (each-front (ElementStands t) element xs (map value ys) es) in
      let back =
      elements-read (element + length xs) ys (row_elements_hold ys holds.1) (each_back (ElementStands t) element xs (map value ys) es) in
      record { small = ranges.small; same = rw (ranges.first, ranges.second, ranges.third, front, back) }

  -- a statement that holds is kept by its row, where its elements and items stand at their places
  statement_kept : (element item : ℕ) (s : Statement) → statement_holds e strings numbers steps s ≡ true
      → EachFrom (ElementStands t) element (elements_of s) → EachFrom (ItemStands t) item (items_of s)
      → element + length (elements_of s) < 2 ^ 16 → item + length (items_of s) < 2 ^ 16 → RowKept t (statement_row element item s) s
  unfolding statement_holds elements_of items_of statement_row row_for statement_of_row
  statement_kept element item s h es is few_elements few_items =
      let x = spell_statement s in
      let k = x.kind in
      let reference = left_place k.lefting x.left in
      let left = left_holds e strings numbers steps k.lefting x.left in
      let right = right_holds e strings numbers steps left reference k.righting x.right in
      let right_true = steps_front e strings numbers steps right k.stepping x.steps h in
      let targets = steps_fit right k.stepping x.steps h in
      let lefts = left-kept k.lefting x.left (right_front e strings numbers steps left reference k.righting x.right right_true) in
      let rights = right_kept left reference element item k.righting x.right right_true es is few_elements few_items in
      let spells = row_spells s in
      let r = row_for element item x in
      let branches = steps_back k.stepping x.steps k.number r.flag r.left r.right in
      record {
        fits = record { success = targets.0; failure = targets.1; left = lefts.small; right = rights.small };
        same =
            row-found row_kinds k t r spells.finds
            ∙ (λ i. k.make (flag_read k.flagging x.flag i) (branches i) (lefts.same i) (rights.same i))
            ∙ spells.makes;
      }

  -- a step whose row keeps its statement is read where the row's bytes stand
  step-read : (at : ℕ) (r : Row) (x : Step) → x.card < 2 ^ 16 → RowKept t r x.statement → BytesStand t at (row_bytes x.card r)
      → step_in t at ≡ x
  unfolding step_in
  step-read at r x small kept s =
      let cards = card_read t at x.card r s small in
      let statements = ap (statement_of_row t) (row_read t at x.card r s kept.fits) ∙ kept.same in
      λ i. record { card = cards i; statement = statements i }

  -- steps that hold are read where their rows, elements and items stand
  pub steps-read : (k element item : ℕ) (ss : List Step) → all (step_holds e strings numbers steps) ss ≡ true
      → BytesStand t (steps_at + 24 * k) (step_rows element item ss)
      → EachFrom (ElementStands t) element (all_elements ss) → EachFrom (ItemStands t) item (all_items ss)
      → element + length (all_elements ss) < 2 ^ 16 → item + length (all_items ss) < 2 ^ 16 → read_steps t k (length ss) ≡ ss
  unfolding all step_holds step_rows read_steps all_elements all_items
  steps-read k element item [] h s es is few_elements few_items = refl
  steps-read k element item (x ∷ xs) h s es is few_elements few_items =
      let y = x.statement in
      let own = elements_of y in
      let own_items = items_of y in
      let r = statement_row element item y in
      let rest = step_rows (element + length own) (item + length own_items) xs in
      let elements = length-append own (all_elements xs) in
      let items = length-append own_items (all_items xs) in
      let holds = (and-eq-true_iff (step_holds e strings numbers steps x) (all (step_holds e strings numbers steps) xs)).0 h in
      let step = (and-eq-true_iff (ltb x.card (2 ^ 16)) (statement_holds e strings numbers steps y)).0 holds.0 in
      let front = each-front (ElementStands t) element own (all_elements xs) es in
      let front_items = each-front (ItemStands t) item own_items (all_items xs) is in
      let kept = statement_kept element item y step.1 front front_items (omega arith) (omega arith) in
      let place : steps_at + 24 * k + length (row_bytes x.card r) ≡ steps_at + 24 * (k + 1) = omega (arith, length-row_bytes x.card r) in
      let here = stands_front t (row_bytes x.card r) rest s in
      let next = stands_moved t place (stands_back t (row_bytes x.card r) rest s) in
      let back = each_back (ElementStands t) element own (all_elements xs) es in
      let back_items = each_back (ItemStands t) item own_items (all_items xs) is in
      let tail = steps-read (k + 1) (element + length own) (item + length own_items) xs holds.1 next back back_items in
      let head = step-read (steps_at + 24 * k) r x (ltb-true x.card (2 ^ 16) step.0) kept here in
      ap₂ {C = List Step} ◌∷◌ head (tail (omega arith) (omega arith))
