-- The table of a program in range is made of bytes, where the literals are. Assumes nothing.
use Rattle.std.specs.Prelude.{Bool, true, ◌&&◌, ◌≡◌, ℕ, zero, suc, ◌+◌, ◌-◌, ◌^◌, ◌≤◌, ◌<◌, leb, ltb, replicate}
use Rattle.std.proofs.Math.Bool.{and-eq-true_iff}
use mathlib.Core.List.{List, [], ◌∷◌, ◌++◌, map}
use native.Mathlib.Omega.{arith}
use Rattle.std.proofs.Math.ListN.{length}
use Rattle.base.specs.Choice.{both_true}
use Rattle.base.specs.Edition.{Edition}
use Rattle.base.specs.Lists.{all}
use Rattle.syntax.specs.Placed.{Each, each-join}
use Rattle.syntax.specs.Program.{whole, variable, Item, Element, PatternElement, value, Statement, Step, Program}
use Rattle.syntax.specs.Program.{equal, unequal, less, greater, at_most, at_least, forward, backward}
use Rattle.encoding.specs.CellLaws.{SmallCell, class_small}
use Rattle.encoding.specs.KindLaws.{part_class, operand_class, item_class, element_class, pattern_class, row_small}
use Rattle.encoding.specs.Kinds.{Flagging, no_flag, of_comparison, of_direction, FlagOf}
use Rattle.encoding.specs.Kinds.{Lefting, no_left, number_left, string_left, part_left, operand_left, LeftOf}
use Rattle.encoding.specs.Kinds.{Righting, no_right, operand_right, items_right, elements_right, pattern_right, replacing_right, RightOf}
use Rattle.encoding.specs.Kinds.{spell_statement}
use Rattle.encoding.specs.Numerals.{in_bytes}
use Rattle.encoding.specs.RuleLaws.{patterns_all, steps_front, right_front}
use Rattle.encoding.specs.Rules.{part_holds, operand_holds, item_holds, element_holds, pattern_holds, row_holds, patterns_hold, balanced}
use Rattle.encoding.specs.Rules.{left_holds, right_holds, left_place, statement_holds, step_holds, is_program}
use Rattle.encoding.specs.Table.{Cell, no_cell, cell_bytes, part_cell, operand_cell, item_cell, pattern_cell}
use Rattle.encoding.specs.Table.{right_elements, right_items, elements_of, items_of, Row, row_bytes, range_cell}
use Rattle.encoding.specs.Table.{comparison_number, direction_number, flag_number, left_cell, right_cell, row_for, statement_row, step_rows}
use Rattle.encoding.specs.Table.{all_elements, all_items}
use Rattle.encoding.specs.Table.{all_literals, literal_in, element_rows, item_rows, filled_to, steps_at, elements_at, items_at}
use Rattle.encoding.specs.Table.{literals_at, format, header, image}
use Rattle.encoding.specs.TableLaws.{in_range_lem}

-- each element of a row has a property, where a test that all pass tells it
all_tested : {A : Type 0} (P : A → Type 0) (f : A → Bool) → ((x : A) → f x ≡ true → P x) → (xs : List A) → all f xs ≡ true → Each P xs
unfolding all Each
all_tested P f g [] h = tt
all_tested P f g (x ∷ xs) h =
    let both = (and-eq-true_iff (f x) (all f xs)).0 h in
    (g x both.0, all_tested P f g xs both.1)

-- what the elements have by way of a function, their images have
all_map : {A B : Type 0} (P : B → Type 0) (f : A → B) (xs : List A) → Each (λ x. P (f x)) xs → Each P (map f xs)
unfolding Each
all_map P f [] h = tt
all_map P f (x ∷ xs) h = (h.0, all_map P f xs h.1)

-- a byte
abbrev pub IsByte : ℕ → Type 0
IsByte b = b < 256

-- bytes filled up with zeros
filled-bytes : (n : ℕ) (bs : List ℕ) → Each IsByte bs → Each IsByte (filled_to n bs)
unfolding filled_to Each
filled-bytes n bs h = each-join IsByte bs (replicate (n - length bs) 0) h (zeros (n - length bs))
  where
    zeros : (k : ℕ) → Each IsByte (replicate k 0)
    zeros zero = tt
    zeros (suc k) = (omega arith, zeros k)

-- bytes filled up, and bytes behind them
region_bytes : (n : ℕ) (bs rest : List ℕ) → Each IsByte bs → Each IsByte rest → Each IsByte (filled_to n bs ++ rest)
region_bytes n bs rest h g = each-join IsByte (filled_to n bs) rest (filled-bytes n bs h) g

-- such a cell is made of bytes
cell-bytes : (c : Cell) → SmallCell c → Each IsByte (cell_bytes c)
unfolding in_bytes cell_bytes Each
cell-bytes c s = omega arith

-- the kind and the flag of a row are bytes, and so are those of its cells
record SmallRow (r : Row) : Type 0 where
  kind : r.kind < 256
  flag : r.flag < 256
  left : SmallCell r.left
  right : SmallCell r.right

-- such a row is made of bytes
row-bytes : (card : ℕ) (r : Row) → SmallRow r → Each IsByte (row_bytes card r)
unfolding row_bytes in_bytes cell_bytes Each
row-bytes card r s = omega arith

-- the flag of a row is a byte
flag_small : (f : Flagging) (w : FlagOf f) → flag_number f w < 256
unfolding flag_number comparison_number direction_number
flag_small no_flag w = omega arith
flag_small of_comparison equal = omega arith
flag_small of_comparison unequal = omega arith
flag_small of_comparison less = omega arith
flag_small of_comparison greater = omega arith
flag_small of_comparison at_most = omega arith
flag_small of_comparison at_least = omega arith
flag_small of_direction forward = omega arith
flag_small of_direction backward = omega arith

-- the kind and the place of an element's cell are bytes, wherever its literal bytes stand
abbrev SmallElement : PatternElement → Type 0
SmallElement x = (at : ℕ) → SmallCell (pattern_cell at x)

-- the kind and the place of an item's cell are bytes
abbrev SmallItem : Item → Type 0
SmallItem x = SmallCell (item_cell x)

-- the row of a statement, its elements and its items
record SmallStatement (s : Statement) : Type 0 where
  row : (element item : ℕ) → SmallRow (statement_row element item s)
  elements : Each SmallElement (elements_of s)
  items : Each SmallItem (items_of s)

-- the rows of steps, their elements and their items
record SmallSteps (ss : List Step) : Type 0 where
  rows : (element item : ℕ) → Each IsByte (step_rows element item ss)
  elements : Each SmallElement (all_elements ss)
  items : Each SmallItem (all_items ss)

-- what is in range in a program of so many strings, numbers and steps
module _ (e : Edition) (strings numbers steps : ℕ) (short : strings ≤ 32) (few : numbers ≤ 32) where
  -- the kind and the place of a row's cells
  left_small : (l : Lefting) (w : LeftOf l) → left_holds e strings numbers steps l w ≡ true → SmallCell (left_cell l w)
  unfolding left_holds left_cell part_holds operand_holds part_cell operand_cell no_cell
  left_small no_left w h = record { kind = omega arith; place = omega arith }
  left_small number_left w h = class_small e strings numbers steps few short operand_class 0 (variable w) h
  left_small string_left w h = class_small e strings numbers steps few short part_class 0 (whole w) h
  left_small part_left w h = class_small e strings numbers steps few short part_class 0 w h
  left_small operand_left w h = class_small e strings numbers steps few short operand_class 0 w h

  right_small : (b : Bool) (reference : ℕ) (r : Righting) (w : RightOf r) → right_holds e strings numbers steps b reference r w ≡ true
      → (element item : ℕ) → SmallCell (right_cell element item r w)
  unfolding right_holds right_cell operand_holds operand_cell no_cell range_cell
  right_small b reference no_right w h element item = record { kind = omega arith; place = omega arith }
  right_small b reference operand_right w h element item =
      class_small e strings numbers steps few short operand_class 0 w (both_true b (operand_holds e strings numbers steps w) h).1
  right_small b reference items_right w h element item = record { kind = omega arith; place = omega arith }
  right_small b reference elements_right w h element item = record { kind = omega arith; place = omega arith }
  right_small b reference pattern_right w h element item = record { kind = omega arith; place = omega arith }
  right_small b reference replacing_right w h element item = record { kind = omega arith; place = omega arith }

  -- its items and its elements
  items_small : (xs : List Item) → all (item_holds e strings numbers steps) xs ≡ true → Each SmallItem xs
  unfolding item_holds item_cell
  items_small xs h = all_tested SmallItem (item_holds e strings numbers steps) (class_small e strings numbers steps few short item_class 0) xs h

  patterns_small : (xs : List PatternElement) → all (pattern_holds e strings numbers steps) xs ≡ true → Each SmallElement xs
  unfolding pattern_holds pattern_cell
  patterns_small xs h =
      all_tested SmallElement (pattern_holds e strings numbers steps)
      (λ x g at. class_small e strings numbers steps few short pattern_class at x g) xs h

  elements_small : (xs : List Element) → row_holds e strings numbers steps xs ≡ true → Each SmallElement (map value xs)
  unfolding row_holds element_holds pattern_cell
  elements_small xs h =
      let holds = both_true (leb (length xs) 20) (all (element_holds e strings numbers steps) xs) h in
      all_map SmallElement value xs
      (all_tested (λ x. SmallElement (value x)) (element_holds e strings numbers steps)
      (λ x g at. class_small e strings numbers steps few short element_class at x g) xs holds.1)

  right_elements_small : (b : Bool) (reference : ℕ) (r : Righting) (w : RightOf r) → right_holds e strings numbers steps b reference r w ≡ true
      → Each SmallElement (right_elements r w) × Each SmallItem (right_items r w)
  unfolding right_holds right_elements right_items Each
  right_elements_small b reference no_right w h = (tt, tt)
  right_elements_small b reference operand_right w h = (tt, tt)
  right_elements_small b reference items_right w h =
      let items = all (item_holds e strings numbers steps) w in
      (tt, items_small w (both_true (balanced 0 w) items (both_true b (balanced 0 w && items) h).1).1)
  right_elements_small b reference elements_right w h = (elements_small w (both_true b (row_holds e strings numbers steps w) h).1, tt)
  right_elements_small b reference pattern_right w h =
      (patterns_small w (patterns_all e strings numbers steps reference w (both_true b (patterns_hold e strings numbers steps reference w) h).1), tt)
  right_elements_small b reference replacing_right w h =
      let pattern = patterns_hold e strings numbers steps reference w.0 in
      let row = row_holds e strings numbers steps w.1 in
      let holds = both_true pattern row (both_true b (pattern && row) h).1 in
      let xs = patterns_small w.0 (patterns_all e strings numbers steps reference w.0 holds.0) in
      (each-join SmallElement w.0 (map value w.1) xs (elements_small w.1 holds.1), tt)

  -- what a statement that holds gives
  statement_small : (s : Statement) → statement_holds e strings numbers steps s ≡ true → SmallStatement s
  unfolding statement_holds elements_of items_of statement_row row_for
  statement_small s h =
      let x = spell_statement s in
      let k = x.kind in
      let reference = left_place k.lefting x.left in
      let left = left_holds e strings numbers steps k.lefting x.left in
      let right = right_holds e strings numbers steps left reference k.righting x.right in
      let right_true = steps_front e strings numbers steps right k.stepping x.steps h in
      let left_true = right_front e strings numbers steps left reference k.righting x.right right_true in
      let own = right_elements_small left reference k.righting x.right right_true in
      record {
        row =
            λ element item.
            record {
              kind = omega (arith, row_small s);
              flag = flag_small k.flagging x.flag;
              left = left_small k.lefting x.left left_true;
              right = right_small left reference k.righting x.right right_true element item;
            };
        elements = own.0;
        items = own.1;
      }

  -- what steps that hold give
  steps_small : (ss : List Step) → all (step_holds e strings numbers steps) ss ≡ true → SmallSteps ss
  unfolding all step_holds step_rows all_elements all_items Each
  steps_small [] h = record { rows = λ element item. tt; elements = tt; items = tt }
  steps_small (x ∷ xs) h =
      let y = x.statement in
      let holds = (and-eq-true_iff (step_holds e strings numbers steps x) (all (step_holds e strings numbers steps) xs)).0 h in
      let step = (and-eq-true_iff (ltb x.card (2 ^ 16)) (statement_holds e strings numbers steps y)).0 holds.0 in
      let own = statement_small y step.1 in
      let rest = steps_small xs holds.1 in
      record {
        rows =
            λ element item.
            let r = statement_row element item y in
            let next_element = element + length (elements_of y) in
            let next_item = item + length (items_of y) in
            let own_bytes = row-bytes x.card r (own.row element item) in
            each-join IsByte (row_bytes x.card r) (step_rows next_element next_item xs) own_bytes (rest.rows next_element next_item);
        elements = each-join SmallElement (elements_of y) (all_elements xs) own.elements rest.elements;
        items = each-join SmallItem (items_of y) (all_items xs) own.items rest.items;
      }

-- the bytes of the rows of elements
element-bytes : (at : ℕ) (xs : List PatternElement) → Each SmallElement xs → Each IsByte (element_rows at xs)
unfolding element_rows Each
element-bytes at [] h = tt
element-bytes at (x ∷ xs) h =
    let c = pattern_cell at x in
    let next = at + length (literal_in x) in
    each-join IsByte (cell_bytes c) (element_rows next xs) (cell-bytes c (h.0 at)) (element-bytes next xs h.1)

-- the bytes of the rows of items
item_bytes : (xs : List Item) → Each SmallItem xs → Each IsByte (item_rows xs)
unfolding item_rows Each
item_bytes [] h = tt
item_bytes (x ∷ xs) h =
    let c = item_cell x in
    each-join IsByte (cell_bytes c) (item_rows xs) (cell-bytes c h.0) (item_bytes xs h.1)

-- the bytes of the header
header-bytes : (p : Program) → Each IsByte (header p)
unfolding header format in_bytes Each
header-bytes p = omega arith

-- R14 the table that holds a program is made of bytes, where its literals are
pub image-bytes : (e : Edition) (p : Program) → is_program e p ≡ true → Each IsByte (all_literals (all_elements p.steps))
    → Each IsByte (image e p)
unfolding image
image-bytes e p h w =
    let ok = in_range_lem e p h in
    let ss = p.steps in
    let es = all_elements ss in
    let small = steps_small e p.strings p.numbers (length ss) ok.strings ok.numbers ss ok.hold in
    let literals = filled_to (e.table_size - literals_at) (all_literals es) in
    let items = filled_to (literals_at - items_at) (item_rows (all_items ss)) ++ literals in
    let elements = filled_to (items_at - elements_at) (element_rows 0 es) ++ items in
    let rows = filled_to (elements_at - steps_at) (step_rows 0 0 ss) ++ elements in
    let five = filled-bytes (e.table_size - literals_at) (all_literals es) w in
    let four = region_bytes (literals_at - items_at) (item_rows (all_items ss)) literals (item_bytes (all_items ss) small.items) five in
    let three = region_bytes (items_at - elements_at) (element_rows 0 es) items (element-bytes 0 es small.elements) four in
    let two = region_bytes (elements_at - steps_at) (step_rows 0 0 ss) elements (small.rows 0 0) three in
    region_bytes steps_at (header p) rows (header-bytes p) two
