-- The program that a table's bytes read as, whatever they are. Assumes nothing.
use Rattle.std.specs.Prelude.{cond, List, [], ◌∷◌, ℕ, zero, suc, ◌+◌, ◌*◌, ◌/◌, ◌%◌, ◌^◌, eqb, take, drop, get_or}
use Rattle.syntax.specs.Program.{
  Part,
  whole,
  Operand,
  number_of,
  Item,
  operand,
  Element,
  part,
  PatternElement,
  value,
  Comparison,
  equal,
  unequal,
  less,
  greater,
  at_most,
  at_least,
  Direction,
  forward,
  backward,
  Statement,
  finish,
  Step,
  Program,
}
use Rattle.encoding.specs.Kinds.{Valuing, no_value, natural, signed, placed, spelt, Payload, CellKind}
use Rattle.encoding.specs.Kinds.{part_kinds, operand_kinds, item_kinds, element_kinds, pattern_kinds, parts}
use Rattle.encoding.specs.Kinds.{operator_number, sign_number}
use Rattle.encoding.specs.Kinds.{Flagging, no_flag, of_comparison, of_direction, FlagOf, Stepping, no_step, one_step, both_steps, StepsOf}
use Rattle.encoding.specs.Kinds.{Lefting, no_left, number_left, string_left, part_left, operand_left, LeftOf}
use Rattle.encoding.specs.Kinds.{Righting, no_right, operand_right, items_right, elements_right, pattern_right, replacing_right, RightOf}
use Rattle.encoding.specs.Kinds.{RowKind, row_kinds}
use Rattle.encoding.specs.Numerals.{numeral_at, unbiased}
use Rattle.encoding.specs.Table.{Cell, Row, steps_at, elements_at, items_at, literals_at}

unfoldable pub cell_at : List ℕ → ℕ → Cell
cell_at t at = record { kind = get_or t at 0; place = get_or t (at + 1) 0; value = numeral_at 6 t (at + 2) }

-- the three numbers of a range
unfoldable pub range_from : ℕ → ℕ
range_from v = v % 2 ^ 16

unfoldable pub range_count : ℕ → ℕ
range_count v = v / 2 ^ 16 % 2 ^ 16

unfoldable pub range_more : ℕ → ℕ
range_more v = v / 2 ^ 32

-- the value that a kind keeps, given the table, where the literal bytes are
unfoldable pub payload_in : List ℕ → (v : Valuing) → ℕ → Payload v
payload_in t no_value n = tt
payload_in t natural n = unbiased n
payload_in t signed n = unbiased n
payload_in t placed n = n
payload_in t spelt n = take (range_count n) (drop (literals_at + range_from n) t)

-- what a cell of one of these kinds stands for; a cell of no such kind for this other thing
unfoldable pub read_cell : {A : Type 0} → (other : A) → List (CellKind A) → List ℕ → Cell → A
read_cell other [] t c = other
read_cell other (k ∷ ks) t c =
    cond (eqb c.kind k.number) (k.make c.place (payload_in t k.valuing c.value)) (read_cell other ks t c)

abbrev pub other_part : Part
other_part = whole 0

unfoldable pub part_of_cell : ℕ → Cell → Part
unfolding read_cell payload_in part_kinds
part_of_cell kind c = read_cell other_part (part_kinds kind) [] c

unfoldable pub operand_of_cell : Cell → Operand
unfolding read_cell payload_in part_kinds operand_kinds
operand_of_cell c = read_cell (number_of other_part) operand_kinds [] c

unfoldable pub item_of_cell : Cell → Item
unfolding read_cell payload_in part_kinds operand_kinds item_kinds operator_number sign_number
item_of_cell c = read_cell (operand (number_of other_part)) item_kinds [] c

unfoldable pub element_of_cell : List ℕ → Cell → Element
unfolding read_cell payload_in part_kinds element_kinds
element_of_cell t c = read_cell (part other_part) element_kinds t c

unfoldable pub pattern_of_cell : List ℕ → Cell → PatternElement
unfolding read_cell payload_in part_kinds element_kinds pattern_kinds
pattern_of_cell t c = read_cell (value (part other_part)) pattern_kinds t c

-- so many of the rows of a region, from a place among them on
unfoldable pub read_items : List ℕ → ℕ → ℕ → List Item
read_items t at zero = []
read_items t at (suc n) = item_of_cell (cell_at t (items_at + 8 * at)) ∷ read_items t (at + 1) n

unfoldable pub read_elements : List ℕ → ℕ → ℕ → List Element
read_elements t at zero = []
read_elements t at (suc n) = element_of_cell t (cell_at t (elements_at + 8 * at)) ∷ read_elements t (at + 1) n

unfoldable pub read_pattern : List ℕ → ℕ → ℕ → List PatternElement
read_pattern t at zero = []
read_pattern t at (suc n) = pattern_of_cell t (cell_at t (elements_at + 8 * at)) ∷ read_pattern t (at + 1) n

unfoldable pub comparison_of : ℕ → Comparison
comparison_of k =
    cond (eqb k 1) equal (cond (eqb k 2) unequal (cond (eqb k 3) less (cond (eqb k 4) greater (cond (eqb k 5) at_most at_least))))

unfoldable pub read_row_at : List ℕ → ℕ → Row
read_row_at t at =
    record {
      kind = get_or t at 0;
      flag = get_or t (at + 1) 0;
      success = numeral_at 2 t (at + 4);
      failure = numeral_at 2 t (at + 6);
      left = cell_at t (at + 8);
      right = cell_at t (at + 16);
    }

-- each field of a row
unfoldable pub direction_of : ℕ → Direction
direction_of k = cond (eqb k 1) forward backward

unfoldable pub flag_in : (f : Flagging) → ℕ → FlagOf f
flag_in no_flag n = tt
flag_in of_comparison n = comparison_of n
flag_in of_direction n = direction_of n

unfoldable pub steps_in : (s : Stepping) → Row → StepsOf s
steps_in no_step r = tt
steps_in one_step r = r.success
steps_in both_steps r = record { success = r.success; failure = r.failure }

unfoldable pub left_in : (l : Lefting) → Cell → LeftOf l
left_in no_left c = tt
left_in number_left c = c.place
left_in string_left c = c.place
left_in part_left c = part_of_cell parts c
left_in operand_left c = operand_of_cell c

unfoldable pub right_in : List ℕ → (r : Righting) → Cell → RightOf r
right_in t no_right c = tt
right_in t operand_right c = operand_of_cell c
right_in t items_right c = read_items t (range_from c.value) (range_count c.value)
right_in t elements_right c = read_elements t (range_from c.value) (range_count c.value)
right_in t pattern_right c = read_pattern t (range_from c.value) (range_count c.value)
right_in t replacing_right c = (
  read_pattern t (range_from c.value) (range_count c.value),
  read_elements t (range_from c.value + range_count c.value) (range_more c.value),
)

-- what a row of one of these kinds stands for; a row of no such kind finishes
unfoldable pub read_row : List RowKind → List ℕ → Row → Statement
read_row [] t r = finish
read_row (k ∷ ks) t r =
    cond (eqb r.kind k.number)
    (k.make (flag_in k.flagging r.flag) (steps_in k.stepping r) (left_in k.lefting r.left) (right_in t k.righting r.right))
    (read_row ks t r)

unfoldable pub statement_of_row : List ℕ → Row → Statement
unfolding read_row flag_in steps_in left_in right_in row_kinds
statement_of_row t r = read_row row_kinds t r

unfoldable pub step_in : List ℕ → ℕ → Step
step_in t at = record { card = numeral_at 2 t (at + 2); statement = statement_of_row t (read_row_at t at) }

unfoldable pub read_steps : List ℕ → ℕ → ℕ → List Step
read_steps t k zero = []
read_steps t k (suc n) = step_in t (steps_at + 24 * k) ∷ read_steps t (k + 1) n

-- R14 "the promise says which program it holds"
unfoldable pub program_in : List ℕ → Program
program_in t = record { strings = numeral_at 2 t 4; numbers = numeral_at 2 t 6; steps = read_steps t 0 (numeral_at 2 t 2) }
