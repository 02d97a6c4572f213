-- The table, document 01's word (R14), and its layout (docs/TABLE.md): the bytes that hold a program. A header of counts, then four regions of rows:
-- steps, elements, items, literal bytes, each filled up with zeros. What a cell or row holds is said in Kinds. Assumes nothing.
use Rattle.std.specs.Prelude.{List, [], ◌∷◌, ◌++◌, map, ℕ, ◌+◌, ◌*◌, ◌-◌, ◌^◌, length, replicate}
use Rattle.std.proofs.Math.Option.{Option, none, some}
use Rattle.base.specs.Edition.{Edition}
use Rattle.syntax.specs.Program.{
  Part,
  whole,
  Operand,
  variable,
  Item,
  Element,
  PatternElement,
  value,
  Comparison,
  equal,
  unequal,
  less,
  greater,
  at_most,
  at_least,
  Direction,
  forward,
  backward,
  Statement,
  Step,
  Program,
}
use Rattle.encoding.specs.Kinds.{Valuing, no_value, natural, signed, placed, spelt, Payload, Spelled}
use Rattle.encoding.specs.Kinds.{spell_part, spell_operand, spell_item, spell_element, spell_pattern, parts, nothing_number, range_number}
use Rattle.encoding.specs.Kinds.{operator_number, sign_number}
use Rattle.encoding.specs.Kinds.{Flagging, no_flag, of_comparison, of_direction, FlagOf, Stepping, no_step, one_step, both_steps, StepsOf}
use Rattle.encoding.specs.Kinds.{Lefting, no_left, number_left, string_left, part_left, operand_left, LeftOf}
use Rattle.encoding.specs.Kinds.{Righting, no_right, operand_right, items_right, elements_right, pattern_right, replacing_right, RightOf}
use Rattle.encoding.specs.Kinds.{SpelledRow, spell_statement}
use Rattle.encoding.specs.Numerals.{in_bytes, biased}

-- A cell of 8 bytes: its kind, a place of a string or number, and a value of 6 bytes.
pub record Cell : Type 0 where
  pub kind : ℕ
  pub place : ℕ
  pub value : ℕ

abbrev pub cell : ℕ → ℕ → ℕ → Cell
cell k i v = record { kind = k; place = i; value = v }

unfoldable pub no_cell : Cell
no_cell = cell nothing_number 0 0

unfoldable pub cell_bytes : Cell → List ℕ
cell_bytes c = c.kind ∷ (c.place ∷ in_bytes 6 c.value)

-- two numbers of 2 bytes as one value, and three
unfoldable pub range_value : (from count more : ℕ) → ℕ
range_value from count more = from + 2 ^ 16 * (count + 2 ^ 16 * more)

-- the value that a kind keeps, and the literal bytes it has beside it, whose place among all literal bytes is given
unfoldable pub payload_value : (literal : ℕ) (v : Valuing) → Payload v → ℕ
payload_value at no_value u = 0
payload_value at natural z = biased z
payload_value at signed z = biased z
payload_value at placed i = i
payload_value at spelt w = range_value at (length w) 0

unfoldable pub literal_of : (v : Valuing) → Payload v → List ℕ
literal_of no_value u = []
literal_of natural z = []
literal_of signed z = []
literal_of placed i = []
literal_of spelt w = w

unfoldable pub cell_for : {A : Type 0} → (literal : ℕ) → Spelled A → Cell
cell_for at s = cell s.kind.number s.place (payload_value at s.kind.valuing s.payload)

-- a string or its first bytes, by the first of their kinds; an operand, an item, an element, and one of a pattern
unfoldable pub part_cell : ℕ → Part → Cell
unfolding cell_for payload_value spell_part
part_cell kind p = cell_for 0 (spell_part kind p)

unfoldable pub operand_cell : Operand → Cell
unfolding cell_for payload_value spell_part spell_operand
operand_cell a = cell_for 0 (spell_operand a)

unfoldable pub item_cell : Item → Cell
unfolding cell_for payload_value spell_part spell_operand spell_item operator_number sign_number
item_cell x = cell_for 0 (spell_item x)

unfoldable pub element_cell : ℕ → Element → Cell
unfolding cell_for payload_value spell_part spell_element
element_cell at x = cell_for at (spell_element x)

unfoldable pub pattern_cell : ℕ → PatternElement → Cell
unfolding cell_for payload_value spell_part spell_element spell_pattern
pattern_cell at x = cell_for at (spell_pattern x)

unfoldable pub literal_in : PatternElement → List ℕ
unfolding literal_of spell_part spell_element spell_pattern
literal_in x = literal_of (spell_pattern x).kind.valuing (spell_pattern x).payload

-- the elements and items of a row's right cell, and of a statement, in the order of the deck
unfoldable pub right_elements : (r : Righting) → RightOf r → List PatternElement
right_elements no_right u = []
right_elements operand_right a = []
right_elements items_right x = []
right_elements elements_right xs = map value xs
right_elements pattern_right xs = xs
right_elements replacing_right x = x.0 ++ map value x.1

unfoldable pub right_items : (r : Righting) → RightOf r → List Item
right_items no_right u = []
right_items operand_right a = []
right_items items_right x = x
right_items elements_right xs = []
right_items pattern_right xs = []
right_items replacing_right x = []

unfoldable pub elements_of : Statement → List PatternElement
unfolding right_elements spell_statement
elements_of s = right_elements (spell_statement s).kind.righting (spell_statement s).right

unfoldable pub items_of : Statement → List Item
unfolding right_items spell_statement
items_of s = right_items (spell_statement s).kind.righting (spell_statement s).right

-- what a scan puts, nothing where it has no replacement
unfoldable pub replacement_of : Option (List Element) → List Element
replacement_of none = []
replacement_of (some xs) = xs

-- A row of 24 bytes: its kind, a flag, the card, the steps of the branch field, two cells.
pub record Row : Type 0 where
  pub kind : ℕ
  pub flag : ℕ
  pub success : ℕ
  pub failure : ℕ
  pub left : Cell
  pub right : Cell

unfoldable pub row_bytes : ℕ → Row → List ℕ
row_bytes card r =
    r.kind
    ∷ (r.flag
    ∷ (in_bytes 2 card
    ++ (in_bytes 2 r.success ++ (in_bytes 2 r.failure ++ (cell_bytes r.left ++ cell_bytes r.right)))))

abbrev pub row_with : (kind flag success failure : ℕ) → Cell → Cell → Row
row_with kind flag success failure left right =
    record { kind = kind; flag = flag; success = success; failure = failure; left = left; right = right }

-- a stretch of elements or items, from a place among all of them
unfoldable pub range_cell : (from count more : ℕ) → Cell
range_cell from count more = cell range_number 0 (range_value from count more)

unfoldable pub comparison_number : Comparison → ℕ
comparison_number equal = 1
comparison_number unequal = 2
comparison_number less = 3
comparison_number greater = 4
comparison_number at_most = 5
comparison_number at_least = 6

unfoldable pub direction_number : Direction → ℕ
direction_number forward = 1
direction_number backward = 2

-- each field of a row; elements and items start at these places among all of them
unfoldable pub flag_number : (f : Flagging) → FlagOf f → ℕ
flag_number no_flag u = 0
flag_number of_comparison c = comparison_number c
flag_number of_direction d = direction_number d

unfoldable pub success_of : (s : Stepping) → StepsOf s → ℕ
success_of no_step u = 0
success_of one_step k = k
success_of both_steps b = b.success

unfoldable pub failure_of : (s : Stepping) → StepsOf s → ℕ
failure_of no_step u = 0
failure_of one_step k = 0
failure_of both_steps b = b.failure

unfoldable pub left_cell : (l : Lefting) → LeftOf l → Cell
left_cell no_left u = no_cell
left_cell number_left i = operand_cell (variable i)
left_cell string_left s = part_cell parts (whole s)
left_cell part_left p = part_cell parts p
left_cell operand_left a = operand_cell a

unfoldable pub right_cell : (element item : ℕ) (r : Righting) → RightOf r → Cell
right_cell element item no_right u = no_cell
right_cell element item operand_right a = operand_cell a
right_cell element item items_right x = range_cell item (length x) 0
right_cell element item elements_right xs = range_cell element (length xs) 0
right_cell element item pattern_right xs = range_cell element (length xs) 0
right_cell element item replacing_right x = range_cell element (length x.0) (length x.1)

unfoldable pub row_for : (element item : ℕ) → SpelledRow → Row
row_for element item s =
    row_with s.kind.number (flag_number s.kind.flagging s.flag) (success_of s.kind.stepping s.steps)
    (failure_of s.kind.stepping s.steps) (left_cell s.kind.lefting s.left) (right_cell element item s.kind.righting s.right)

unfoldable pub statement_row : (element item : ℕ) → Statement → Row
unfolding row_for flag_number success_of failure_of left_cell right_cell spell_statement
statement_row element item s = row_for element item (spell_statement s)

unfoldable pub step_rows : (element item : ℕ) → List Step → List ℕ
step_rows element item [] = []
step_rows element item (s ∷ ss) =
    row_bytes s.card (statement_row element item s.statement)
    ++ step_rows (element + length (elements_of s.statement)) (item + length (items_of s.statement)) ss

unfoldable pub all_elements : List Step → List PatternElement
all_elements [] = []
all_elements (s ∷ ss) = elements_of s.statement ++ all_elements ss

unfoldable pub all_items : List Step → List Item
all_items [] = []
all_items (s ∷ ss) = items_of s.statement ++ all_items ss

unfoldable pub all_literals : List PatternElement → List ℕ
all_literals [] = []
all_literals (x ∷ xs) = literal_in x ++ all_literals xs

unfoldable pub element_rows : (literal : ℕ) → List PatternElement → List ℕ
element_rows at [] = []
element_rows at (x ∷ xs) = cell_bytes (pattern_cell at x) ++ element_rows (at + length (literal_in x)) xs

unfoldable pub item_rows : List Item → List ℕ
item_rows [] = []
item_rows (i ∷ is) = cell_bytes (item_cell i) ++ item_rows is

-- bytes filled up with zeros
unfoldable pub filled_to : ℕ → List ℕ → List ℕ
filled_to n bs = bs ++ replicate (n - length bs) 0

-- where each region starts
unfoldable pub steps_at : ℕ
steps_at = 64

unfoldable pub elements_at : ℕ
elements_at = 6208

unfoldable pub items_at : ℕ
items_at = 14400

unfoldable pub literals_at : ℕ
literals_at = 22592

-- the first byte of every table
unfoldable pub format : ℕ
format = 1

unfoldable pub header : Program → List ℕ
header p =
    let elements = all_elements p.steps in
    format
    ∷ (0
    ∷ (in_bytes 2 (length p.steps)
    ++ (in_bytes 2 p.strings
    ++ (in_bytes 2 p.numbers
    ++ (in_bytes 2 (length elements) ++ (in_bytes 2 (length (all_items p.steps)) ++ in_bytes 2 (length (all_literals elements))))))))

-- R14 the bytes of the table that holds a program: "its unused bytes are zero"
unfoldable pub image : Edition → Program → List ℕ
image e p =
    filled_to steps_at (header p)
    ++ (filled_to (elements_at - steps_at) (step_rows 0 0 p.steps)
    ++ (filled_to (items_at - elements_at) (element_rows 0 (all_elements p.steps))
    ++ (filled_to (literals_at - items_at) (item_rows (all_items p.steps))
    ++ filled_to (e.table_size - literals_at) (all_literals (all_elements p.steps)))))
