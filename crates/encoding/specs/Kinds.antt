-- The kinds of a table's cells and rows: of each its number, what its fields hold, and what it stands for. Encoding (Table), decoding
-- (TableReading), the rules (Rules) and the code's look-ups follow from these lists; docs/TABLE.md shows them as tables. Numbers leave room
-- between classes, and each place where a cell may stand takes one range of them. Assumes nothing.
use Rattle.std.specs.Prelude.{List, [], ◌∷◌, map, ℕ, ◌+◌, ℤ}
use Rattle.std.proofs.Math.Option.{none, some}
use Rattle.syntax.specs.Program.{
  constantly,
  numbered,
  Part,
  whole,
  first,
  Operand,
  constant,
  variable,
  length_of,
  number_of,
  Operator,
  plus,
  minus,
  times,
  over,
  Sign,
  positive,
  negative,
  Item,
  operand,
  operator,
  sign,
  Element,
  literal,
  part,
  string_call,
  PatternElement,
  value,
  free_filler,
  fixed_filler,
  Comparison,
  is_null,
  is_numeric,
  compares,
  Direction,
  Branch,
  Statement,
  set_number,
  set_string,
  goto,
  finish,
  if_test,
  scan,
  read,
  write,
  execute,
  return,
}

-- what the place of a cell counts: nothing, strings, numbers
pub data Counting : Type 0 where
  no_place of_string of_number : Counting

-- what its value is: nothing, a constant that counts bytes, any constant, the place of a number, a range of literal bytes
pub data Valuing : Type 0 where
  no_value natural signed placed spelt : Valuing

abbrev pub Payload : Valuing → Type 0
Payload no_value = Unit {0}
Payload natural = ℤ
Payload signed = ℤ
Payload placed = ℕ
Payload spelt = List ℕ

-- A kind of cell: what its place and value make.
pub record CellKind (A : Type 0) : Type 0 where
  pub number : ℕ
  pub counting : Counting
  pub valuing : Valuing
  pub make : ℕ → Payload valuing → A

abbrev pub kind : {A : Type 0} → ℕ → (c : Counting) (v : Valuing) → (ℕ → Payload v → A) → CellKind A
kind n c v f = record { number = n; counting = c; valuing = v; make = f }

-- the same kind, of what f makes of it
abbrev pub under : {A B : Type 0} → (A → B) → CellKind A → CellKind B
under f k = kind k.number k.counting k.valuing (λ p v. f (k.make p v))

-- What is written of a thing: its kind, with a place and a value.
pub record Spelled (A : Type 0) : Type 0 where
  pub kind : CellKind A
  pub place : ℕ
  pub payload : Payload kind.valuing

abbrev pub spelled : {A : Type 0} (k : CellKind A) → ℕ → Payload k.valuing → Spelled A
spelled k p v = record { kind = k; place = p; payload = v }

abbrev pub spelled_under : {A B : Type 0} → (A → B) → Spelled A → Spelled B
spelled_under f s = spelled (under f s.kind) s.place s.payload

-- a string and its first bytes, from a number on
abbrev pub whole_kind : ℕ → CellKind Part
whole_kind k = kind k of_string no_value (λ s _. whole s)

abbrev pub first_kind : ℕ → CellKind Part
first_kind k = kind (k + 1) of_string natural (λ s z. first s (constantly z))

abbrev pub first_by_kind : ℕ → CellKind Part
first_by_kind k = kind (k + 2) of_string placed (λ s i. first s (numbered i))

unfoldable pub part_kinds : ℕ → List (CellKind Part)
part_kinds k = whole_kind k ∷ (first_kind k ∷ (first_by_kind k ∷ []))

unfoldable pub spell_part : ℕ → Part → Spelled Part
spell_part k (whole s) = spelled (whole_kind k) s tt
spell_part k (first s (constantly z)) = spelled (first_kind k) s z
spell_part k (first s (numbered i)) = spelled (first_by_kind k) s i

-- Items, 16 to 63: operators from 16 on, signs from 24 on, operands from 32 on.
unfoldable pub operator_number : Operator → ℕ
operator_number plus = 16
operator_number minus = 17
operator_number times = 18
operator_number over = 19

unfoldable pub sign_number : Sign → ℕ
sign_number positive = 24
sign_number negative = 25

abbrev pub operator_kind : Operator → CellKind Item
operator_kind o = kind (operator_number o) no_place no_value (λ _ _. operator o)

abbrev pub sign_kind : Sign → CellKind Item
sign_kind s = kind (sign_number s) no_place no_value (λ _ _. sign s)

abbrev pub constant_kind : CellKind Operand
constant_kind = kind 32 no_place signed (λ _ z. constant z)

abbrev pub number_kind : CellKind Operand
number_kind = kind 33 of_number no_value (λ i _. variable i)

abbrev pub length_kind : CellKind Operand
length_kind = kind 34 of_string no_value (λ s _. length_of s)

-- NUMBER of a string or of its first bytes
abbrev pub number_of_parts : ℕ
number_of_parts = 36

unfoldable pub operand_kinds : List (CellKind Operand)
operand_kinds = constant_kind ∷ (number_kind ∷ (length_kind ∷ map (under number_of) (part_kinds number_of_parts)))

unfoldable pub spell_operand : Operand → Spelled Operand
spell_operand (constant z) = spelled constant_kind 0 z
spell_operand (variable i) = spelled number_kind i tt
spell_operand (length_of s) = spelled length_kind s tt
spell_operand (number_of p) = spelled_under number_of (spell_part number_of_parts p)

unfoldable pub item_kinds : List (CellKind Item)
item_kinds =
    operator_kind plus
    ∷ (operator_kind minus
    ∷ (operator_kind times
    ∷ (operator_kind over ∷ (sign_kind positive ∷ (sign_kind negative ∷ map (under operand) operand_kinds)))))

unfoldable pub spell_item : Item → Spelled Item
spell_item (operand a) = spelled_under operand (spell_operand a)
spell_item (operator o) = spelled (operator_kind o) 0 tt
spell_item (sign s) = spelled (sign_kind s) 0 tt

-- Strings and substrings, 64 to 79, which are elements too; other elements, 80 to 95.
abbrev pub parts : ℕ
parts = 64

abbrev pub literal_kind : CellKind Element
literal_kind = kind 80 no_place spelt (λ _ w. literal w)

abbrev pub text_kind : CellKind Element
text_kind = kind 81 of_number signed (λ m z. string_call (constantly z) m)

abbrev pub text_by_kind : CellKind Element
text_by_kind = kind 82 of_number placed (λ m i. string_call (numbered i) m)

unfoldable pub element_kinds : List (CellKind Element)
element_kinds = literal_kind ∷ (text_kind ∷ (text_by_kind ∷ map (under part) (part_kinds parts)))

unfoldable pub spell_element : Element → Spelled Element
spell_element (literal w) = spelled literal_kind 0 w
spell_element (part p) = spelled_under part (spell_part parts p)
spell_element (string_call (constantly z) m) = spelled text_kind m z
spell_element (string_call (numbered i) m) = spelled text_by_kind m i

-- Fillers, 96 to 111; they and the elements stand in a pattern.
abbrev pub free_kind : CellKind PatternElement
free_kind = kind 96 of_string no_value (λ s _. free_filler s)

abbrev pub fixed_kind : CellKind PatternElement
fixed_kind = kind 97 of_string natural (λ s z. fixed_filler s (constantly z))

abbrev pub fixed_by_kind : CellKind PatternElement
fixed_by_kind = kind 98 of_string placed (λ s i. fixed_filler s (numbered i))

unfoldable pub pattern_kinds : List (CellKind PatternElement)
pattern_kinds = free_kind ∷ (fixed_kind ∷ (fixed_by_kind ∷ map (under value) element_kinds))

unfoldable pub spell_pattern : PatternElement → Spelled PatternElement
spell_pattern (value x) = spelled_under value (spell_element x)
spell_pattern (free_filler s) = spelled free_kind s tt
spell_pattern (fixed_filler s (constantly z)) = spelled fixed_kind s z
spell_pattern (fixed_filler s (numbered i)) = spelled fixed_by_kind s i

-- A row's cell that is none of these: nothing, and a range of items or elements.
abbrev pub nothing_number : ℕ
nothing_number = 0

abbrev pub range_number : ℕ
range_number = 112

-- What a row has beside its number: a flag, the steps it leads to, a left cell and a right one.
pub data Flagging : Type 0 where
  no_flag of_comparison of_direction : Flagging

abbrev pub FlagOf : Flagging → Type 0
FlagOf no_flag = Unit {0}
FlagOf of_comparison = Comparison
FlagOf of_direction = Direction

pub data Stepping : Type 0 where
  no_step one_step both_steps : Stepping

abbrev pub StepsOf : Stepping → Type 0
StepsOf no_step = Unit {0}
StepsOf one_step = ℕ
StepsOf both_steps = Branch

pub data Lefting : Type 0 where
  no_left number_left string_left part_left operand_left : Lefting

abbrev pub LeftOf : Lefting → Type 0
LeftOf no_left = Unit {0}
LeftOf number_left = ℕ
LeftOf string_left = ℕ
LeftOf part_left = Part
LeftOf operand_left = Operand

-- a range of items, of elements, of a pattern, of a pattern with its replacement behind it
pub data Righting : Type 0 where
  no_right operand_right items_right elements_right pattern_right replacing_right : Righting

abbrev pub RightOf : Righting → Type 0
RightOf no_right = Unit {0}
RightOf operand_right = Operand
RightOf items_right = List Item
RightOf elements_right = List Element
RightOf pattern_right = List PatternElement
RightOf replacing_right = List PatternElement × List Element

-- A kind of row: what its fields make.
pub record RowKind : Type 0 where
  pub number : ℕ
  pub flagging : Flagging
  pub stepping : Stepping
  pub lefting : Lefting
  pub righting : Righting
  pub make : FlagOf flagging → StepsOf stepping → LeftOf lefting → RightOf righting → Statement

abbrev pub row_kind : ℕ → (f : Flagging) (s : Stepping) (l : Lefting) (r : Righting)
    → (FlagOf f → StepsOf s → LeftOf l → RightOf r → Statement) → RowKind
row_kind n f s l r m = record { number = n; flagging = f; stepping = s; lefting = l; righting = r; make = m }

-- What is written of a statement: its kind, with all fields.
pub record SpelledRow : Type 0 where
  pub kind : RowKind
  pub flag : FlagOf kind.flagging
  pub steps : StepsOf kind.stepping
  pub left : LeftOf kind.lefting
  pub right : RightOf kind.righting

abbrev pub spelled_row : (k : RowKind) → FlagOf k.flagging → StepsOf k.stepping → LeftOf k.lefting → RightOf k.righting → SpelledRow
spelled_row k f s l r = record { kind = k; flag = f; steps = s; left = l; right = r }

-- a number or a string is set
abbrev pub set_number_kind : RowKind
set_number_kind = row_kind 16 no_flag no_step number_left items_right (λ _ _ i x. set_number i x)

abbrev pub set_string_kind : RowKind
set_string_kind = row_kind 17 no_flag no_step part_left elements_right (λ _ _ p xs. set_string p xs)

-- GOTO and ROUTINE; END and EXIT; EXECUTE; RETURN and ENDROUTINE
abbrev pub goto_kind : RowKind
goto_kind = row_kind 32 no_flag one_step no_left no_right (λ _ k _ _. goto k)

abbrev pub finish_kind : RowKind
finish_kind = row_kind 33 no_flag no_step no_left no_right (λ _ _ _ _. finish)

abbrev pub execute_kind : RowKind
execute_kind = row_kind 34 no_flag one_step no_left no_right (λ _ k _ _. execute k)

abbrev pub return_kind : RowKind
return_kind = row_kind 35 no_flag no_step no_left no_right (λ _ _ _ _. return)

-- IF NULL, IF NUMERIC, IF of two operands and a sign
abbrev pub null_kind : RowKind
null_kind = row_kind 48 no_flag both_steps string_left no_right (λ _ b s _. if_test (is_null s) b)

abbrev pub numeric_kind : RowKind
numeric_kind = row_kind 49 no_flag both_steps part_left no_right (λ _ b p _. if_test (is_numeric p) b)

abbrev pub compare_kind : RowKind
compare_kind = row_kind 50 of_comparison both_steps operand_left operand_right (λ c b x y. if_test (compares x c y) b)

-- SCAN and BACKSCAN, without a replacement and with one
abbrev pub scan_kind : RowKind
scan_kind = row_kind 64 of_direction both_steps part_left pattern_right (λ d b p xs. scan d p xs none b)

abbrev pub replace_kind : RowKind
replace_kind = row_kind 65 of_direction both_steps part_left replacing_right (λ d b p x. scan d p x.0 (some x.1) b)

-- READ; WRITE and PRINT
abbrev pub read_kind : RowKind
read_kind = row_kind 80 no_flag both_steps part_left no_right (λ _ b p _. read p b)

abbrev pub write_kind : RowKind
write_kind = row_kind 81 no_flag no_step no_left elements_right (λ _ _ _ xs. write xs)

unfoldable pub row_kinds : List RowKind
row_kinds =
    set_number_kind
    ∷ (set_string_kind
    ∷ (goto_kind
    ∷ (finish_kind
    ∷ (execute_kind
    ∷ (return_kind
    ∷ (null_kind
    ∷ (numeric_kind
    ∷ (compare_kind ∷ (scan_kind ∷ (replace_kind ∷ (read_kind ∷ (write_kind ∷ []))))))))))))

unfoldable pub spell_statement : Statement → SpelledRow
spell_statement (set_number i x) = spelled_row set_number_kind tt tt i x
spell_statement (set_string p xs) = spelled_row set_string_kind tt tt p xs
spell_statement (goto k) = spelled_row goto_kind tt k tt tt
spell_statement finish = spelled_row finish_kind tt tt tt tt
spell_statement (if_test (is_null s) b) = spelled_row null_kind tt b s tt
spell_statement (if_test (is_numeric p) b) = spelled_row numeric_kind tt b p tt
spell_statement (if_test (compares x c y) b) = spelled_row compare_kind c b x y
spell_statement (scan d p xs none b) = spelled_row scan_kind d b p xs
spell_statement (scan d p xs (some ys) b) = spelled_row replace_kind d b p (xs, ys)
spell_statement (read p b) = spelled_row read_kind tt b p tt
spell_statement (write xs) = spelled_row write_kind tt tt tt xs
spell_statement (execute k) = spelled_row execute_kind tt k tt tt
spell_statement return = spelled_row return_kind tt tt tt tt
