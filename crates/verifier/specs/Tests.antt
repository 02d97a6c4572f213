-- The tests that the code makes of a table beside those of cells: of a row by what its kind says of each field, of the steps with their
-- running places, and of the bytes that hold nothing. Assumes nothing.
use Rattle.std.specs.Prelude.{Bool, true, false, cond, ◌&&◌, List, ℕ, zero, suc, ◌+◌, ◌*◌, ◌-◌, ◌≤◌, ◌<◌, ◌^◌, leb, ltb, eqb, take, drop, get_or, replicate, Option, Some, None, option_and_then}
use Rattle.base.specs.Current.{table_size}
use Rattle.base.specs.Limits as Limits
use Rattle.base.specs.Lists.{all}
use Rattle.encoding.specs.Kinds.{Flagging, no_flag, of_comparison, of_direction, Stepping, no_step, one_step, both_steps}
use Rattle.encoding.specs.Kinds.{Lefting, no_left, number_left, string_left, part_left, operand_left}
use Rattle.encoding.specs.Kinds.{Righting, no_right, operand_right, items_right, elements_right, pattern_right, replacing_right}
use Rattle.encoding.specs.Kinds.{nothing_number, range_number, parts, finish_kind}
use Rattle.encoding.specs.Table.{Cell, Row, steps_at}
use Rattle.encoding.specs.TableReading.{read_row_at, range_from, range_count, range_more}
use Rattle.verifier.specs.CellTests.{cell_test}
use Rattle.verifier.specs.Asked.{RowAsks, row_asked}
use Rattle.verifier.specs.Elements.{elements_end}
use Rattle.verifier.specs.Items.{items_end}
use Rattle.verifier.specs.Roles.{roles_test}
use Rattle.encoding.specs.declared.cells.Counts.{Counts}
use Rattle.verifier.specs.declared.steps.Places.{Places}
use Rattle.verifier.specs.declared.steps.Stretches.{Stretches}

-- a sign of comparison, a direction, or 0
unfoldable pub flag_test : Flagging → ℕ → Bool
flag_test no_flag n = eqb n 0
flag_test of_comparison n = leb 1 n && leb n 6
flag_test of_direction n = leb 1 n && leb n 2

-- the steps that the row leads to are steps; those that it doesn't lead to are 0
unfoldable pub steps_test : (steps : ℕ) → Stepping → (success failure : ℕ) → Bool
steps_test steps no_step s f = eqb s 0 && eqb f 0
steps_test steps one_step s f = ltb s steps && eqb f 0
steps_test steps both_steps s f = ltb s steps && ltb f steps

-- what a row's range holds: elements, more of them, items
unfoldable pub stretches : (first more items : ℕ) → Stretches
stretches first more items = record { first = first; more = more; items = items }

unfoldable pub stretches_of : Righting → ℕ → Stretches
stretches_of no_right v = stretches 0 0 0
stretches_of operand_right v = stretches 0 0 0
stretches_of items_right v = stretches 0 (range_more v) (range_count v)
stretches_of elements_right v = stretches (range_count v) (range_more v) 0
stretches_of pattern_right v = stretches (range_count v) (range_more v) 0
stretches_of replacing_right v = stretches (range_count v) (range_more v) 0

unfoldable pub places : (elements items literals : ℕ) → Places
places elements items literals = record { elements = elements; items = items; literals = literals }

abbrev pub start : Places
start = record { elements = 0; items = 0; literals = 0 }

-- a row's range starts where the ones before it end
unfoldable pub start_test : Places → Righting → ℕ → Bool
start_test p no_right v = true
start_test p operand_right v = true
start_test p items_right v = eqb (range_from v) p.items
start_test p elements_right v = eqb (range_from v) p.elements
start_test p pattern_right v = eqb (range_from v) p.elements
start_test p replacing_right v = eqb (range_from v) p.elements

-- only a replacement stands behind the first elements
unfoldable pub most_more : Righting → ℕ
most_more no_right = 0
most_more operand_right = 0
most_more items_right = 0
most_more elements_right = 0
most_more pattern_right = 0
most_more replacing_right = Limits.row_elements

-- the first elements are those of a pattern; their last kind
unfoldable pub is_pattern : Righting → Bool
is_pattern no_right = false
is_pattern operand_right = false
is_pattern items_right = false
is_pattern elements_right = false
is_pattern pattern_right = true
is_pattern replacing_right = true

unfoldable pub last_kind : Righting → ℕ
unfolding is_pattern
last_kind r = cond (is_pattern r) 111 95

-- how many numbers are left of a row's items
unfoldable pub waiting_left : Righting → ℕ
waiting_left no_right = 0
waiting_left operand_right = 0
waiting_left items_right = 1
waiting_left elements_right = 0
waiting_left pattern_right = 0
waiting_left replacing_right = 0

-- the roles of a pattern
unfoldable pub pattern_test : Righting → List ℕ → (reference k count : ℕ) → Bool
unfolding is_pattern
pattern_test right t r k m = cond (is_pattern right) (roles_test t r (replicate 256 false) k m) true

-- a program with these counts
module _ (n : Counts) where
  unfoldable pub left_test : Lefting → Cell → Bool
  left_test no_left c = cell_test n.strings n.numbers nothing_number nothing_number c
  left_test number_left c = cell_test n.strings n.numbers 33 33 c
  left_test string_left c = cell_test n.strings n.numbers parts parts c
  left_test part_left c = cell_test n.strings n.numbers parts 79 c
  left_test operand_left c = cell_test n.strings n.numbers 32 63 c

  unfoldable pub right_test : Righting → Cell → Bool
  right_test no_right c = cell_test n.strings n.numbers nothing_number nothing_number c
  right_test operand_right c = cell_test n.strings n.numbers 32 63 c
  right_test items_right c = cell_test n.strings n.numbers range_number range_number c
  right_test elements_right c = cell_test n.strings n.numbers range_number range_number c
  right_test pattern_right c = cell_test n.strings n.numbers range_number range_number c
  right_test replacing_right c = cell_test n.strings n.numbers range_number range_number c

  -- stretches are not too long, and end within the header's counts
  unfoldable pub stretches_test : Places → Righting → Stretches → Bool
  stretches_test p right s =
      ((leb s.more (most_more right) && leb s.first Limits.row_elements) && leb (p.elements + s.first + s.more) n.elements)
      && leb (p.items + s.items) n.items

  -- the place among the literals behind both stretches of elements
  unfoldable pub literals_end : List ℕ → Places → (high : ℕ) → Stretches → Option ℕ
  literals_end t p high s =
      option_and_then (λ middle. elements_end n.strings n.numbers n.steps 95 t (p.elements + s.first) middle s.more)
      (elements_end n.strings n.numbers n.steps high t p.elements p.literals s.first)

  -- the places behind the elements and items of a row, none where a rule is broken
  unfoldable pub cells_end : List ℕ → Places → Righting → (reference : ℕ) → Stretches → Option Places
  cells_end t p right r s =
      option_and_then (λ known. cond (eqb known (waiting_left right) && pattern_test right t r p.elements s.first)
      (option_and_then (λ l. Some (places (p.elements + s.first + s.more) (p.items + s.items) l)) (literals_end t p (last_kind right) s)) None)
      (items_end n.strings n.numbers n.steps t p.items 0 s.items)

  -- a row by what its kind asks
  unfoldable pub row_test : RowAsks → Row → Bool
  row_test a r =
      ((flag_test a.flagging r.flag && steps_test n.steps a.stepping r.success r.failure) && left_test a.lefting r.left)
      && right_test a.righting r.right

  unfoldable pub step_test : Places → RowAsks → Row → Bool
  step_test p a r =
      (row_test a r && start_test p a.righting r.right.value) && stretches_test p a.righting (stretches_of a.righting r.right.value)

  -- the places behind a row of a kind, behind step k, and behind so many
  unfoldable pub row_end : List ℕ → Places → Row → RowAsks → Option Places
  row_end t p r a = cond (step_test p a r) (cells_end t p a.righting r.left.place (stretches_of a.righting r.right.value)) None

  unfoldable pub places_behind_step : List ℕ → ℕ → Places → Option Places
  places_behind_step t k p =
      let r = read_row_at t (steps_at + 24 * k) in
      option_and_then (row_end t p r) (row_asked r.kind)

  unfoldable pub steps_end : List ℕ → (k : ℕ) → Places → (count : ℕ) → Option Places
  steps_end t k p zero = Some p
  steps_end t k p (suc m) = option_and_then (λ q. steps_end t (k + 1) q m) (places_behind_step t k p)

  unfoldable pub totals_test : Option Places → Bool
  totals_test None = false
  totals_test (Some p) = (eqb p.elements n.elements && eqb p.items n.items) && eqb p.literals n.literals

  unfoldable pub counts_test : Bool
  counts_test =
      (((((leb 1 n.steps && leb n.steps 256) && leb n.strings 32) && leb n.numbers 32) && leb n.elements 1024)
      && leb n.items 1024)
      && leb n.literals 4096

  -- the counts are within their limits
  pub record FewCounts : Type 0 where
    pub some : 1 ≤ n.steps
    pub steps : n.steps ≤ 256
    pub strings : n.strings ≤ 32
    pub numbers : n.numbers ≤ 32
    pub elements : n.elements ≤ 1024
    pub items : n.items ≤ 1024
    pub literals : n.literals ≤ 4096

-- the bytes from..to are zero
unfoldable pub zeros_test : List ℕ → (from to : ℕ) → Bool
zeros_test t from to = all (λ b. eqb b 0) (take (to - from) (drop from t))

module _ (n : Counts) (t : List ℕ) where
  unfoldable pub unused_test : Bool
  unused_test =
      (((zeros_test t 14 64 && zeros_test t (64 + 24 * n.steps) 6208) && zeros_test t (6208 + 8 * n.elements) 14_400)
      && zeros_test t (14_400 + 8 * n.items) 22_592)
      && zeros_test t (22_592 + n.literals) table_size

  unfoldable pub ends_test : Bool
  ends_test = (eqb (get_or t 0 0) 1 && eqb (get_or t 1 0) 0) && eqb (get_or t (64 + 24 * (n.steps - 1)) 0) finish_kind.number

-- numbers of a range are not large
pub record RangesShort (s : Stretches) : Type 0 where
  pub first : s.first < 2 ^ 16
  pub more : s.more < 2 ^ 32
  pub items : s.items < 2 ^ 16

-- places within their regions
pub record PlacesRoom (p : Places) : Type 0 where
  pub elements : p.elements ≤ 1024
  pub items : p.items ≤ 1024
  pub literals : p.literals ≤ 65_536

-- stretches from these places on stay within their regions
pub record StretchesInside (s : Stretches) (p : Places) : Type 0 where
  pub elements : p.elements + s.first + s.more ≤ 1024
  pub items : p.items + s.items ≤ 1024
  pub literals : p.literals ≤ 65_536
