-- The table's rules (docs/TABLE.md): a table keeps them when it is the image of a program that is in range. Assumes nothing.
use Rattle.std.specs.Prelude.{Bool, true, false, not, ◌&&◌, List, [], ◌∷◌, ℕ, suc, ◌-◌, ◌^◌, leb, ltb, eqb, length, take}
use Rattle.std.proofs.Math.Option.{Option, none, some}
use Rattle.base.specs.Edition.{Edition}
use Rattle.base.specs.Limits as Limits
use Rattle.base.specs.Lists.{same, all, any, is_nil}
use Rattle.syntax.specs.Program.{
  Part,
  whole,
  first,
  Operand,
  Item,
  operand,
  operator,
  sign,
  Element,
  literal,
  part,
  string_call,
  PatternElement,
  value,
  free_filler,
  fixed_filler,
  Branch,
  Statement,
  Step,
  Program,
  last_finishes,
}
use Rattle.values.specs.Numbers.{is_negative, is_in_range}
use Rattle.encoding.specs.Kinds.{Counting, no_place, of_string, of_number, Valuing, no_value, natural, signed, placed, spelt, Payload}
use Rattle.encoding.specs.Kinds.{Spelled, spell_part, spell_operand, spell_item, spell_element, spell_pattern, spell_statement, parts}
use Rattle.encoding.specs.Kinds.{Stepping, no_step, one_step, both_steps, StepsOf, Lefting, no_left, number_left, string_left, part_left}
use Rattle.encoding.specs.Kinds.{operand_left, LeftOf, Righting, no_right, operand_right, items_right, elements_right, pattern_right}
use Rattle.encoding.specs.Kinds.{replacing_right, RightOf}
use Rattle.encoding.specs.Table.{image, left_cell, all_elements, all_items, all_literals}
use Rattle.encoding.specs.TableReading.{program_in}

-- the most numbers that an expression keeps waiting for an operator
unfoldable pub most_waiting : ℕ
most_waiting = 64

-- each operator finds its two sides, and one number is left
unfoldable pub balanced : ℕ → List Item → Bool
balanced known [] = eqb known 1
balanced known (operand a ∷ is) = ltb known most_waiting && balanced (suc known) is
balanced known (operator o ∷ is) = leb 2 known && balanced (known - 1) is
balanced known (sign s ∷ is) = leb 1 known && balanced known is

unfoldable pub place_of : Part → ℕ
place_of (whole s) = s
place_of (first s n) = s

-- the string that an element of a pattern names, if it does
unfoldable pub named_by : Element → Option ℕ
named_by (literal w) = none
named_by (part p) = some (place_of p)
named_by (string_call n m) = none

unfoldable pub is_among : List ℕ → Option ℕ → Bool
is_among ns none = false
is_among ns (some n) = any (eqb n) ns

-- Q8 "The reference is also a filler, or a pattern string has the name of a filler left of it.": neither is so; fillers are those to the left
unfoldable pub roles_hold : (reference : ℕ) (fillers : List ℕ) → List PatternElement → Bool
roles_hold r fs [] = true
roles_hold r fs (value x ∷ xs) = not (is_among fs (named_by x)) && roles_hold r fs xs
roles_hold r fs (free_filler s ∷ xs) = not (eqb s r) && roles_hold r (s ∷ fs) xs
roles_hold r fs (fixed_filler s n ∷ xs) = not (eqb s r) && roles_hold r (s ∷ fs) xs

-- the place that a left cell names: of a scan that of its reference
unfoldable pub left_place : (l : Lefting) → LeftOf l → ℕ
unfolding left_cell
left_place l w = (left_cell l w).place

-- the strings, numbers and steps that a program has
module _ (e : Edition) (strings numbers steps : ℕ) where
  unfoldable pub place_holds : Counting → ℕ → Bool
  place_holds no_place p = eqb p 0
  place_holds of_string p = ltb p strings
  place_holds of_number p = ltb p numbers

  -- the value holds as well as what comes before it
  unfoldable pub value_holds : Bool → (v : Valuing) → Payload v → Bool
  value_holds b no_value u = b
  value_holds b natural z = b && (is_in_range e z && not (is_negative z))
  value_holds b signed z = b && is_in_range e z
  value_holds b placed i = b && ltb i numbers
  value_holds b spelt w = b && not (is_nil w)

  unfoldable pub holds : {A : Type 0} → Spelled A → Bool
  holds s = value_holds (place_holds s.kind.counting s.place) s.kind.valuing s.payload

  unfoldable pub part_holds : Part → Bool
  unfolding holds value_holds place_holds spell_part
  part_holds p = holds (spell_part parts p)

  unfoldable pub operand_holds : Operand → Bool
  unfolding holds value_holds place_holds spell_part spell_operand
  operand_holds a = holds (spell_operand a)

  unfoldable pub item_holds : Item → Bool
  unfolding holds value_holds place_holds spell_part spell_operand spell_item
  item_holds x = holds (spell_item x)

  unfoldable pub element_holds : Element → Bool
  unfolding holds value_holds place_holds spell_part spell_element
  element_holds x = holds (spell_element x)

  unfoldable pub pattern_holds : PatternElement → Bool
  unfolding holds value_holds place_holds spell_part spell_element spell_pattern
  pattern_holds x = holds (spell_pattern x)

  unfoldable pub row_holds : List Element → Bool
  row_holds xs = leb (length xs) Limits.row_elements && all element_holds xs

  -- a pattern by which this string is searched
  unfoldable pub patterns_hold : (reference : ℕ) → List PatternElement → Bool
  patterns_hold r xs = leb (length xs) Limits.row_elements && (all pattern_holds xs && roles_hold r [] xs)

  unfoldable pub branch_holds : Branch → Bool
  branch_holds b = ltb b.success steps && ltb b.failure steps

  unfoldable pub left_holds : (l : Lefting) → LeftOf l → Bool
  left_holds no_left u = true
  left_holds number_left i = ltb i numbers
  left_holds string_left s = ltb s strings
  left_holds part_left p = part_holds p
  left_holds operand_left a = operand_holds a

  -- the right cell, or the steps, hold as well as what comes before them
  unfoldable pub right_holds : Bool → (reference : ℕ) (r : Righting) → RightOf r → Bool
  right_holds b reference no_right u = b
  right_holds b reference operand_right a = b && operand_holds a
  right_holds b reference items_right x = b && (balanced 0 x && all item_holds x)
  right_holds b reference elements_right xs = b && row_holds xs
  right_holds b reference pattern_right xs = b && patterns_hold reference xs
  right_holds b reference replacing_right x = b && (patterns_hold reference x.0 && row_holds x.1)

  unfoldable pub steps_hold : Bool → (s : Stepping) → StepsOf s → Bool
  steps_hold b no_step u = b
  steps_hold b one_step k = b && ltb k steps
  steps_hold b both_steps f = b && branch_holds f

  unfoldable pub statement_holds : Statement → Bool
  unfolding left_holds right_holds steps_hold left_place spell_statement
  statement_holds s =
      let x = spell_statement s in
      let left = left_holds x.kind.lefting x.left in
      let right = right_holds left (left_place x.kind.lefting x.left) x.kind.righting x.right in
      steps_hold right x.kind.stepping x.steps

  unfoldable pub step_holds : Step → Bool
  step_holds s = ltb s.card (2 ^ 16) && statement_holds s.statement

-- Q10's counts of what a program keeps, and every place in it in range
unfoldable pub is_program : Edition → Program → Bool
is_program e p =
    leb p.strings Limits.strings
    && (leb p.numbers Limits.numbers
    && (leb (length p.steps) Limits.statements
    && (leb (length (all_elements p.steps)) Limits.elements
    && (leb (length (all_items p.steps)) Limits.items
    && (leb (length (all_literals (all_elements p.steps))) Limits.literals
    && (last_finishes p.steps
    && all (step_holds e p.strings p.numbers (length p.steps)) p.steps))))))

-- Q13 "The table breaks its written rules": it doesn't
unfoldable pub keeps_rules : Edition → List ℕ → Bool
keeps_rules e t = is_program e (program_in t) && same (image e (program_in t)) (take e.table_size t)
