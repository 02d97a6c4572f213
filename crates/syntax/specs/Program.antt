-- A program: what the run of a deck needs of it. Strings are numbered in order of first appearance, numbers in order of declaration,
-- steps in order of their statements, each from 0. Assumes nothing.
use Rattle.std.specs.Prelude.{Bool, true, false, List, [], ◌∷◌, ℕ, ℤ}
use Rattle.std.proofs.Math.Option.{Option}

-- S17 the n of `S$n`, S18 the n of STRING(n,m): a constant, or the number of this place
pub data Length : Type 0 where
  constantly : ℤ → Length
  numbered : ℕ → Length

-- a name, or S17 "A substring is `S$n`"
pub data Part : Type 0 where
  whole : ℕ → Part
  first : ℕ → Length → Part

-- S13, S15 "a signed constant, a number, LENGTH or NUMBER"
pub data Operand : Type 0 where
  constant : ℤ → Operand
  variable : ℕ → Operand
  length_of : ℕ → Operand
  number_of : Part → Operand

-- S11, S12 "+ or -", "* or /"
pub data Operator : Type 0 where
  plus minus times over : Operator

-- S11 "an optional sign of the first term"
pub data Sign : Type 0 where
  positive negative : Sign

-- A numeric expression is a row of items, each operator behind its two sides, V2 "each once its right side is known", and the sign behind
-- its term.
pub data Item : Type 0 where
  operand : Operand → Item
  operator : Operator → Item
  sign : Sign → Item

-- S16 "elements parted by commas: literal, name, substring, STRING call"; STRING(m) is STRING(0,m)
pub data Element : Type 0 where
  literal : List ℕ → Element
  part : Part → Element
  string_call : (n : Length) (m : ℕ) → Element

-- S19 "Fillers, in parentheses, only in a pattern.": filler and pattern are document 01's words
pub data PatternElement : Type 0 where
  value : Element → PatternElement
  free_filler : ℕ → PatternElement
  fixed_filler : ℕ → Length → PatternElement

-- C8 "The two-byte signs `<>`, `<=`, `>=` replace the manual's ≠, ≤, ≥."
pub data Comparison : Type 0 where
  equal unequal less greater at_most at_least : Comparison

-- S14 "IF takes NULL, NUMERIC or two operands and a sign."
pub data Test : Type 0 where
  is_null : ℕ → Test
  is_numeric : Part → Test
  compares : Operand → Comparison → Operand → Test

pub data Direction : Type 0 where
  forward backward : Direction

-- S9 the steps of a branch field: on success and on failure; one left out is the next step
pub record Branch : Type 0 where
  pub success : ℕ
  pub failure : ℕ

-- The statements that are steps (S7; both are document 01's words), with the steps they lead to: ROUTINE goes to the step behind its ENDROUTINE
-- (R4), EXECUTE to the step behind its ROUTINE. WRITE and PRINT, END and EXIT, RETURN and ENDROUTINE do the same.
pub data Statement : Type 0 where
  set_number : ℕ → List Item → Statement
  set_string : Part → List Element → Statement
  goto : ℕ → Statement
  finish : Statement
  if_test : Test → Branch → Statement
  scan : Direction → Part → List PatternElement → Option (List Element) → Branch → Statement
  read : Part → Branch → Statement
  write : List Element → Statement
  execute : ℕ → Statement
  return : Statement

-- a statement with its card
pub record Step : Type 0 where
  pub card : ℕ
  pub statement : Statement

pub record Program : Type 0 where
  pub strings : ℕ
  pub numbers : ℕ
  pub steps : List Step

-- END and EXIT
unfoldable pub is_finish : Statement → Bool
is_finish (set_number i x) = false
is_finish (set_string p xs) = false
is_finish (goto k) = false
is_finish finish = true
is_finish (if_test t b) = false
is_finish (scan d p xs r b) = false
is_finish (read p b) = false
is_finish (write xs) = false
is_finish (execute k) = false
is_finish return = false

-- there is a last step, and it finishes
unfoldable pub last_finishes : List Step → Bool
last_finishes [] = false
last_finishes (s ∷ []) = is_finish s.statement
last_finishes (s ∷ (t ∷ ss)) = last_finishes (t ∷ ss)
