-- Document 01, "Values": the values of operands, expressions and tests in a memory. Assumes nothing.
use Rattle.std.specs.Prelude.{Bool, ◌&&◌, ◌||◌, List, [], ◌∷◌, ◌++◌, ℕ, ℤ, pos, neg_ℤ, length}
use Rattle.std.specs.Int.Signed.{lt_z, le_z}
use Rattle.base.specs.Edition.{Edition}
use Rattle.base.specs.Lists.{is_nil}
use Rattle.syntax.specs.Program.{
  Length,
  constantly,
  numbered,
  Part,
  whole,
  first,
  Operand,
  constant,
  variable,
  length_of,
  number_of,
  Operator,
  plus,
  minus,
  times,
  over,
  Sign,
  positive,
  negative,
  Item,
  operand,
  operator,
  sign,
  Element,
  literal,
  part,
  string_call,
  Comparison,
  equal,
  unequal,
  less,
  greater,
  at_most,
  at_least,
  Test,
  is_null,
  is_numeric,
  compares,
}
use Rattle.values.specs.Conversion as Conversion
use Rattle.values.specs.Conversion.{substring, text_of}
use Rattle.values.specs.Numbers.{sum, difference, product, quotient}
use Rattle.values.specs.Result.{Result, ◌>>=◌, pure}
use Rattle.machine.specs.State.{Memory, string_at, number_at}

unfoldable pub length_in : Memory → Length → ℤ
length_in m (constantly z) = z
length_in m (numbered i) = number_at m i

-- V3, V4 a name's string, or its substring
unfoldable pub part_in : Memory → Part → Result (List ℕ)
part_in m (whole s) = pure (string_at m s)
part_in m (first s n) = substring (string_at m s) (length_in m n)

-- Q18, Q19 each operator's result is held to the range at once
unfoldable pub operation : Edition → Operator → ℤ → ℤ → Result ℤ
operation e plus a b = sum e a b
operation e minus a b = difference e a b
operation e times a b = product e a b
operation e over a b = quotient e a b

-- an item adds to the numbers known, the latest first: an operand its value, an operator what it makes of the latest two
unfoldable pub combined : (ℤ → ℤ → Result ℤ) → List ℤ → Result (List ℤ)
combined f [] = pure []
combined f (b ∷ []) = pure (b ∷ [])
combined f (b ∷ (a ∷ known)) = f a b >>= λ z. pure (z ∷ known)

unfoldable pub sign_in : Sign → List ℤ → List ℤ
sign_in positive known = known
sign_in negative [] = []
sign_in negative (a ∷ known) = neg_ℤ a ∷ known

unfoldable pub latest : List ℤ → ℤ
latest [] = pos 0
latest (z ∷ known) = z

unfoldable pub compared : Comparison → ℤ → ℤ → Bool
compared equal a b = le_z a b && le_z b a
compared unequal a b = lt_z a b || lt_z b a
compared less a b = lt_z a b
compared greater a b = lt_z b a
compared at_most a b = le_z a b
compared at_least a b = le_z b a

module _ (e : Edition) (m : Memory) where
  unfoldable pub operand_in : Operand → Result ℤ
  operand_in (constant z) = pure z
  operand_in (variable i) = pure (number_at m i)
  operand_in (length_of s) = pure (pos (length (string_at m s)))
  operand_in (number_of p) = do
    s ← part_in m p
    Conversion.number_of e s

  unfoldable pub item_in : List ℤ → Item → Result (List ℤ)
  item_in known (operand a) = operand_in a >>= λ z. pure (z ∷ known)
  item_in known (operator o) = combined (operation e o) known
  item_in known (sign s) = pure (sign_in s known)

  unfoldable pub items_in : List ℤ → List Item → Result (List ℤ)
  items_in known [] = pure known
  items_in known (i ∷ is) = do
    more ← item_in known i
    items_in more is

  -- V2 "Operators go left to right, * and / first, each once its right side is known"
  unfoldable pub numeric_in : List Item → Result ℤ
  numeric_in is = do
    known ← items_in [] is
    pure (latest known)

  unfoldable pub element_in : Element → Result (List ℕ)
  element_in (literal w) = pure w
  element_in (part p) = part_in m p
  element_in (string_call n i) = text_of (length_in m n) (number_at m i)

  unfoldable pub string_in : List Element → Result (List ℕ)
  string_in [] = pure []
  string_in (x ∷ xs) = do
    v ← element_in x
    vs ← string_in xs
    pure (v ++ vs)

  -- V7 "a negative substring" is not numeric, V4 with a note
  unfoldable pub numeric_part : Part → Result Bool
  numeric_part p = do
    s ← part_in m p
    pure (Conversion.is_numeric s)

  unfoldable pub test_in : Test → Result Bool
  test_in (is_null s) = pure (is_nil (string_at m s))
  test_in (is_numeric p) = numeric_part p
  test_in (compares a c b) = do
    x ← operand_in a
    y ← operand_in b
    pure (compared c x y)
