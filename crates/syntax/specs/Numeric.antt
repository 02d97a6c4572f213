-- Document 01, "Statements": operands, numeric expressions, the tests of IF. Assumes nothing.
use Rattle.std.specs.Prelude.{true, false, ◌||◌, List, [], ◌∷◌, ◌++◌, ℕ, zero, suc, ◌+◌, ◌*◌, ltb, pos, length, drop, get_or}
use Rattle.base.specs.Edition.{Edition}
use Rattle.base.specs.Limits as Limits
use Rattle.base.specs.Lists.{begins}
use Rattle.base.specs.Text.{bytes}
use Rattle.cards.specs.Bytes.{is_digit}
use Rattle.syntax.specs.Program.{
  Operand,
  constant,
  variable,
  length_of,
  number_of,
  Operator,
  plus,
  minus,
  times,
  over,
  positive,
  negative,
  Item,
  operand,
  operator,
  sign,
  Comparison,
  equal,
  unequal,
  less,
  greater,
  at_most,
  at_least,
  Test,
  is_null,
  is_numeric,
  compares,
}
use Rattle.syntax.specs.Parsing.{one_item, Parsed, got, broken, ◌>>=◌, succeed, expect}
use Rattle.syntax.specs.Lexemes.{Resolution, unsigned, signed, is_sign, no_role, number_name, string_name, part_name}

-- S13 "at most 16 deep"
unfoldable pub deepest : ℕ
deepest = Limits.parentheses

-- fuel that is always enough for the readers of numeric expressions
unfoldable pub fuel_for : List ℕ → ℕ
fuel_for bs = 4 * length bs + 4

-- an operator with the bytes behind it, read where more terms or more factors may follow
unfoldable pub sum_operator : List ℕ → Parsed Operator
sum_operator bs = elim (begins (bytes "+") bs) [
  | true ↦ got plus one_item (drop 1 bs)
  | false ↦ elim (begins (bytes "-") bs) [ true ↦ got minus one_item (drop 1 bs) | false ↦ broken ]
]

unfoldable pub product_operator : List ℕ → Parsed Operator
product_operator bs = elim (begins (bytes "*") bs) [
  | true ↦ got times one_item (drop 1 bs)
  | false ↦ elim (begins (bytes "/") bs) [ true ↦ got over one_item (drop 1 bs) | false ↦ broken ]
]

-- S11 "an optional sign of the first term"
unfoldable pub leading_sign : List ℕ → Parsed (List Item)
leading_sign bs = elim (begins (bytes "+") bs) [
  | true ↦ got (sign positive ∷ []) one_item (drop 1 bs)
  | false ↦ elim (begins (bytes "-") bs) [
    | true ↦ got (sign negative ∷ []) one_item (drop 1 bs)
    | false ↦ succeed [] bs
  ]
]

-- the six signs; C8 the two-byte ones first
unfoldable pub comparison : List ℕ → Parsed Comparison
comparison bs = elim (begins (bytes "<>") bs) [
  | true ↦ succeed unequal (drop 2 bs)
  | false ↦ elim (begins (bytes "<=") bs) [
    | true ↦ succeed at_most (drop 2 bs)
    | false ↦ elim (begins (bytes ">=") bs) [
      | true ↦ succeed at_least (drop 2 bs)
      | false ↦ elim (begins (bytes "=") bs) [
        | true ↦ succeed equal (drop 1 bs)
        | false ↦ elim (begins (bytes "<") bs) [
          | true ↦ succeed less (drop 1 bs)
          | false ↦ elim (begins (bytes ">") bs) [ true ↦ succeed greater (drop 1 bs) | false ↦ broken ]
        ]
      ]
    ]
  ]
]

module _ (e : Edition) (at : Resolution) where
  -- S13, S15 "a declared number, LENGTH(name), NUMBER(name or substring)"
  unfoldable pub called_or_number : List ℕ → Parsed Operand
  called_or_number bs = elim (begins (bytes "LENGTH(") bs) [
    | true ↦ do
      (s, rest) ← string_name e at no_role (drop 7 bs)
      (_, rest) ← expect (bytes ")") rest
      succeed (length_of s) rest
    | false ↦ elim (begins (bytes "NUMBER(") bs) [
      | true ↦ do
        (p, rest) ← part_name e at no_role (drop 7 bs)
        (_, rest) ← expect (bytes ")") rest
        succeed (number_of p) rest
      | false ↦ do
        (i, rest) ← number_name e at bs
        succeed (variable i) rest
    ]
  ]

  -- S13 a factor but for parentheses: "an unsigned constant" or one of those
  unfoldable pub plain_factor : List ℕ → Parsed Operand
  plain_factor bs = elim (is_digit (get_or bs 0 0)) [
    | true ↦ do
      (v, rest) ← unsigned e bs
      succeed (constant (pos v)) rest
    | false ↦ called_or_number bs
  ]

  -- S15 "An operand is a signed constant, a number, LENGTH or NUMBER."
  unfoldable pub if_operand : List ℕ → Parsed Operand
  if_operand bs = elim (is_digit (get_or bs 0 0) || is_sign bs) [
    | true ↦ do
      (v, rest) ← signed e bs
      succeed (constant v) rest
    | false ↦ called_or_number bs
  ]

  -- S14 "IF takes NULL, NUMERIC or two operands and a sign."
  unfoldable pub test : List ℕ → Parsed Test
  test bs = elim (begins (bytes "NULL(") bs) [
    | true ↦ do
      (s, rest) ← string_name e at no_role (drop 5 bs)
      (_, rest) ← expect (bytes ")") rest
      succeed (is_null s) rest
    | false ↦ elim (begins (bytes "NUMERIC(") bs) [
      | true ↦ do
        (p, rest) ← part_name e at no_role (drop 8 bs)
        (_, rest) ← expect (bytes ")") rest
        succeed (is_numeric p) rest
      | false ↦ do
        (a, rest) ← if_operand bs
        (c, rest) ← comparison rest
        (b, rest) ← if_operand rest
        succeed (compares a c b) rest
    ]
  ]

  -- The readers call each other at a depth of parentheses; fuel bounds how deep the calls go, and fuel_for is always enough.
  unfoldable mutual
    -- S11 "an optional sign of the first term, then terms joined by + or -"
    pub expression_at : (fuel depth : ℕ) → List ℕ → Parsed (List Item)
    expression_at zero d bs = broken
    expression_at (suc k) d bs = do
      (signs, rest) ← leading_sign bs
      (t, rest) ← term_at k d rest
      more_terms k d (t ++ signs) rest

    pub more_terms : (fuel depth : ℕ) → List Item → List ℕ → Parsed (List Item)
    more_terms zero d before bs = broken
    more_terms (suc k) d before bs = elim (is_sign bs) [
      | true ↦ do
        (o, rest) ← sum_operator bs
        (t, rest) ← term_at k d rest
        more_terms k d (before ++ (t ++ (operator o ∷ []))) rest
      | false ↦ succeed before bs
    ]

    -- S12 "A term is factors joined by * or /."
    pub term_at : (fuel depth : ℕ) → List ℕ → Parsed (List Item)
    term_at zero d bs = broken
    term_at (suc k) d bs = do
      (f, rest) ← factor_at k d bs
      more_factors k d f rest

    pub more_factors : (fuel depth : ℕ) → List Item → List ℕ → Parsed (List Item)
    more_factors zero d before bs = broken
    more_factors (suc k) d before bs = elim (begins (bytes "*") bs || begins (bytes "/") bs) [
      | true ↦ do
        (o, rest) ← product_operator bs
        (f, rest) ← factor_at k d rest
        more_factors k d (before ++ (f ++ (operator o ∷ []))) rest
      | false ↦ succeed before bs
    ]

    -- S13 "or an expression in parentheses, at most 16 deep"
    pub factor_at : (fuel depth : ℕ) → List ℕ → Parsed (List Item)
    factor_at zero d bs = broken
    factor_at (suc k) d bs = elim (begins (bytes "(") bs) [
      | true ↦ elim (ltb d deepest) [
        | true ↦ do
          (x, rest) ← expression_at k (suc d) (drop 1 bs)
          (_, rest) ← expect (bytes ")") rest
          succeed x rest
        | false ↦ broken
      ]
      | false ↦ do
        (a, rest) ← plain_factor bs
        got (operand a ∷ []) one_item rest
    ]

  unfoldable pub numeric_expression : List ℕ → Parsed (List Item)
  numeric_expression bs = expression_at (fuel_for bs) 0 bs
