-- Document 01, "Statements": string expressions and patterns. Assumes nothing.
use Rattle.std.specs.Prelude.{Bool, true, false, not, ◌||◌, List, [], ◌∷◌, ℕ, zero, suc, ◌+◌, eqb, pos, length, take, drop, get_or}
use Rattle.base.specs.Edition.{Edition}
use Rattle.base.specs.Lists.{begins}
use Rattle.base.specs.Text.{bytes}
use Rattle.cards.specs.Bytes.{is_digit, quote}
use Rattle.syntax.specs.Program.{constantly, numbered, Element, literal, part, string_call, PatternElement, value, free_filler, fixed_filler}
use Rattle.syntax.specs.Parsing.{Role, sought, filler, one_row, one_literal, Parsed, got, ◌>>=◌, succeed, expect}
use Rattle.syntax.specs.Lexemes.{Resolution, run_length, signed, is_sign, no_role, number_name, bound, string_name, part_name}

-- C9 the bytes of a literal behind its first quote: `""` makes the literal of one quote, else all up to the next quote. It also takes one
-- without a byte or without its last quote. The guard is cards/Packing: literals_whole, asked of the statement's text before it was packed: where
-- it fails the form is broken, whatever is read here (validation/Refusals: with_label).
unfoldable pub literal_at : List ℕ → Parsed (List ℕ)
literal_at bs = elim (begins (bytes "\"\"") bs) [
  | true ↦ got (quote ∷ []) (one_literal 1) (drop 2 bs)
  | false ↦
      let n = run_length (λ b. not (eqb b quote)) bs in
      got (take n bs) (one_literal n) (drop (n + 1) bs)
]

-- what may be read between brackets or behind `=`: nothing stands there at the end, before `/` and before `]`
unfoldable pub nothing_here : List ℕ → Bool
nothing_here [] = true
nothing_here (b ∷ bs) = begins (bytes "/") (b ∷ bs) || begins (bytes "]") (b ∷ bs)

module _ {A : Type 0} where
  -- more of the same behind each comma, first to last
  unfoldable pub more_of : (List ℕ → Parsed A) → ℕ → List ℕ → Parsed (List A)
  more_of one zero bs = succeed [] bs
  more_of one (suc k) bs = elim (begins (bytes ",") bs) [
    | true ↦ do
      (x, rest) ← one (drop 1 bs)
      (xs, rest) ← more_of one k rest
      succeed (x ∷ xs) rest
    | false ↦ succeed [] bs
  ]

  -- one, or several parted by commas
  unfoldable pub list_of : (List ℕ → Parsed A) → List ℕ → Parsed (List A)
  list_of one bs = do
    (x, rest) ← one bs
    (xs, rest) ← more_of one (length rest) rest
    succeed (x ∷ xs) rest

  -- S16 "nothing, or elements parted by commas"
  unfoldable pub row_parser : (List ℕ → Parsed A) → List ℕ → Parsed (List A)
  row_parser one bs = elim (nothing_here bs) [
    | true ↦ succeed [] bs
    | false ↦ do
      (xs, rest) ← list_of one bs
      got xs (one_row (length xs)) rest
  ]

module _ (e : Edition) (at : Resolution) where
  -- S18 "The call is STRING(m) or STRING(n,m), m a number."; V11 "A constant n may be signed, a variable may not."
  unfoldable pub text_call : List ℕ → Parsed Element
  text_call bs = elim (is_digit (get_or bs 0 0) || is_sign bs) [
    | true ↦ do
      (n, rest) ← signed e bs
      (_, rest) ← expect (bytes ",") rest
      (m, rest) ← number_name e at rest
      (_, rest) ← expect (bytes ")") rest
      succeed (string_call (constantly n) m) rest
    | false ↦ do
      (i, rest) ← number_name e at bs
      elim (begins (bytes ",") rest) as (λ _. Parsed Element) [
        | true ↦ do
          (m, rest) ← number_name e at (drop 1 rest)
          (_, rest) ← expect (bytes ")") rest
          succeed (string_call (numbered i) m) rest
        | false ↦ do
          (_, rest) ← expect (bytes ")") rest
          succeed (string_call (constantly (pos 0)) i) rest
      ]
  ]

  -- S16 "literal, name, substring, STRING call"; roles says what a name is in a SCAN
  unfoldable pub element : (List ℕ → List Role) → List ℕ → Parsed Element
  element roles bs = elim (begins (bytes "\"") bs) [
    | true ↦ do
      (w, rest) ← literal_at (drop 1 bs)
      succeed (literal w) rest
    | false ↦ elim (begins (bytes "STRING(") bs) [
      | true ↦ text_call (drop 7 bs)
      | false ↦ do
        (p, rest) ← part_name e at roles bs
        succeed (part p) rest
    ]
  ]

  unfoldable pub string_expression : List ℕ → Parsed (List Element)
  string_expression bs = row_parser (element no_role) bs

  -- S19 "Fillers, in parentheses": a name, fixed where `$` and a length follow
  unfoldable pub filler_at : List ℕ → Parsed PatternElement
  filler_at bs = do
    (s, rest) ← string_name e at (λ n. filler n ∷ []) bs
    elim (begins (bytes "$") rest) as (λ _. Parsed PatternElement) [
      | true ↦ do
        (n, rest) ← bound e at (drop 1 rest)
        (_, rest) ← expect (bytes ")") rest
        succeed (fixed_filler s n) rest
      | false ↦ do
        (_, rest) ← expect (bytes ")") rest
        succeed (free_filler s) rest
    ]

  unfoldable pub pattern_element : List ℕ → Parsed PatternElement
  pattern_element bs = elim (begins (bytes "(") bs) [
    | true ↦ filler_at (drop 1 bs)
    | false ↦ do
      (x, rest) ← element (λ n. sought n ∷ []) bs
      succeed (value x) rest
  ]

  -- S19 a pattern, document 01's word: elements and fillers, parted by commas
  unfoldable pub pattern : List ℕ → Parsed (List PatternElement)
  pattern bs = row_parser pattern_element bs
