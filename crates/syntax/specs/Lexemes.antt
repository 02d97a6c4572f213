-- Document 01, "Statements": names and constants, and the names' places in a program. Assumes nothing.
use Rattle.std.specs.Prelude.{Bool, true, false, cond, ◌&&◌, ◌||◌, List, [], ◌∷◌, ℕ, suc, ◌+◌, ◌*◌, ◌-◌, leb, ℤ, pos, neg_ℤ, take, drop, get_or}
use Rattle.base.specs.Edition.{Edition}
use Rattle.base.specs.Lists.{begins}
use Rattle.base.specs.Text.{bytes}
use Rattle.cards.specs.Bytes.{is_letter, is_digit, is_name_byte}
use Rattle.syntax.specs.Program.{Length, constantly, numbered, Part, whole, first}
use Rattle.syntax.specs.Parsing.{for_number, for_string, Role, Mentions, usage, Parsed, got, broken, succeed, ◌>>=◌}

-- The places that names have in the program, and the step behind the one that is read. A deck is read twice by the same forms: the first time
-- it is judged, and all places are 0, for a label or routine may stand further on (validation/Deck: unresolved); the second time all names are
-- known (validation/Deck: resolution), and the forms give the program.
pub record Resolution : Type 0 where
  pub string : List ℕ → ℕ
  pub number : List ℕ → ℕ
  pub label : List ℕ → ℕ
  -- the step behind a routine's ROUTINE, and the one behind its ENDROUTINE
  pub entry : List ℕ → ℕ
  pub exit : List ℕ → ℕ
  pub next : ℕ

-- how many bytes at the front pass a test
unfoldable pub run_length : (ℕ → Bool) → List ℕ → ℕ
run_length f [] = 0
run_length f (b ∷ bs) = elim (f b) [ true ↦ suc (run_length f bs) | false ↦ 0 ]

-- S1 "Name: a letter, then up to 7 letters or digits."; how many bytes of one stand in front, 0 for none. A longer one is none.
unfoldable pub name_length : List ℕ → ℕ
name_length bs = cond (is_letter (get_or bs 0 0) && leb (run_length is_name_byte bs) 8) (run_length is_name_byte bs) 0

unfoldable pub name : List ℕ → Parsed (List ℕ)
name bs = elim (leb 1 (name_length bs)) [ true ↦ succeed (take (name_length bs) bs) (drop (name_length bs) bs) | false ↦ broken ]

-- a name, mentioned as said
unfoldable pub name_as : (List ℕ → Mentions) → List ℕ → Parsed (List ℕ)
name_as meets bs = do
  (n, rest) ← name bs
  got n (meets n) rest

-- the number that digits write
unfoldable pub decimal_from : ℕ → List ℕ → ℕ
decimal_from v [] = v
decimal_from v (b ∷ bs) = decimal_from (v * 10 + (b - 48)) bs

-- no role in a SCAN
unfoldable pub no_role : List ℕ → List Role
no_role n = []

unfoldable pub is_sign : List ℕ → Bool
is_sign bs = begins (bytes "+") bs || begins (bytes "-") bs

module _ (e : Edition) where
  -- S13 "an unsigned constant"; Q5 "or a constant its range"
  unfoldable pub unsigned : List ℕ → Parsed ℕ
  unsigned bs =
      let n = run_length is_digit bs in
      let v = decimal_from 0 (take n bs) in
      elim (leb 1 n && leb v e.limit) [ true ↦ succeed v (drop n bs) | false ↦ broken ]

  -- S15 "a signed constant": the sign may be left out
  unfoldable pub signed : List ℕ → Parsed ℤ
  signed bs = elim (begins (bytes "-") bs) [
    | true ↦ do
      (v, rest) ← unsigned (drop 1 bs)
      succeed (neg_ℤ (pos v)) rest
    | false ↦ do
      (v, rest) ← unsigned (drop (cond (begins (bytes "+") bs) 1 0) bs)
      succeed (pos v) rest
  ]

  module _ (at : Resolution) where
    -- S13 "a declared number"
    unfoldable pub number_name : List ℕ → Parsed ℕ
    number_name bs = do
      (n, rest) ← name_as (usage for_number []) bs
      succeed (at.number n) rest

    -- S17 "n an unsigned constant or a number"
    unfoldable pub bound : List ℕ → Parsed Length
    bound bs = elim (is_digit (get_or bs 0 0)) [
      | true ↦ do
        (v, rest) ← unsigned bs
        succeed (constantly (pos v)) rest
      | false ↦ do
        (i, rest) ← number_name bs
        succeed (numbered i) rest
    ]

    -- S17 the string with this place, or `S$n` where `$` follows
    unfoldable pub part_of : ℕ → List ℕ → Parsed Part
    part_of s bs = elim (begins (bytes "$") bs) [
      | true ↦ do
        (n, rest) ← bound (drop 1 bs)
        succeed (first s n) rest
      | false ↦ succeed (whole s) bs
    ]

    -- a string's name, with its role in a SCAN if it has one
    unfoldable pub string_name : (List ℕ → List Role) → List ℕ → Parsed ℕ
    string_name roles bs = do
      (n, rest) ← name_as (λ n. usage for_string (roles n) n) bs
      succeed (at.string n) rest

    -- a name or substring
    unfoldable pub part_name : (List ℕ → List Role) → List ℕ → Parsed Part
    part_name roles bs = do
      (s, rest) ← string_name roles bs
      part_of s rest
