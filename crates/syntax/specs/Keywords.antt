-- Document 01, "Statements": what a packed statement is, by its beginning alone. Assumes nothing.
use Rattle.std.specs.Prelude.{Bool, cond, ◌&&◌, ◌||◌, List, [], ◌∷◌, ℕ, leb, ltb, eqb, length, drop}
use Rattle.base.specs.Lists.{begins}
use Rattle.base.specs.Text.{bytes}
use Rattle.cards.specs.Bytes.{is_digit}
use Rattle.syntax.specs.Lexemes.{name_length, run_length}

pub data StatementKind : Type 0 where
  REPLACEMENT NUMBER PROGRAM END GOTO EXIT IF SCAN BACKSCAN READ WRITE PRINT ROUTINE EXECUTE ENDROUTINE RETURN UNKNOWN : StatementKind

unfoldable pub statement_kind_number : StatementKind → ℕ
statement_kind_number REPLACEMENT = 0
statement_kind_number NUMBER = 1
statement_kind_number PROGRAM = 2
statement_kind_number END = 3
statement_kind_number GOTO = 4
statement_kind_number EXIT = 5
statement_kind_number IF = 6
statement_kind_number SCAN = 7
statement_kind_number BACKSCAN = 8
statement_kind_number READ = 9
statement_kind_number WRITE = 10
statement_kind_number PRINT = 11
statement_kind_number ROUTINE = 12
statement_kind_number EXECUTE = 13
statement_kind_number ENDROUTINE = 14
statement_kind_number RETURN = 15
statement_kind_number UNKNOWN = 16

unfoldable pub same_kind : StatementKind → StatementKind → Bool
same_kind j k = eqb (statement_kind_number j) (statement_kind_number k)

-- S4 "the leading keyword, compared byte for byte, decides"
unfoldable pub keywords : List (List ℕ × StatementKind)
keywords =
    (bytes "NUMBER", NUMBER)
    ∷ (bytes "PROGRAM", PROGRAM)
    ∷ (bytes "END", END)
    ∷ (bytes "GOTO", GOTO)
    ∷ (bytes "EXIT", EXIT)
    ∷ (bytes "IF", IF)
    ∷ (bytes "SCAN", SCAN)
    ∷ (bytes "BACKSCAN", BACKSCAN)
    ∷ (bytes "READ", READ)
    ∷ (bytes "WRITE", WRITE)
    ∷ (bytes "PRINT", PRINT)
    ∷ (bytes "ROUTINE", ROUTINE)
    ∷ (bytes "EXECUTE", EXECUTE)
    ∷ (bytes "ENDROUTINE", ENDROUTINE)
    ∷ (bytes "RETURN", RETURN)
    ∷ []

-- a kind with how many bytes its keyword has
pub record Leading : Type 0 where
  pub kind : StatementKind
  pub size : ℕ

-- S5 "The longest one that begins the statement counts."
unfoldable pub longest : List (List ℕ × StatementKind) → List ℕ → Leading → Leading
longest [] bs best = best
longest ((w, k) ∷ ws) bs best =
    longest ws bs (cond (begins w bs && ltb best.size (length w)) (record { kind = k; size = length w }) best)

-- `$` and a length, as far as their form goes: digits of any number, or a name
unfoldable pub bound_length : List ℕ → ℕ
bound_length bs = cond (leb 1 (run_length is_digit bs)) (run_length is_digit bs) (name_length bs)

-- S3 "A statement is a replacement if a name, perhaps with `$` and a length, stands before `=`."
unfoldable pub is_replacement : List ℕ → Bool
is_replacement bs =
    let behind = drop (name_length bs) bs in
    let n = drop 1 behind in
    leb 1 (name_length bs)
    && (begins (bytes "=") behind
    || (begins (bytes "$") behind && (leb 1 (bound_length n) && begins (bytes "=") (drop (bound_length n) n))))

unfoldable pub leading : List ℕ → Leading
leading bs =
    cond (is_replacement bs) (record { kind = REPLACEMENT; size = 0 })
    (longest keywords bs (record { kind = UNKNOWN; size = 0 }))
