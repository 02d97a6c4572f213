-- Kinds and purposes that pass the test of sameness are equal. Assumes nothing.
use Rattle.std.specs.Prelude.{true, List, [], ◌∷◌, ◌≡◌, refl, get_or}
use Rattle.std.proofs.Common.{sym, ◌∙◌, ap, eqb-true, eq-eqb}
use Rattle.syntax.specs.Keywords.{
  StatementKind,
  REPLACEMENT,
  NUMBER,
  PROGRAM,
  END,
  GOTO,
  EXIT,
  IF,
  SCAN,
  BACKSCAN,
  READ,
  WRITE,
  PRINT,
  ROUTINE,
  EXECUTE,
  ENDROUTINE,
  RETURN,
  UNKNOWN,
  statement_kind_number,
  same_kind,
}
use Rattle.syntax.specs.Parsing.{Purpose, for_program, for_label, for_routine, for_number, for_string, purpose_number, same_purpose}

-- the kinds in the order of their numbers
kinds : List StatementKind
kinds =
    REPLACEMENT
    ∷ NUMBER
    ∷ PROGRAM
    ∷ END
    ∷ GOTO
    ∷ EXIT
    ∷ IF
    ∷ SCAN
    ∷ BACKSCAN
    ∷ READ
    ∷ WRITE
    ∷ PRINT
    ∷ ROUTINE
    ∷ EXECUTE
    ∷ ENDROUTINE
    ∷ RETURN
    ∷ UNKNOWN
    ∷ []

-- a kind stands at its number
kind_at : (k : StatementKind) → get_or kinds (statement_kind_number k) UNKNOWN ≡ k
unfolding kinds statement_kind_number
kind_at REPLACEMENT = refl
kind_at NUMBER = refl
kind_at PROGRAM = refl
kind_at END = refl
kind_at GOTO = refl
kind_at EXIT = refl
kind_at IF = refl
kind_at SCAN = refl
kind_at BACKSCAN = refl
kind_at READ = refl
kind_at WRITE = refl
kind_at PRINT = refl
kind_at ROUTINE = refl
kind_at EXECUTE = refl
kind_at ENDROUTINE = refl
kind_at RETURN = refl
kind_at UNKNOWN = refl

-- kinds that pass the test are equal
pub same_kind_lem : (j k : StatementKind) → same_kind j k ≡ true → j ≡ k
unfolding same_kind
same_kind_lem j k e = sym (kind_at j) ∙ ap (λ n. get_or kinds n UNKNOWN) (eqb-true (statement_kind_number j) (statement_kind_number k) e) ∙ kind_at k

-- the purposes in the order of their numbers
purposes : List Purpose
purposes = for_program ∷ for_label ∷ for_routine ∷ for_number ∷ for_string ∷ []

-- a purpose stands at its number
purpose_at : (p : Purpose) → get_or purposes (purpose_number p) for_program ≡ p
unfolding purposes purpose_number
purpose_at for_program = refl
purpose_at for_label = refl
purpose_at for_routine = refl
purpose_at for_number = refl
purpose_at for_string = refl

-- purposes that pass the test are equal
pub same_purpose_lem : (p q : Purpose) → same_purpose p q ≡ true → p ≡ q
unfolding same_purpose
same_purpose_lem p q e =
    sym (purpose_at p) ∙ ap (λ n. get_or purposes n for_program) (eqb-true (purpose_number p) (purpose_number q) e) ∙ purpose_at q

-- a purpose passes the test with itself
pub same_purpose_refl : (p : Purpose) → same_purpose p p ≡ true
unfolding same_purpose
same_purpose_refl p = eq-eqb (purpose_number p) (purpose_number p) refl
