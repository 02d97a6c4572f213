-- Document 01, "What is turned down, and its number": 3 to 10 of one statement. Assumes nothing.
use Rattle.std.specs.Prelude.{Bool, true, false, cond, not, ◌&&◌, ◌||◌, List, [], ◌∷◌, ◌++◌, ℕ, ltb, eqb, length}
use Rattle.std.specs.Bool.{beq}
use Rattle.std.proofs.Math.Option.{Option}
use Rattle.base.specs.Edition.{Edition}
use Rattle.base.specs.Limits as Limits
use Rattle.base.specs.Lists.{same, any}
use Rattle.syntax.specs.Forms.{statement_form}
use Rattle.syntax.specs.Keywords.{StatementKind, PROGRAM, END, ROUTINE, ENDROUTINE, RETURN, same_kind}
use Rattle.syntax.specs.Program.{Statement}
use Rattle.syntax.specs.Parsing.{
  for_label,
  for_routine,
  for_number,
  same_purpose,
  Mention,
  Role,
  reference,
  sought,
  filler,
  Mentions,
  no_mentions,
  declaring,
  Parsed,
  got,
  broken,
  mentioning,
}
use Rattle.syntax.specs.Lexemes.{Resolution, name_length}
use Rattle.validation.specs.Environment.{Environment, strings_of, numbers_of, is_one_of, extend, same_mention}

-- Q4 "PROGRAM isn't first or comes twice, .. or a statement follows" END
unfoldable pub is_misplaced : Environment → StatementKind → Bool
is_misplaced k kind = not (beq (eqb k.statements 0) (same_kind kind PROGRAM)) || k.ended

-- Q5 "The statement or a label breaks its form": a label is a name or nothing
unfoldable pub label_form : List ℕ → Parsed (Unit {0})
label_form [] = got tt no_mentions []
label_form (b ∷ bs) =
    elim (eqb (name_length (b ∷ bs)) (length (b ∷ bs))) [ true ↦ got tt (declaring for_label (b ∷ bs)) [] | false ↦ broken ]

module _ {A : Type 0} where
  -- a statement is read if its label and its literals are whole
  unfoldable pub with_label : Parsed (Unit {0}) → Bool → Parsed A → Parsed A
  with_label (got u m rest) whole form = elim whole [ true ↦ mentioning m form | false ↦ broken ]
  with_label broken whole form = broken

unfoldable pub read_statement : Edition → (List ℕ → Bool) → Resolution → (label_bytes : List ℕ) (whole : Bool) (text : List ℕ) → Parsed (Option Statement)
read_statement e is_number at label_bytes whole text = with_label (label_form label_bytes) whole (statement_form e is_number at text)

-- Q6 "A name has two purposes": here, or here and before
unfoldable pub has_other_purpose : List Mention → Mention → Bool
has_other_purpose ns n = any (λ m. same n.name m.name && not (same_purpose n.purpose m.purpose)) ns

-- Q6 "or a label, routine or number is declared twice"
unfoldable pub is_declared_before : Environment → Mention → Bool
is_declared_before k n =
    (same_purpose n.purpose for_label && any (λ l. same n.name l.name) k.labels)
    || ((same_purpose n.purpose for_routine && any (λ r. same n.name r.name) k.routines)
    || (same_purpose n.purpose for_number && is_one_of (numbers_of k) n.name))

unfoldable pub has_duplicate : List Mention → Bool
has_duplicate [] = false
has_duplicate (n ∷ ns) = any (same_mention n) ns || has_duplicate ns

unfoldable pub is6 : Environment → Mentions → Bool
is6 k m =
    let ns = m.declared ++ m.used in
    any (has_other_purpose (k.names ++ ns)) ns || (any (is_declared_before k) m.declared || has_duplicate m.declared)

-- Q7 "A name used as a number isn't declared before."
unfoldable pub is7 : Environment → Mentions → Bool
is7 k m = any (λ n. same_purpose n.purpose for_number && not (is_one_of (numbers_of k) n.name)) m.used

-- Q8 "The reference is also a filler, or a pattern string has the name of a filler left of it.": searched is the reference, fillers are
-- those to the left
unfoldable pub clashes : (searched : List ℕ) (fillers : List (List ℕ)) → List Role → Bool
clashes r fs [] = false
clashes r fs (reference n ∷ rs) = clashes n fs rs
clashes r fs (sought n ∷ rs) = is_one_of fs n || clashes r fs rs
clashes r fs (filler n ∷ rs) = same r n || clashes r (n ∷ fs) rs

unfoldable pub is8 : Mentions → Bool
is8 m = clashes [] [] m.roles

-- Q9 "ROUTINE or END stands inside a routine, RETURN or ENDROUTINE outside."
unfoldable pub is9 : Environment → StatementKind → Bool
is9 k kind =
    let outside = same k.scope [] in
    ((same_kind kind ROUTINE || same_kind kind END) && not outside)
    || ((same_kind kind RETURN || same_kind kind ENDROUTINE) && outside)

-- Q10 "A count passes 256 statements, 32 strings, 32 numbers, 64 labels or 16 routines declared, 20 elements in an expression, 1,024
-- elements, 1,024 operands and `+ - * /` in numeric expressions, or 4,096 literal bytes.": the counts are those behind the statement, not before
-- it. k is the environment with the statement (mentions_number), m what the statement mentions by itself.
unfoldable pub is10 : Environment → Mentions → Bool
is10 k m =
    ltb Limits.statements k.statements
    || (ltb Limits.strings (length (strings_of k))
    || (ltb Limits.numbers (length (numbers_of k))
    || (ltb Limits.labels (length k.labels)
    || (ltb Limits.routines (length k.routines)
    || (any (ltb Limits.row_elements) m.rows
    || (ltb Limits.elements k.elements
    || (ltb Limits.items k.items
    || ltb Limits.literals k.literals)))))))

-- 6 to 10 of a statement whose form holds, or 0
unfoldable pub mentions_number : Environment → StatementKind → Mentions → ℕ
mentions_number k kind m =
    cond (is6 k m) 6
    (cond (is7 k m) 7
    (cond (is8 m) 8
    (cond (is9 k kind) 9
    (cond (is10 (extend k kind m) m) 10
    0))))

unfoldable pub form_number : Environment → StatementKind → Parsed (Option Statement) → ℕ
form_number k kind (got s m rest) = mentions_number k kind m
form_number k kind broken = 5

-- D1 "the lowest number that applies" to a statement, or 0
unfoldable pub statement_number : Environment → StatementKind → Bool → Parsed (Option Statement) → ℕ
statement_number k kind sound form =
    cond (not sound) 3
    (cond (is_misplaced k kind) 4
    (form_number k kind form))
