-- A statement is read alike with any places: it mentions the same and leaves the same. Assumes nothing.
use Rattle.std.specs.Prelude.{Bool, true, false, not, ◌||◌, List, [], ◌∷◌, ◌++◌, ◌≡◌, ltb, drop, get_or}
use Rattle.std.proofs.Common.{true≢false, ap}
use Rattle.std.proofs.lemmas.Bool.{false≢true}
use Rattle.std.proofs.Math.Option.{Option, none, some}
use Rattle.std.proofs.Math.Path.{refl}
use Prim.Native.Nat.{ℕ, zero, suc, ◌+◌, ◌*◌}
use Rattle.std.proofs.Math.ListN.{length}
use Rattle.base.specs.Edition.{Edition}
use Rattle.base.specs.Lists.{begins}
use Rattle.base.specs.Text.{bytes}
use Rattle.cards.specs.Bytes.{is_digit}
use Rattle.syntax.specs.Program.{
  Item,
  operator,
  Direction,
  forward,
  backward,
  Statement,
  set_number,
  set_string,
  goto,
  finish,
  if_test,
  scan,
  read,
  write,
  execute,
  return,
}
use Rattle.syntax.specs.Parsing.{
  for_program,
  for_label,
  for_routine,
  for_number,
  for_string,
  Role,
  reference,
  sought,
  filler,
  Mentions,
  declaring,
  usage,
  Parsed,
  got,
  broken,
  ◌>>=◌,
  mentioning,
  succeed,
  expect,
  end_of_text,
}
use Rattle.syntax.specs.Lexemes.{
  Resolution,
  name_as,
  unsigned,
  signed,
  is_sign,
  no_role,
  number_name,
  bound,
  part_of,
  string_name,
  part_name,
}
use Rattle.syntax.specs.Numeric.{deepest, sum_operator, product_operator, leading_sign, comparison, called_or_number, plain_factor}
use Rattle.syntax.specs.Numeric.{
  if_operand,
  test,
  expression_at,
  more_terms,
  term_at,
  more_factors,
  factor_at,
  fuel_for,
  numeric_expression,
}
use Rattle.syntax.specs.Strings.{literal_at, nothing_here, more_of, list_of, row_parser, text_call, element, string_expression, filler_at}
use Rattle.syntax.specs.Strings.{pattern_element, pattern}
use Rattle.syntax.specs.Forms.{step_form, no_step_form, without_unit, label_name, branch, branch_if_any, sets_number, replacement, if_form}
use Rattle.syntax.specs.Forms.{replacement_if_any, scan_form, read_form, write_form, goto_form, routine_form, execute_form, program_form}
use Rattle.syntax.specs.Forms.{number_form, form_of}
use Rattle.syntax.specs.Keywords.{
  StatementKind,
  REPLACEMENT,
  NUMBER,
  PROGRAM,
  END,
  GOTO,
  EXIT,
  IF,
  SCAN,
  BACKSCAN,
  READ,
  WRITE,
  PRINT,
  ROUTINE,
  EXECUTE,
  ENDROUTINE,
  RETURN,
  UNKNOWN,
  statement_kind_number,
  same_kind,
}

-- two readings that mention the same and leave the same, R of their values, or are both broken
pub data Alike {A : Type 0} (R : A → A → Type 0) : Parsed A → Parsed A → Type 0 where
  both : {a b : A} {m : Mentions} {rest : List ℕ} → R a b → Alike R (got a m rest) (got b m rest)
  neither : Alike R broken broken

-- any two values
abbrev pub AnyTwo : {A : Type 0} → A → A → Type 0
AnyTwo a b = Unit

module _ {A : Type 0} {R : A → A → Type 0} where
  -- readings alike stay so behind the same names
  pub alike_mentioning : {x y : Parsed A} (m : Mentions) → Alike R x y → Alike R (mentioning m x) (mentioning m y)
  unfolding mentioning
  alike_mentioning m (both r) = both r
  alike_mentioning m neither = neither

  -- either way two tests that agree go
  alike_either : (test test' : Bool) → test ≡ test' → (x x' y y' : Parsed A) → Alike R x x' → Alike R y y'
      → Alike R (elim test [ true ↦ x | false ↦ y ]) (elim test' [ true ↦ x' | false ↦ y' ])
  alike_either true true agree x x' y y' h g = h
  alike_either true false agree x x' y y' h g = absurd (true≢false agree)
  alike_either false true agree x x' y y' h g = absurd (false≢true agree)
  alike_either false false agree x x' y y' h g = g

  -- either way one test goes
  alike_if : (test : Bool) (x x' y y' : Parsed A) → Alike R x x' → Alike R y y'
      → Alike R (elim test [ true ↦ x | false ↦ y ]) (elim test [ true ↦ x' | false ↦ y' ])
  alike_if test = alike_either test test refl

module _ {A B : Type 0} {S : B → B → Type 0} where
  -- what is read next is alike where it is for any two values that are
  alike_next : {R : A → A → Type 0} {x y : Parsed A} (f g : A × List ℕ → Parsed B) → Alike R x y
      → ((a b : A) (rest : List ℕ) → R a b → Alike S (f (a, rest)) (g (b, rest))) → Alike S (x >>= f) (y >>= g)
  unfolding ◌>>=◌
  alike_next f g (both {a} {b} {m} {rest} r) next = alike_mentioning m (next a b rest r)
  alike_next f g neither next = neither

  -- what is read next is alike where it is for each value of one reading
  alike_after : (x : Parsed A) (f g : A × List ℕ → Parsed B)
      → ((a : A) (rest : List ℕ) → Alike S (f (a, rest)) (g (a, rest))) → Alike S (x >>= f) (x >>= g)
  unfolding ◌>>=◌
  alike_after (got a m rest) f g next = alike_mentioning m (next a rest)
  alike_after broken f g next = neither

-- both are steps, or neither is
abbrev pub SameStep : Bool → Option Statement → Option Statement → Type 0
SameStep true none t = ⊥
SameStep true (some s) none = ⊥
SameStep true (some s) (some t) = Unit
SameStep false none none = Unit
SameStep false none (some t) = ⊥
SameStep false (some s) t = ⊥

-- two lists are equally long
abbrev pub SameLength : {A : Type 0} → List A → List A → Type 0
SameLength xs ys = length xs ≡ length ys

-- each reader with two rows of places, in the order of the definitions
module _ (e : Edition) (at at' : Resolution) where
  alike_number_name : (bs : List ℕ) → Alike AnyTwo (number_name e at bs) (number_name e at' bs)
  unfolding number_name succeed
  alike_number_name bs = alike_after (name_as (usage for_number []) bs) _ _ (λ _ _. both tt)

  alike_bound : (bs : List ℕ) → Alike AnyTwo (bound e at bs) (bound e at' bs)
  unfolding bound succeed
  alike_bound bs =
      alike_if (is_digit (get_or bs 0 0)) _ _ _ _ (alike_after (unsigned e bs) _ _ (λ _ _. both tt))
      (alike_next _ _ (alike_number_name bs) (λ _ _ _ _. both tt))

  alike_part_of : (s s' : ℕ) (bs : List ℕ) → Alike AnyTwo (part_of e at s bs) (part_of e at' s' bs)
  unfolding part_of succeed
  alike_part_of s s' bs =
      alike_if (begins (bytes "$") bs) _ _ _ _ (alike_next _ _ (alike_bound (drop 1 bs)) (λ _ _ _ _. both tt)) (both tt)

  alike_string_name : (roles : List ℕ → List Role) (bs : List ℕ) → Alike AnyTwo (string_name e at roles bs) (string_name e at' roles bs)
  unfolding string_name succeed
  alike_string_name roles bs = alike_after (name_as (λ n. usage for_string (roles n) n) bs) _ _ (λ _ _. both tt)

  alike_part_name : (roles : List ℕ → List Role) (bs : List ℕ) → Alike AnyTwo (part_name e at roles bs) (part_name e at' roles bs)
  unfolding part_name
  alike_part_name roles bs = alike_next _ _ (alike_string_name roles bs) (λ a b rest _. alike_part_of a b rest)

  alike_called_or_number : (bs : List ℕ) → Alike AnyTwo (called_or_number e at bs) (called_or_number e at' bs)
  unfolding called_or_number succeed
  alike_called_or_number bs =
      alike_if (begins (bytes "LENGTH(") bs) _ _ _ _
      (alike_next _ _ (alike_string_name no_role (drop 7 bs)) (λ _ _ rest _. alike_after (expect (bytes ")") rest) _ _ (λ _ _. both tt)))
      (alike_if (begins (bytes "NUMBER(") bs) _ _ _ _
      (alike_next _ _ (alike_part_name no_role (drop 7 bs)) (λ _ _ rest _. alike_after (expect (bytes ")") rest) _ _ (λ _ _. both tt)))
      (alike_next _ _ (alike_number_name bs) (λ _ _ _ _. both tt)))

  alike_plain_factor : (bs : List ℕ) → Alike AnyTwo (plain_factor e at bs) (plain_factor e at' bs)
  unfolding plain_factor succeed
  alike_plain_factor bs =
      alike_if (is_digit (get_or bs 0 0)) _ _ _ _ (alike_after (unsigned e bs) _ _ (λ _ _. both tt)) (alike_called_or_number bs)

  alike_if_operand : (bs : List ℕ) → Alike AnyTwo (if_operand e at bs) (if_operand e at' bs)
  unfolding if_operand succeed
  alike_if_operand bs =
      alike_if (is_digit (get_or bs 0 0) || is_sign bs) _ _ _ _ (alike_after (signed e bs) _ _ (λ _ _. both tt))
      (alike_called_or_number bs)

  alike_test : (bs : List ℕ) → Alike AnyTwo (test e at bs) (test e at' bs)
  unfolding test succeed
  alike_test bs =
      alike_if (begins (bytes "NULL(") bs) _ _ _ _
      (alike_next _ _ (alike_string_name no_role (drop 5 bs)) (λ _ _ rest _. alike_after (expect (bytes ")") rest) _ _ (λ _ _. both tt)))
      (alike_if (begins (bytes "NUMERIC(") bs) _ _ _ _
      (alike_next _ _ (alike_part_name no_role (drop 8 bs)) (λ _ _ rest _. alike_after (expect (bytes ")") rest) _ _ (λ _ _. both tt)))
      (alike_next _ _ (alike_if_operand bs) (λ _ _ rest _. alike_after (comparison rest) _ _ (λ _ rest.
      alike_next _ _ (alike_if_operand rest) (λ _ _ _ _. both tt)))))

  mutual
    unfolding expression_at succeed

    alike_expression_at : (k d : ℕ) (bs : List ℕ) → Alike AnyTwo (expression_at e at k d bs) (expression_at e at' k d bs)
    alike_expression_at zero d bs = neither
    alike_expression_at (suc k) d bs =
        alike_after (leading_sign bs) _ _ (λ s rest.
        alike_next _ _ (alike_term_at k d rest) (λ t t' rest _.
        alike_more_terms k d (t ++ s) (t' ++ s) rest))

    alike_more_terms : (k d : ℕ) (is is' : List Item) (bs : List ℕ) → Alike AnyTwo (more_terms e at k d is bs) (more_terms e at' k d is' bs)
    alike_more_terms zero d is is' bs = neither
    alike_more_terms (suc k) d is is' bs =
        alike_if (is_sign bs) _ _ _ _
        (alike_after (sum_operator bs) _ _ (λ o rest.
        alike_next _ _ (alike_term_at k d rest) (λ t t' rest _.
        alike_more_terms k d (is ++ (t ++ (operator o ∷ []))) (is' ++ (t' ++ (operator o ∷ []))) rest)))
        (both tt)

    alike_term_at : (k d : ℕ) (bs : List ℕ) → Alike AnyTwo (term_at e at k d bs) (term_at e at' k d bs)
    alike_term_at zero d bs = neither
    alike_term_at (suc k) d bs = alike_next _ _ (alike_factor_at k d bs) (λ f f' rest _. alike_more_factors k d f f' rest)

    alike_more_factors : (k d : ℕ) (is is' : List Item) (bs : List ℕ) → Alike AnyTwo (more_factors e at k d is bs) (more_factors e at' k d is' bs)
    alike_more_factors zero d is is' bs = neither
    alike_more_factors (suc k) d is is' bs =
        alike_if (begins (bytes "*") bs || begins (bytes "/") bs) _ _ _ _
        (alike_after (product_operator bs) _ _ (λ o rest.
        alike_next _ _ (alike_factor_at k d rest) (λ f f' rest _.
        alike_more_factors k d (is ++ (f ++ (operator o ∷ []))) (is' ++ (f' ++ (operator o ∷ []))) rest)))
        (both tt)

    alike_factor_at : (k d : ℕ) (bs : List ℕ) → Alike AnyTwo (factor_at e at k d bs) (factor_at e at' k d bs)
    alike_factor_at zero d bs = neither
    alike_factor_at (suc k) d bs =
        alike_if (begins (bytes "(") bs) _ _ _ _
        (alike_if (ltb d deepest) _ _ _ _
        (alike_next _ _ (alike_expression_at k (suc d) (drop 1 bs)) (λ _ _ rest _. alike_after (expect (bytes ")") rest) _ _ (λ _ _. both tt)))
        neither)
        (alike_next _ _ (alike_plain_factor bs) (λ _ _ _ _. both tt))

  alike_numeric_expression : (bs : List ℕ) → Alike AnyTwo (numeric_expression e at bs) (numeric_expression e at' bs)
  unfolding numeric_expression fuel_for
  alike_numeric_expression bs = alike_expression_at (4 * length bs + 4) 0 bs

  -- rows of what is read alike are read alike, and are equally long
  module _ {A : Type 0} (one one' : List ℕ → Parsed A) (alike : (bs : List ℕ) → Alike AnyTwo (one bs) (one' bs)) where
    alike_more_of : (k : ℕ) (bs : List ℕ) → Alike SameLength (more_of one k bs) (more_of one' k bs)
    unfolding more_of succeed
    alike_more_of zero bs = both refl
    alike_more_of (suc k) bs =
        alike_if (begins (bytes ",") bs) _ _ _ _
        (alike_next _ _ (alike (drop 1 bs)) (λ _ _ rest _.
        alike_next _ _ (alike_more_of k rest) (λ _ _ _ same. both (ap suc same))))
        (both refl)

    alike_list_of : (bs : List ℕ) → Alike SameLength (list_of one bs) (list_of one' bs)
    unfolding list_of succeed
    alike_list_of bs =
        alike_next _ _ (alike bs) (λ _ _ rest _.
        alike_next _ _ (alike_more_of (length rest) rest) (λ _ _ _ same. both (ap suc same)))

    alike_row_of : (bs : List ℕ) → Alike SameLength (row_parser one bs) (row_parser one' bs)
    unfolding row_parser succeed
    alike_row_of bs =
        alike_if (nothing_here bs) _ _ _ _ (both refl)
        (alike_next _ _ (alike_list_of bs) (λ _ _ _ same. rw same (both same)))

  alike_text_call : (bs : List ℕ) → Alike AnyTwo (text_call e at bs) (text_call e at' bs)
  unfolding text_call succeed
  alike_text_call bs =
      alike_if (is_digit (get_or bs 0 0) || is_sign bs) _ _ _ _
      (alike_after (signed e bs) _ _ (λ _ rest.
      alike_after (expect (bytes ",") rest) _ _ (λ _ rest.
      alike_next _ _ (alike_number_name rest) (λ _ _ rest _.
      alike_after (expect (bytes ")") rest) _ _ (λ _ _. both tt)))))
      (alike_next _ _ (alike_number_name bs) (λ _ _ rest _.
      alike_if (begins (bytes ",") rest) _ _ _ _
      (alike_next _ _ (alike_number_name (drop 1 rest)) (λ _ _ rest _.
      alike_after (expect (bytes ")") rest) _ _ (λ _ _. both tt)))
      (alike_after (expect (bytes ")") rest) _ _ (λ _ _. both tt))))

  alike_element : (roles : List ℕ → List Role) (bs : List ℕ) → Alike AnyTwo (element e at roles bs) (element e at' roles bs)
  unfolding element succeed
  alike_element roles bs =
      alike_if (begins (bytes "\"") bs) _ _ _ _ (alike_after (literal_at (drop 1 bs)) _ _ (λ _ _. both tt))
      (alike_if (begins (bytes "STRING(") bs) _ _ _ _ (alike_text_call (drop 7 bs))
      (alike_next _ _ (alike_part_name roles bs) (λ _ _ _ _. both tt)))

  alike_string_expression : (bs : List ℕ) → Alike SameLength (string_expression e at bs) (string_expression e at' bs)
  unfolding string_expression
  alike_string_expression bs = alike_row_of (element e at no_role) (element e at' no_role) (alike_element no_role) bs

  alike_filler_at : (bs : List ℕ) → Alike AnyTwo (filler_at e at bs) (filler_at e at' bs)
  unfolding filler_at succeed
  alike_filler_at bs =
      alike_next _ _ (alike_string_name (λ n. filler n ∷ []) bs) (λ _ _ rest _.
      alike_if (begins (bytes "$") rest) _ _ _ _
      (alike_next _ _ (alike_bound (drop 1 rest)) (λ _ _ rest _.
      alike_after (expect (bytes ")") rest) _ _ (λ _ _. both tt)))
      (alike_after (expect (bytes ")") rest) _ _ (λ _ _. both tt)))

  alike_pattern_element : (bs : List ℕ) → Alike AnyTwo (pattern_element e at bs) (pattern_element e at' bs)
  unfolding pattern_element succeed
  alike_pattern_element bs =
      alike_if (begins (bytes "(") bs) _ _ _ _ (alike_filler_at (drop 1 bs))
      (alike_next _ _ (alike_element (λ n. sought n ∷ []) bs) (λ _ _ _ _. both tt))

  alike_pattern : (bs : List ℕ) → Alike SameLength (pattern e at bs) (pattern e at' bs)
  unfolding pattern
  alike_pattern bs = alike_row_of (pattern_element e at) (pattern_element e at') alike_pattern_element bs

  module _ (is_number is_number' : List ℕ → Bool) where
    alike_label_name : (bs : List ℕ) → Alike AnyTwo (label_name e is_number at bs) (label_name e is_number' at' bs)
    unfolding label_name succeed
    alike_label_name bs = alike_after (name_as (usage for_label []) bs) _ _ (λ n _. both tt)

    alike_branch : (bs : List ℕ) → Alike AnyTwo (branch e is_number at bs) (branch e is_number' at' bs)
    unfolding branch succeed
    alike_branch bs =
        alike_after (expect (bytes "/") bs) _ _ (λ _ rest.
        alike_if (begins (bytes ",") rest) _ _ _ _
        (alike_next _ _ (alike_label_name (drop 1 rest)) (λ _ _ _ _. both tt))
        (alike_next _ _ (alike_label_name rest) (λ _ _ rest _.
        alike_if (begins (bytes ",") rest) _ _ _ _
        (alike_next _ _ (alike_label_name (drop 1 rest)) (λ _ _ _ _. both tt))
        (both tt))))

    alike_branch_if_any : (bs : List ℕ) → Alike AnyTwo (branch_if_any e is_number at bs) (branch_if_any e is_number' at' bs)
    unfolding branch_if_any succeed
    alike_branch_if_any bs = alike_if (begins (bytes "/") bs) _ _ _ _ (alike_branch bs) (both tt)

    -- the end of a step, with nothing behind it
    alike_step_end : (s s' : Statement) (bs : List ℕ) → Alike (SameStep true) (step_form s bs) (step_form s' bs)
    unfolding step_form succeed
    alike_step_end s s' bs = alike_after (end_of_text bs) _ _ (λ _ _. both tt)

    alike_replacement : (bs : List ℕ) → sets_number e is_number at bs ≡ sets_number e is_number' at' bs
        → Alike (SameStep true) (replacement e is_number at bs) (replacement e is_number' at' bs)
    unfolding replacement
    alike_replacement bs agree =
        alike_either (sets_number e is_number at bs) (sets_number e is_number' at' bs) agree _ _ _ _
        (alike_next _ _ (alike_number_name bs) (λ i i' rest _.
        alike_after (expect (bytes "=") rest) _ _ (λ _ rest.
        alike_next _ _ (alike_numeric_expression rest) (λ x x' rest _.
        alike_step_end (set_number i x) (set_number i' x') rest))))
        (alike_next _ _ (alike_part_name no_role bs) (λ p p' rest _.
        alike_after (expect (bytes "=") rest) _ _ (λ _ rest.
        alike_next _ _ (alike_string_expression rest) (λ xs xs' rest _.
        alike_step_end (set_string p xs) (set_string p' xs') rest))))

    alike_if_form : (bs : List ℕ) → Alike (SameStep true) (if_form e is_number at bs) (if_form e is_number' at' bs)
    unfolding if_form
    alike_if_form bs =
        alike_after (expect (bytes "(") bs) _ _ (λ _ rest.
        alike_next _ _ (alike_test rest) (λ t t' rest _.
        alike_after (expect (bytes ")") rest) _ _ (λ _ rest.
        alike_next _ _ (alike_branch rest) (λ b b' rest _.
        alike_step_end (if_test t b) (if_test t' b') rest))))

    alike_replacement_if_any : (bs : List ℕ) → Alike AnyTwo (replacement_if_any e is_number at bs) (replacement_if_any e is_number' at' bs)
    unfolding replacement_if_any succeed
    alike_replacement_if_any bs =
        alike_if (begins (bytes "=") bs) _ _ _ _
        (alike_next _ _ (alike_string_expression (drop 1 bs)) (λ _ _ _ _. both tt))
        (both tt)

    alike_scan_form : (d : Direction) (bs : List ℕ) → Alike (SameStep true) (scan_form e is_number at d bs) (scan_form e is_number' at' d bs)
    unfolding scan_form
    alike_scan_form d bs =
        alike_next _ _ (alike_part_name (λ n. reference n ∷ []) bs) (λ p p' rest _.
        alike_after (expect (bytes "[") rest) _ _ (λ _ rest.
        alike_next _ _ (alike_pattern rest) (λ xs xs' rest _.
        alike_after (expect (bytes "]") rest) _ _ (λ _ rest.
        alike_next _ _ (alike_replacement_if_any rest) (λ r r' rest _.
        alike_next _ _ (alike_branch_if_any rest) (λ b b' rest _.
        alike_step_end (scan d p xs r b) (scan d p' xs' r' b') rest))))))

    alike_read_form : (bs : List ℕ) → Alike (SameStep true) (read_form e is_number at bs) (read_form e is_number' at' bs)
    unfolding read_form
    alike_read_form bs =
        alike_next _ _ (alike_part_name no_role (without_unit (bytes "(60)") bs)) (λ p p' rest _.
        alike_next _ _ (alike_branch_if_any rest) (λ b b' rest _.
        alike_step_end (read p b) (read p' b') rest))

    alike_write_form : (bs : List ℕ) → Alike (SameStep true) (write_form e is_number at bs) (write_form e is_number' at' bs)
    unfolding write_form
    alike_write_form bs =
        alike_next _ _ (alike_string_expression (without_unit (bytes "(61)") bs)) (λ xs xs' rest _. alike_step_end (write xs) (write xs') rest)

    alike_goto_form : (bs : List ℕ) → Alike (SameStep true) (goto_form e is_number at bs) (goto_form e is_number' at' bs)
    unfolding goto_form
    alike_goto_form bs = alike_next _ _ (alike_label_name bs) (λ s s' rest _. alike_step_end (goto s) (goto s') rest)

    alike_routine_form : (bs : List ℕ) → Alike (SameStep true) (routine_form e is_number at bs) (routine_form e is_number' at' bs)
    unfolding routine_form
    alike_routine_form bs =
        alike_after (name_as (declaring for_routine) bs) _ _ (λ n rest.
        alike_step_end (goto (at.exit n)) (goto (at'.exit n)) rest)

    alike_execute_form : (bs : List ℕ) → Alike (SameStep true) (execute_form e is_number at bs) (execute_form e is_number' at' bs)
    unfolding execute_form
    alike_execute_form bs =
        alike_after (name_as (usage for_routine []) bs) _ _ (λ n rest.
        alike_step_end (execute (at.entry n)) (execute (at'.entry n)) rest)

    -- a statement that is no step is like itself
    alike_no_step : {A : Type 0} (x : Parsed A)
        → Alike (SameStep false) (x >>= λ (_, rest). no_step_form rest) (x >>= λ (_, rest). no_step_form rest)
    unfolding no_step_form succeed
    alike_no_step x = alike_after x _ _ (λ _ rest. alike_after (end_of_text rest) _ _ (λ _ _. both tt))

    -- the form of each kind: of a replacement, where it sets a number or not either time
    pub alike_form_of : (kind : StatementKind) (bs : List ℕ)
        → (same_kind kind REPLACEMENT ≡ true → sets_number e is_number at bs ≡ sets_number e is_number' at' bs)
        → Alike (SameStep (not (same_kind kind PROGRAM || same_kind kind NUMBER))) (form_of e is_number at kind bs)
        (form_of e is_number' at' kind bs)
    unfolding same_kind statement_kind_number form_of program_form number_form
    alike_form_of REPLACEMENT bs agree = alike_replacement bs (agree refl)
    alike_form_of NUMBER bs agree = alike_no_step (list_of (name_as (declaring for_number)) bs)
    alike_form_of PROGRAM bs agree = alike_no_step (name_as (declaring for_program) bs)
    alike_form_of END bs agree = alike_step_end finish finish bs
    alike_form_of GOTO bs agree = alike_goto_form bs
    alike_form_of EXIT bs agree = alike_step_end finish finish bs
    alike_form_of IF bs agree = alike_if_form bs
    alike_form_of SCAN bs agree = alike_scan_form forward bs
    alike_form_of BACKSCAN bs agree = alike_scan_form backward bs
    alike_form_of READ bs agree = alike_read_form bs
    alike_form_of WRITE bs agree = alike_write_form bs
    alike_form_of PRINT bs agree = alike_write_form bs
    alike_form_of ROUTINE bs agree = alike_routine_form bs
    alike_form_of EXECUTE bs agree = alike_execute_form bs
    alike_form_of ENDROUTINE bs agree = alike_step_end return return bs
    alike_form_of RETURN bs agree = alike_step_end return return bs
    alike_form_of UNKNOWN bs agree = neither
