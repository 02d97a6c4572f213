-- Only ROUTINE declares a routine. Assumes nothing.
use Rattle.std.specs.Prelude.{Bool, true, false, cond, ◌&&◌, ◌||◌, ◌≡◌, refl, ℕ, zero, suc, ◌+◌, ltb, eqb, length, take, drop, get_or}
use Rattle.std.proofs.Math.Bool.{not}
use Rattle.std.proofs.Common.{true≢false, sym, subst}
use mathlib.Core.List.{List, [], ◌∷◌, ◌++◌}
use Rattle.std.proofs.Math.Option.{Option}
use Rattle.std.proofs.Math.Dec.{leb}
use Rattle.base.specs.Edition.{Edition}
use Rattle.base.specs.Lists.{begins, keep}
use Rattle.base.specs.Text.{bytes}
use Rattle.cards.specs.Bytes.{is_digit, quote}
use Rattle.syntax.specs.Forms.{step_form, no_step_form, without_unit, label_name, branch, branch_if_any, sets_number, replacement, if_form}
use Rattle.syntax.specs.Forms.{replacement_if_any, scan_form, read_form, write_form, goto_form, execute_form, program_form, number_form}
use Rattle.syntax.specs.Forms.{form_of, statement_form}
use Rattle.syntax.specs.Keywords.{
  StatementKind,
  REPLACEMENT,
  NUMBER,
  PROGRAM,
  END,
  GOTO,
  EXIT,
  IF,
  SCAN,
  BACKSCAN,
  READ,
  WRITE,
  PRINT,
  ROUTINE,
  EXECUTE,
  ENDROUTINE,
  RETURN,
  UNKNOWN,
  statement_kind_number,
  same_kind,
  leading,
}
use Rattle.syntax.specs.Numeric.{deepest, fuel_for, sum_operator, product_operator, leading_sign, comparison, called_or_number, plain_factor}
use Rattle.syntax.specs.Numeric.{if_operand, test, expression_at, more_terms, term_at, more_factors, factor_at, numeric_expression}
use Rattle.syntax.specs.Placed.{Each, each-join}
use Rattle.syntax.specs.Program.{plus, minus, times, over, Item, operand, operator, Direction, forward, backward, Statement, finish, return}
use Rattle.syntax.specs.Parsing as Reading
use Rattle.syntax.specs.Parsing.{Purpose, for_program, for_label, for_routine, for_number, for_string, purpose_number, same_purpose, Mention, Role, reference}
use Rattle.syntax.specs.Parsing.{sought, filler, Mentions, declaring, usage, one_item, one_row, one_literal}
use Rattle.syntax.specs.Parsing.{Parsed, got, broken, mentioning, succeed, expect, end_of_text, ◌>>=◌}
use Rattle.syntax.specs.Strings.{literal_at, nothing_here, more_of, list_of, row_parser, text_call, element, string_expression, filler_at}
use Rattle.syntax.specs.Strings.{pattern_element, pattern}
use Rattle.syntax.specs.Lexemes.{Resolution, run_length, name_length, name, name_as, decimal_from, no_role, is_sign, unsigned, signed, number_name, bound}
use Rattle.syntax.specs.Lexemes.{part_of, string_name, part_name}
use Rattle.validation.specs.Environment.{names_for}
use Rattle.validation.specs.Refusals.{label_form, with_label, read_statement}

-- a name declared is no routine
abbrev NoRoutine : Mention → Type 0
NoRoutine n = same_purpose for_routine n.purpose ≡ false

-- what is read declares no routine
Quiet : {A : Type 0} → Parsed A → Type 0
Quiet (got a m rest) = Each NoRoutine m.declared
Quiet broken = Unit

-- nothing more is declared behind names that are no routines
quiet_mentioning : {A : Type 0} (m : Mentions) (r : Parsed A) → Each NoRoutine m.declared → Quiet r → Quiet (mentioning m r)
unfolding Quiet mentioning Reading.merge_mentions
quiet_mentioning m (got a n rest) h g = each-join NoRoutine m.declared n.declared h g
quiet_mentioning m broken h g = tt

-- two readings, one behind the other
quiet_next : {A B : Type 0} (r : Parsed A) (f : A × List ℕ → Parsed B) → Quiet r → ((a : A) (rest : List ℕ) → Quiet (f (a, rest)))
    → Quiet (r >>= f)
unfolding Quiet ◌>>=◌
quiet_next (got a m rest) f h g = quiet_mentioning m (f (a, rest)) h (g a rest)
quiet_next broken f h g = tt

-- either way a test goes
quiet_if : {A : Type 0} (test : Bool) (x y : Parsed A) → Quiet x → Quiet y → Quiet {A = A} (elim test [ true ↦ x | false ↦ y ])
quiet_if true x y h g = h
quiet_if false x y h g = g

-- a value given declares nothing
quiet_succeed : {A : Type 0} (a : A) (bs : List ℕ) → Quiet (succeed a bs)
unfolding Quiet succeed Reading.no_mentions Each
quiet_succeed a bs = tt

-- names declared with another purpose are no routines
quiet_name : (p : Purpose) (bs : List ℕ) → same_purpose for_routine p ≡ false → Quiet (name_as (declaring p) bs)
unfolding name_as name Quiet declaring Each
quiet_name p bs h =
    quiet_next _ _ (quiet_if (leb 1 (name_length bs)) _ _ (quiet_succeed (take (name_length bs) bs) (drop (name_length bs) bs)) tt)
    (λ _ _. (h, tt))

-- a row of what declares no routine declares none
quiet_more_of : {A : Type 0} (one : List ℕ → Parsed A) → ((bs : List ℕ) → Quiet (one bs)) → (k : ℕ) (bs : List ℕ) → Quiet (more_of one k bs)
unfolding more_of
quiet_more_of one h zero bs = quiet_succeed [] bs
quiet_more_of one h (suc k) bs =
    quiet_if (begins (bytes ",") bs) _ _
    (quiet_next (one (drop 1 bs)) _ (h (drop 1 bs))
    (λ x rest. quiet_next (more_of one k rest) _ (quiet_more_of one h k rest) (λ xs rest. quiet_succeed (x ∷ xs) rest)))
    (quiet_succeed [] bs)

quiet_list_of : {A : Type 0} (one : List ℕ → Parsed A) → ((bs : List ℕ) → Quiet (one bs)) → (bs : List ℕ) → Quiet (list_of one bs)
unfolding list_of
quiet_list_of one h bs =
    quiet_next (one bs) _ (h bs) (λ x rest.
    quiet_next (more_of one (length rest) rest) _ (quiet_more_of one h (length rest) rest) (λ xs rest. quiet_succeed (x ∷ xs) rest))

-- the end declares nothing
quiet_finished : (bs : List ℕ) → Quiet (end_of_text bs)
unfolding end_of_text Quiet
quiet_finished [] = quiet_succeed tt []
quiet_finished (b ∷ bs) = tt

-- nothing declared, whatever else was mentioned
quiet_got : {A : Type 0} (a : A) (m : Mentions) (bs : List ℕ) → m.declared ≡ [] → Quiet (got a m bs)
unfolding Quiet Each
quiet_got a m bs h = subst (Each NoRoutine) (sym h) tt

quiet_expect : (w bs : List ℕ) → Quiet (expect w bs)
unfolding expect Quiet
quiet_expect w bs = quiet_if (begins w bs) _ _ (quiet_succeed tt (drop (length w) bs)) tt

-- a name used declares nothing
quiet_use : (p : Purpose) (roles : List ℕ → List Role) (bs : List ℕ) → Quiet (name_as (λ n. usage p (roles n) n) bs)
unfolding name_as name Quiet usage Each
quiet_use p roles bs =
    quiet_next _ _ (quiet_if (leb 1 (name_length bs)) _ _ (quiet_succeed (take (name_length bs) bs) (drop (name_length bs) bs)) tt)
    (λ _ _. tt)

-- a reading, and behind it a byte that must stand there
quiet_closed : {A B : Type 0} (w : List ℕ) (x : Parsed A) (f : A → B) → Quiet x
    → Quiet (x >>= λ (a, rest). expect w rest >>= λ (_, rest). succeed (f a) rest)
quiet_closed w x f h = quiet_next x _ h (λ a rest. quiet_next _ _ (quiet_expect w rest) (λ _ rest. quiet_succeed (f a) rest))

-- a reading of which something is made
quiet_made : {A B : Type 0} (x : Parsed A) (f : A → B) → Quiet x → Quiet (x >>= λ (a, rest). succeed (f a) rest)
quiet_made x f h = quiet_next x _ h (λ a rest. quiet_succeed (f a) rest)

module _ (e : Edition) where
  quiet_unsigned : (bs : List ℕ) → Quiet (unsigned e bs)
  unfolding unsigned Quiet
  quiet_unsigned bs =
      let n = run_length is_digit bs in
      quiet_if (leb 1 n && leb (decimal_from 0 (take n bs)) e.limit) _ _ (quiet_succeed _ (drop n bs)) tt

  quiet_signed : (bs : List ℕ) → Quiet (signed e bs)
  unfolding signed
  quiet_signed bs =
      quiet_if (begins (bytes "-") bs) _ _ (quiet_made _ _ (quiet_unsigned (drop 1 bs)))
      (quiet_made _ _ (quiet_unsigned (drop (cond (begins (bytes "+") bs) 1 0) bs)))

  module _ (at : Resolution) where
    quiet_number_name : (bs : List ℕ) → Quiet (number_name e at bs)
    unfolding number_name
    quiet_number_name bs = quiet_made _ _ (quiet_use for_number (λ _. []) bs)

    quiet_bound : (bs : List ℕ) → Quiet (bound e at bs)
    unfolding bound
    quiet_bound bs =
        quiet_if (is_digit (get_or bs 0 0)) _ _ (quiet_made _ _ (quiet_unsigned bs)) (quiet_made _ _ (quiet_number_name bs))

    quiet_string_name : (roles : List ℕ → List Role) (bs : List ℕ) → Quiet (string_name e at roles bs)
    unfolding string_name
    quiet_string_name roles bs = quiet_made _ _ (quiet_use for_string roles bs)

    quiet_part_name : (roles : List ℕ → List Role) (bs : List ℕ) → Quiet (part_name e at roles bs)
    unfolding part_name part_of
    quiet_part_name roles bs =
        quiet_next _ _ (quiet_string_name roles bs) (λ s rest.
        quiet_if (begins (bytes "$") rest) _ _ (quiet_made _ _ (quiet_bound (drop 1 rest))) (quiet_succeed _ rest))

    quiet_called_or_number : (bs : List ℕ) → Quiet (called_or_number e at bs)
    unfolding called_or_number
    quiet_called_or_number bs =
        quiet_if (begins (bytes "LENGTH(") bs) _ _ (quiet_closed (bytes ")") _ _ (quiet_string_name no_role (drop 7 bs)))
        (quiet_if (begins (bytes "NUMBER(") bs) _ _ (quiet_closed (bytes ")") _ _ (quiet_part_name no_role (drop 7 bs)))
        (quiet_made _ _ (quiet_number_name bs)))

    quiet_plain_factor : (bs : List ℕ) → Quiet (plain_factor e at bs)
    unfolding plain_factor
    quiet_plain_factor bs = quiet_if (is_digit (get_or bs 0 0)) _ _ (quiet_made _ _ (quiet_unsigned bs)) (quiet_called_or_number bs)

    quiet_if_operand : (bs : List ℕ) → Quiet (if_operand e at bs)
    unfolding if_operand
    quiet_if_operand bs =
        quiet_if (is_digit (get_or bs 0 0) || is_sign bs) _ _ (quiet_made _ _ (quiet_signed bs)) (quiet_called_or_number bs)

    quiet_comparison : (bs : List ℕ) → Quiet (comparison bs)
    unfolding comparison Quiet
    quiet_comparison bs =
        quiet_if (begins (bytes "<>") bs) _ _ (quiet_succeed _ (drop 2 bs))
        (quiet_if (begins (bytes "<=") bs) _ _ (quiet_succeed _ (drop 2 bs))
        (quiet_if (begins (bytes ">=") bs) _ _ (quiet_succeed _ (drop 2 bs))
        (quiet_if (begins (bytes "=") bs) _ _ (quiet_succeed _ (drop 1 bs))
        (quiet_if (begins (bytes "<") bs) _ _ (quiet_succeed _ (drop 1 bs))
        (quiet_if (begins (bytes ">") bs) _ _ (quiet_succeed _ (drop 1 bs)) tt)))))

    quiet_test : (bs : List ℕ) → Quiet (test e at bs)
    unfolding test
    quiet_test bs =
        quiet_if (begins (bytes "NULL(") bs) _ _ (quiet_closed (bytes ")") _ _ (quiet_string_name no_role (drop 5 bs)))
        (quiet_if (begins (bytes "NUMERIC(") bs) _ _ (quiet_closed (bytes ")") _ _ (quiet_part_name no_role (drop 8 bs)))
        (quiet_next _ _ (quiet_if_operand bs) (λ a rest.
        quiet_next _ _ (quiet_comparison rest) (λ c rest.
        quiet_made _ _ (quiet_if_operand rest)))))

    quiet_leading_sign : (bs : List ℕ) → Quiet (leading_sign bs)
    unfolding leading_sign one_item
    quiet_leading_sign bs =
        quiet_if (begins (bytes "+") bs) _ _ (quiet_got _ one_item (drop 1 bs) refl)
        (quiet_if (begins (bytes "-") bs) _ _ (quiet_got _ one_item (drop 1 bs) refl) (quiet_succeed [] bs))

    quiet_sum_operator : (bs : List ℕ) → Quiet (sum_operator bs)
    unfolding sum_operator one_item Quiet
    quiet_sum_operator bs =
        quiet_if (begins (bytes "+") bs) _ _ (quiet_got plus one_item (drop 1 bs) refl)
        (quiet_if (begins (bytes "-") bs) _ _ (quiet_got minus one_item (drop 1 bs) refl) tt)

    quiet_product_operator : (bs : List ℕ) → Quiet (product_operator bs)
    unfolding product_operator one_item Quiet
    quiet_product_operator bs =
        quiet_if (begins (bytes "*") bs) _ _ (quiet_got times one_item (drop 1 bs) refl)
        (quiet_if (begins (bytes "/") bs) _ _ (quiet_got over one_item (drop 1 bs) refl) tt)

    mutual
      unfolding expression_at succeed one_item Quiet

      quiet_expression_at : (k d : ℕ) (bs : List ℕ) → Quiet (expression_at e at k d bs)
      quiet_expression_at zero d bs = tt
      quiet_expression_at (suc k) d bs =
          quiet_next _ _ (quiet_leading_sign bs) (λ s rest.
          quiet_next _ _ (quiet_term_at k d rest) (λ t rest. quiet_more_terms k d (t ++ s) rest))

      quiet_more_terms : (k d : ℕ) (before : List Item) (bs : List ℕ) → Quiet (more_terms e at k d before bs)
      quiet_more_terms zero d before bs = tt
      quiet_more_terms (suc k) d before bs =
          quiet_if (is_sign bs) _ _
          (quiet_next _ _ (quiet_sum_operator bs) (λ o rest.
          quiet_next _ _ (quiet_term_at k d rest) (λ t rest. quiet_more_terms k d (before ++ (t ++ (operator o ∷ []))) rest)))
          (quiet_succeed before bs)

      quiet_term_at : (k d : ℕ) (bs : List ℕ) → Quiet (term_at e at k d bs)
      quiet_term_at zero d bs = tt
      quiet_term_at (suc k) d bs = quiet_next _ _ (quiet_factor_at k d bs) (λ f rest. quiet_more_factors k d f rest)

      quiet_more_factors : (k d : ℕ) (before : List Item) (bs : List ℕ) → Quiet (more_factors e at k d before bs)
      quiet_more_factors zero d before bs = tt
      quiet_more_factors (suc k) d before bs =
          quiet_if (begins (bytes "*") bs || begins (bytes "/") bs) _ _
          (quiet_next _ _ (quiet_product_operator bs) (λ o rest.
          quiet_next _ _ (quiet_factor_at k d rest) (λ f rest. quiet_more_factors k d (before ++ (f ++ (operator o ∷ []))) rest)))
          (quiet_succeed before bs)

      quiet_factor_at : (k d : ℕ) (bs : List ℕ) → Quiet (factor_at e at k d bs)
      quiet_factor_at zero d bs = tt
      quiet_factor_at (suc k) d bs =
          quiet_if (begins (bytes "(") bs) _ _
          (quiet_if (ltb d deepest) _ _ (quiet_closed (bytes ")") _ _ (quiet_expression_at k (suc d) (drop 1 bs))) tt)
          (quiet_next _ _ (quiet_plain_factor bs) (λ a rest. quiet_got (operand a ∷ []) one_item rest refl))

    quiet_row_of : {A : Type 0} (one : List ℕ → Parsed A) → ((bs : List ℕ) → Quiet (one bs)) → (bs : List ℕ) → Quiet (row_parser one bs)
    unfolding row_parser one_row
    quiet_row_of one h bs =
        quiet_if (nothing_here bs) _ _ (quiet_succeed [] bs)
        (quiet_next _ _ (quiet_list_of one h bs) (λ xs rest. quiet_got xs (one_row (length xs)) rest refl))

    quiet_text_call : (bs : List ℕ) → Quiet (text_call e at bs)
    unfolding text_call
    quiet_text_call bs =
        quiet_if (is_digit (get_or bs 0 0) || is_sign bs) _ _
        (quiet_next _ _ (quiet_signed bs) (λ n rest.
        quiet_next _ _ (quiet_expect (bytes ",") rest) (λ _ rest.
        quiet_closed (bytes ")") _ _ (quiet_number_name rest))))
        (quiet_next _ _ (quiet_number_name bs) (λ i rest.
        quiet_if (begins (bytes ",") rest) _ _
        (quiet_closed (bytes ")") _ _ (quiet_number_name (drop 1 rest)))
        (quiet_made _ _ (quiet_expect (bytes ")") rest))))

    quiet_literal_at : (bs : List ℕ) → Quiet (literal_at bs)
    unfolding literal_at one_literal
    quiet_literal_at bs =
        let n = run_length (λ b. not (eqb b quote)) bs in
        quiet_if (begins (bytes "\"\"") bs) _ _ (quiet_got _ (one_literal 1) (drop 2 bs) refl)
        (quiet_got _ (one_literal n) (drop (n + 1) bs) refl)

    quiet_element : (roles : List ℕ → List Role) (bs : List ℕ) → Quiet (element e at roles bs)
    unfolding element
    quiet_element roles bs =
        quiet_if (begins (bytes "\"") bs) _ _ (quiet_made _ _ (quiet_literal_at (drop 1 bs)))
        (quiet_if (begins (bytes "STRING(") bs) _ _ (quiet_text_call (drop 7 bs)) (quiet_made _ _ (quiet_part_name roles bs)))

    quiet_string_expression : (bs : List ℕ) → Quiet (string_expression e at bs)
    unfolding string_expression
    quiet_string_expression bs = quiet_row_of (element e at no_role) (quiet_element no_role) bs

    quiet_filler_at : (bs : List ℕ) → Quiet (filler_at e at bs)
    unfolding filler_at
    quiet_filler_at bs =
        quiet_next _ _ (quiet_string_name (λ n. filler n ∷ []) bs) (λ s rest.
        quiet_if (begins (bytes "$") rest) _ _
        (quiet_closed (bytes ")") _ _ (quiet_bound (drop 1 rest)))
        (quiet_made _ _ (quiet_expect (bytes ")") rest)))

    quiet_pattern_element : (bs : List ℕ) → Quiet (pattern_element e at bs)
    unfolding pattern_element
    quiet_pattern_element bs =
        quiet_if (begins (bytes "(") bs) _ _ (quiet_filler_at (drop 1 bs)) (quiet_made _ _ (quiet_element (λ n. sought n ∷ []) bs))

    quiet_pattern : (bs : List ℕ) → Quiet (pattern e at bs)
    unfolding pattern
    quiet_pattern bs = quiet_row_of (pattern_element e at) quiet_pattern_element bs

    module _ (is_number : List ℕ → Bool) where
      quiet_label_name : (bs : List ℕ) → Quiet (label_name e is_number at bs)
      unfolding label_name
      quiet_label_name bs = quiet_made _ _ (quiet_use for_label (λ _. []) bs)

      quiet_branch : (bs : List ℕ) → Quiet (branch e is_number at bs)
      unfolding branch
      quiet_branch bs =
          quiet_next _ _ (quiet_expect (bytes "/") bs) (λ _ rest.
          quiet_if (begins (bytes ",") rest) _ _
          (quiet_made _ _ (quiet_label_name (drop 1 rest)))
          (quiet_next _ _ (quiet_label_name rest) (λ s rest.
          quiet_if (begins (bytes ",") rest) _ _ (quiet_made _ _ (quiet_label_name (drop 1 rest))) (quiet_succeed _ rest))))

      quiet_branch_if_any : (bs : List ℕ) → Quiet (branch_if_any e is_number at bs)
      unfolding branch_if_any
      quiet_branch_if_any bs = quiet_if (begins (bytes "/") bs) _ _ (quiet_branch bs) (quiet_succeed _ bs)

      -- a step, or none, with nothing behind it
      quiet_step_end : (s : Statement) (bs : List ℕ) → Quiet (step_form s bs)
      unfolding step_form
      quiet_step_end s bs = quiet_made _ _ (quiet_finished bs)

      quiet_no_step_end : (bs : List ℕ) → Quiet (no_step_form bs)
      unfolding no_step_form
      quiet_no_step_end bs = quiet_made _ _ (quiet_finished bs)

      quiet_replacement : (bs : List ℕ) → Quiet (replacement e is_number at bs)
      unfolding replacement numeric_expression
      quiet_replacement bs =
          quiet_if (sets_number e is_number at bs) _ _
          (quiet_next _ _ (quiet_number_name bs) (λ i rest.
          quiet_next _ _ (quiet_expect (bytes "=") rest) (λ _ rest.
          quiet_next _ _ (quiet_expression_at (fuel_for rest) 0 rest) (λ x rest. quiet_step_end _ rest))))
          (quiet_next _ _ (quiet_part_name no_role bs) (λ p rest.
          quiet_next _ _ (quiet_expect (bytes "=") rest) (λ _ rest.
          quiet_next _ _ (quiet_string_expression rest) (λ xs rest. quiet_step_end _ rest))))

      quiet_if_form : (bs : List ℕ) → Quiet (if_form e is_number at bs)
      unfolding if_form
      quiet_if_form bs =
          quiet_next _ _ (quiet_expect (bytes "(") bs) (λ _ rest.
          quiet_next _ _ (quiet_test rest) (λ t rest.
          quiet_next _ _ (quiet_expect (bytes ")") rest) (λ _ rest.
          quiet_next _ _ (quiet_branch rest) (λ b rest. quiet_step_end _ rest))))

      quiet_replacement_if_any : (bs : List ℕ) → Quiet (replacement_if_any e is_number at bs)
      unfolding replacement_if_any
      quiet_replacement_if_any bs =
          quiet_if (begins (bytes "=") bs) _ _ (quiet_made _ _ (quiet_string_expression (drop 1 bs))) (quiet_succeed _ bs)

      quiet_scan_form : (d : Direction) (bs : List ℕ) → Quiet (scan_form e is_number at d bs)
      unfolding scan_form
      quiet_scan_form d bs =
          quiet_next _ _ (quiet_part_name (λ n. reference n ∷ []) bs) (λ p rest.
          quiet_next _ _ (quiet_expect (bytes "[") rest) (λ _ rest.
          quiet_next _ _ (quiet_pattern rest) (λ xs rest.
          quiet_next _ _ (quiet_expect (bytes "]") rest) (λ _ rest.
          quiet_next _ _ (quiet_replacement_if_any rest) (λ r rest.
          quiet_next _ _ (quiet_branch_if_any rest) (λ b rest. quiet_step_end _ rest))))))

      quiet_read_form : (bs : List ℕ) → Quiet (read_form e is_number at bs)
      unfolding read_form
      quiet_read_form bs =
          quiet_next _ _ (quiet_part_name no_role (without_unit (bytes "(60)") bs)) (λ p rest.
          quiet_next _ _ (quiet_branch_if_any rest) (λ b rest. quiet_step_end _ rest))

      quiet_write_form : (bs : List ℕ) → Quiet (write_form e is_number at bs)
      unfolding write_form
      quiet_write_form bs =
          quiet_next _ _ (quiet_string_expression (without_unit (bytes "(61)") bs)) (λ xs rest. quiet_step_end _ rest)

      quiet_goto_form : (bs : List ℕ) → Quiet (goto_form e is_number at bs)
      unfolding goto_form
      quiet_goto_form bs = quiet_next _ _ (quiet_label_name bs) (λ s rest. quiet_step_end _ rest)

      quiet_execute_form : (bs : List ℕ) → Quiet (execute_form e is_number at bs)
      unfolding execute_form
      quiet_execute_form bs = quiet_next _ _ (quiet_use for_routine (λ _. []) bs) (λ n rest. quiet_step_end _ rest)

      -- the form of every kind but ROUTINE declares no routine
      quiet_form_of : (kind : StatementKind) (bs : List ℕ) → same_kind kind ROUTINE ≡ false → Quiet (form_of e is_number at kind bs)
      unfolding form_of program_form number_form same_kind statement_kind_number same_purpose purpose_number Quiet
      quiet_form_of REPLACEMENT bs h = quiet_replacement bs
      quiet_form_of NUMBER bs h =
          quiet_next _ _ (quiet_list_of _ (λ bs. quiet_name for_number bs refl) bs) (λ _ rest. quiet_no_step_end rest)
      quiet_form_of PROGRAM bs h = quiet_next _ _ (quiet_name for_program bs refl) (λ _ rest. quiet_no_step_end rest)
      quiet_form_of END bs h = quiet_step_end finish bs
      quiet_form_of GOTO bs h = quiet_goto_form bs
      quiet_form_of EXIT bs h = quiet_step_end finish bs
      quiet_form_of IF bs h = quiet_if_form bs
      quiet_form_of SCAN bs h = quiet_scan_form forward bs
      quiet_form_of BACKSCAN bs h = quiet_scan_form backward bs
      quiet_form_of READ bs h = quiet_read_form bs
      quiet_form_of WRITE bs h = quiet_write_form bs
      quiet_form_of PRINT bs h = quiet_write_form bs
      quiet_form_of ROUTINE bs h = absurd (true≢false h)
      quiet_form_of EXECUTE bs h = quiet_execute_form bs
      quiet_form_of ENDROUTINE bs h = quiet_step_end return bs
      quiet_form_of RETURN bs h = quiet_step_end return bs
      quiet_form_of UNKNOWN bs h = tt

-- nor does a label
quiet_label : (bs : List ℕ) → Quiet (label_form bs)
unfolding label_form Quiet declaring same_purpose purpose_number Reading.no_mentions Each
quiet_label [] = tt
quiet_label (b ∷ bs) = quiet_if (eqb (name_length (b ∷ bs)) (length (b ∷ bs))) _ _ (refl, tt) tt

-- nor a labelled statement, where its form does not
quiet_labelled : {A : Type 0} (label : Parsed (Unit {0})) (whole : Bool) (form : Parsed A) → Quiet label → Quiet form
    → Quiet (with_label label whole form)
unfolding Quiet with_label
quiet_labelled (got u m rest) true form h g = quiet_mentioning m form h g
quiet_labelled (got u m rest) false form h g = tt
quiet_labelled broken whole form h g = tt

-- names that are no routines hold no routine
no_routines : (ns : List Mention) → Each NoRoutine ns → names_for for_routine ns ≡ []
unfolding names_for keep Each
no_routines [] h = refl
no_routines (n ∷ ns) h = rw (h.0, keep) (no_routines ns h.1)

-- a statement that is no ROUTINE declares no routine
pub declares_none : (e : Edition) (is_number : List ℕ → Bool) (at : Resolution) (label_bytes : List ℕ) (whole : Bool) (text : List ℕ)
    (s : Option Statement) (m : Mentions) (rest : List ℕ) → same_kind (leading text).kind ROUTINE ≡ false
    → read_statement e is_number at label_bytes whole text ≡ got s m rest
    → names_for for_routine m.declared ≡ []
unfolding read_statement statement_form Quiet
declares_none e is_number at label_bytes whole text s m rest other q =
    let form = quiet_form_of e at is_number (leading text).kind (drop (leading text).size text) other in
    no_routines m.declared (subst Quiet q (quiet_labelled (label_form label_bytes) whole _ (quiet_label label_bytes) form))
