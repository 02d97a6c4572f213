-- What a statement produces: as many elements, items and literal bytes as were mentioned, and it holds where the names mentioned are known, no
-- expression has too many elements and 8 does not apply. Assumes nothing.
use Rattle.std.specs.Prelude.{Bool, true, false, ◌≡◌, ℕ, ◌<◌, ltb, eqb, drop}
use mathlib.Core.List.{List, [], ◌∷◌, ◌++◌, map}
use Rattle.std.proofs.Math.Option.{Option, none, some}
use Rattle.std.proofs.Math.Path.{refl, ap, subst}
use Rattle.std.proofs.Common.{sym, ◌∙◌}
use native.Mathlib.Omega.{arith}
use Rattle.std.proofs.Math.ListN.{length, length-append, length-map}
use borrow.Author.Tests.{lt-ltb}
use Rattle.base.specs.Choice.{test_cases, both_pass}
use Rattle.base.specs.Edition.{Edition}
use Rattle.base.specs.Lists.{all, begins, total}
use Rattle.base.specs.Text.{bytes}
use Rattle.cards.specs.Bytes.{quote}
use Rattle.cards.specs.Packing.{literals_from}
use Rattle.validation.specs.Environment.{is_step}
use Rattle.validation.specs.Refusals.{clashes, label_form, with_label, read_statement}
use Rattle.validation.specs.Targets.{is_inner}
use Rattle.syntax.specs.Forms.{step_form, no_step_form, without_unit, label_name, branch, branch_if_any, sets_number, replacement, if_form}
use Rattle.syntax.specs.Forms.{replacement_if_any, scan_form, read_form, write_form, goto_form, routine_form, execute_form, program_form}
use Rattle.syntax.specs.Forms.{number_form, form_of, statement_form}
use Rattle.syntax.specs.Keywords.{
  StatementKind,
  REPLACEMENT,
  NUMBER,
  PROGRAM,
  END,
  GOTO,
  EXIT,
  IF,
  SCAN,
  BACKSCAN,
  READ,
  WRITE,
  PRINT,
  ROUTINE,
  EXECUTE,
  ENDROUTINE,
  RETURN,
  UNKNOWN,
  statement_kind_number,
  same_kind,
  leading,
}
use Rattle.syntax.specs.Placed.{Each, Sizes, PlacedBy}
use Rattle.syntax.specs.Program.{value, Branch, Direction, forward, backward, Statement}
use Rattle.syntax.specs.Program.{set_number, set_string, goto, finish, if_test, scan, read, write, execute, return}
use Rattle.syntax.specs.Parsing.{for_program, for_label, for_routine, for_number, for_string, Mention, reference, declaring}
use Rattle.syntax.specs.Parsing.{Mentions, no_mentions, Parsed, got, broken, ◌>>=◌}
use Rattle.syntax.specs.Lexemes.{Resolution, name_length, name_as}
use Rattle.calls.specs.Literals.{LiteralsWhole, is_unquoted, whole-behind, whole-leading}
use Rattle.encoding.specs.RowLaws.{test-elements, test-items, scan-elements, scan-items}
use Rattle.encoding.specs.RuleLaws.{test-holds, scan-holds}
use Rattle.encoding.specs.Rules.{roles_hold, row_holds, branch_holds, statement_holds}
use Rattle.encoding.specs.TableLiterals.{all-literals-append}
use Rattle.encoding.specs.Table.{replacement_of, elements_of, items_of, all_literals}
use Rattle.calls.specs.Producing.{View, view_of, no_view, join, LiteralsFit, Produces, produces, breaks, ProducesPlainly}
use Rattle.calls.specs.Producing.{produces_map, produces_next, produces_after, produces_succeed, produces_if, produces_expect, produces_end}
use Rattle.calls.specs.ProducingNumeric.{produces_numeric_expression}
use Rattle.calls.specs.ProducingRoles.{Distinct, roles_hold_lem}
use Rattle.calls.specs.ProducingStrings.{ElementRow, produces_list_of, produces_string_expression, produces_pattern}
use Rattle.calls.specs.ProducingWords.{produces_usage, produces_declaring, produces_number_name, produces_part_name, produces_part}
use Rattle.calls.specs.ProducingWords.{produces_test}

-- a statement, which mentions its elements, items and literal bytes
abbrev pub StatementFormed : Edition → Sizes → Statement → View → Type 0
StatementFormed e z a s =
    (s.elements ≡ length (elements_of a))
    × (s.items ≡ length (items_of a))
    × (s.literals ≡ length (all_literals (elements_of a)))
    × (clashes [] [] s.roles ≡ false → statement_holds e z.strings z.numbers z.steps a ≡ true)

-- a statement that is no step mentions none
abbrev pub FormedOrNone : Edition → Sizes → Option Statement → View → Type 0
FormedOrNone e z none s = (s.elements ≡ 0) × (s.items ≡ 0) × (s.literals ≡ 0)
FormedOrNone e z (some a) s = StatementFormed e z a s

abbrev BranchHolds : Edition → Sizes → Branch → Type 0
BranchHolds e z b = branch_holds e z.strings z.numbers z.steps b ≡ true

module _ {K : Mention → Type 0} where
  -- a step, with nothing behind it
  produces_step_end : {P : Option Statement → View → Type 0} (a : Statement) (bs : List ℕ) → LiteralsWhole bs → P (some a) no_view
      → Produces K P (step_form a bs)
  unfolding step_form
  produces_step_end a bs whole h =
      produces_after _ (produces_end bs whole) (λ _ rest whole. produces_succeed (some a) rest whole (λ _. h))

  -- no step, with nothing behind it
  produces_no_step_end : {P : Option Statement → View → Type 0} (bs : List ℕ) → LiteralsWhole bs → P none no_view → Produces K P (no_step_form bs)
  unfolding no_step_form
  produces_no_step_end bs whole h =
      produces_after _ (produces_end bs whole) (λ _ rest whole. produces_succeed none rest whole (λ _. h))

-- a unit may go
whole_unit : (unit bs : List ℕ) → length unit ≡ 4 → all is_unquoted unit ≡ true → LiteralsWhole bs → LiteralsWhole (without_unit unit bs)
unfolding without_unit
whole_unit unit bs four plain whole =
    test_cases (λ t. begins unit bs ≡ t → LiteralsWhole (elim t [ true ↦ drop 4 bs | false ↦ bs ])) (begins unit bs)
    (λ _ h. subst (λ n. LiteralsWhole (drop n bs)) four (whole-behind unit bs plain h whole)) (λ _ _. whole) refl

module _ {K : Mention → Type 0} {z : Sizes} (e : Edition) {at : Resolution} (placed : PlacedBy K z at) (is_number : List ℕ → Bool) where
  produces_label_name : (bs : List ℕ) → LiteralsWhole bs → Produces K (ProducesPlainly (λ i. ltb i z.steps ≡ true)) (label_name e is_number at bs)
  unfolding label_name
  produces_label_name bs whole =
      produces_after _ (produces_usage for_label (λ _. []) bs whole) (λ n rest whole.
      produces_succeed (at.label n) rest whole (λ _. (refl, lt-ltb (at.label n) z.steps (placed.label n))))

  produces_replacement : (bs : List ℕ) → LiteralsWhole bs → Produces K (FormedOrNone e z) (replacement e is_number at bs)
  unfolding replacement elements_of items_of all_literals statement_holds bytes all quote
  produces_replacement bs whole =
      produces_if (sets_number e is_number at bs) _ _
      (λ _. produces_after _ (produces_number_name e placed bs whole) (λ i rest whole.
      produces_after _ (produces_expect (bytes "=") rest refl whole) (λ _ rest whole.
      produces_next _ (produces_numeric_expression e placed rest whole) (λ x rest whole.
      produces_step_end (set_number i x) rest whole (λ s x _ i.
      (omega arith, omega arith, omega arith, λ _. both_pass i (both_pass x.4 x.3)))))))
      (λ _. produces_after _ (produces_part e placed bs whole) (λ p rest whole.
      produces_after _ (produces_expect (bytes "=") rest refl whole) (λ _ rest whole.
      produces_next _ (produces_string_expression e placed rest whole) (λ xs rest whole.
      produces_step_end (set_string p xs) rest whole (λ s x _ p.
      (omega (arith, length-map xs value), omega arith, omega arith, λ _. both_pass p x.3))))))

  produces_replacement_if_any : (bs : List ℕ) → LiteralsWhole bs
      → Produces K (λ r s. ElementRow e z (replacement_of r) s) (replacement_if_any e is_number at bs)
  unfolding replacement_if_any replacement_of all_literals row_holds Each bytes all quote
  produces_replacement_if_any bs whole =
      produces_if (begins (bytes "=") bs) _ _
      (λ h. produces_next _ (produces_string_expression e placed (drop 1 bs) (whole-behind (bytes "=") bs refl h whole)) (λ xs rest whole.
      produces_succeed (some xs) rest whole (λ s h. (omega arith, omega arith, omega arith, h.3))))
      (λ _. produces_succeed none bs whole (refl, refl, refl, refl))

  produces_write_form : (bs : List ℕ) → LiteralsWhole bs → Produces K (FormedOrNone e z) (write_form e is_number at bs)
  unfolding write_form elements_of items_of all_literals statement_holds bytes all quote
  produces_write_form bs whole =
      produces_next _ (produces_string_expression e placed (without_unit (bytes "(61)") bs) (whole_unit (bytes "(61)") bs refl refl whole))
      (λ xs rest whole.
      produces_step_end (write xs) rest whole (λ s x. (omega (arith, length-map xs value), omega arith, omega arith, λ _. x.3)))

  produces_goto_form : (bs : List ℕ) → LiteralsWhole bs → Produces K (FormedOrNone e z) (goto_form e is_number at bs)
  unfolding goto_form elements_of items_of all_literals statement_holds
  produces_goto_form bs whole =
      produces_after _ (produces_label_name bs whole) (λ i rest whole.
      produces_step_end (goto i) rest whole (λ h. (refl, refl, refl, λ _. h)))

  produces_routine_form : (bs : List ℕ) → LiteralsWhole bs → Produces K (FormedOrNone e z) (routine_form e is_number at bs)
  unfolding routine_form elements_of items_of all_literals statement_holds
  produces_routine_form bs whole =
      produces_after _ (produces_declaring for_routine bs whole) (λ n rest whole.
      produces_step_end (goto (at.exit n)) rest whole (λ _. (refl, refl, refl, λ _. lt-ltb (at.exit n) z.steps (placed.exit n))))

  produces_execute_form : (bs : List ℕ) → LiteralsWhole bs → Produces K (FormedOrNone e z) (execute_form e is_number at bs)
  unfolding execute_form elements_of items_of all_literals statement_holds
  produces_execute_form bs whole =
      produces_after _ (produces_usage for_routine (λ _. []) bs whole) (λ n rest whole.
      produces_step_end (execute (at.entry n)) rest whole (λ _. (refl, refl, refl, λ _. lt-ltb (at.entry n) z.steps (placed.entry n))))

  produces_program_form : (bs : List ℕ) → LiteralsWhole bs → Produces K (FormedOrNone e z) (program_form e is_number at bs)
  unfolding program_form
  produces_program_form bs whole =
      produces_after _ (produces_declaring for_program bs whole) (λ _ rest whole. produces_no_step_end rest whole (λ _. (refl, refl, refl)))

  produces_number_form : (bs : List ℕ) → LiteralsWhole bs → Produces K (FormedOrNone e z) (number_form e is_number at bs)
  unfolding number_form
  produces_number_form bs whole =
      produces_next _
      (produces_list_of {One = ProducesPlainly (λ _. Unit {0})} {Many = λ _ s. s ≡ no_view} refl
      (λ _ _ s t h g. ap (λ s. join s (join t no_view)) h.0 ∙ ap (λ t. join no_view (join t no_view)) g)
      (name_as (declaring for_number)) (produces_declaring for_number) bs whole)
      (λ _ rest whole. produces_no_step_end rest whole (λ s h. subst (λ s. FormedOrNone e z none (join s no_view)) (sym h) (refl, refl, refl)))

  -- of no names each is known
  none_known : Each (λ (n : List ℕ). K (record { purpose = for_string; name = n })) []
  unfolding Each
  none_known = tt

  -- where the next step is one of the steps
  module _ (next : at.next < z.steps) where
    yields_branch : (bs : List ℕ) → LiteralsWhole bs → Produces K (ProducesPlainly (BranchHolds e z)) (branch e is_number at bs)
    unfolding branch branch_holds bytes all quote
    yields_branch bs whole =
        let further = lt-ltb at.next z.steps next in
        produces_after _ (produces_expect (bytes "/") bs refl whole) (λ _ rest whole.
        produces_if (begins (bytes ",") rest) _ _
        (λ h. produces_after _ (produces_label_name (drop 1 rest) (whole-behind (bytes ",") rest refl h whole)) (λ f rest whole.
        produces_succeed (record { success = at.next; failure = f }) rest whole (λ f _. (refl, both_pass further f))))
        (λ _. produces_after _ (produces_label_name rest whole) (λ s rest whole.
        produces_if (begins (bytes ",") rest) _ _
        (λ h. produces_after _ (produces_label_name (drop 1 rest) (whole-behind (bytes ",") rest refl h whole)) (λ f rest whole.
        produces_succeed (record { success = s; failure = f }) rest whole (λ f s _. (refl, both_pass s f))))
        (λ _. produces_succeed (record { success = s; failure = at.next }) rest whole (λ s _. (refl, both_pass s further))))))

    yields_branch_if_any : (bs : List ℕ) → LiteralsWhole bs → Produces K (ProducesPlainly (BranchHolds e z)) (branch_if_any e is_number at bs)
    unfolding branch_if_any branch_holds
    yields_branch_if_any bs whole =
        let further = lt-ltb at.next z.steps next in
        produces_if (begins (bytes "/") bs) _ _ (λ _. yields_branch bs whole)
        (λ _. produces_succeed (record { success = at.next; failure = at.next }) bs whole (refl, both_pass further further))

    yields_if_form : (bs : List ℕ) → LiteralsWhole bs → Produces K (FormedOrNone e z) (if_form e is_number at bs)
    unfolding if_form elements_of items_of all_literals statement_holds bytes all quote
    yields_if_form bs whole =
        produces_after _ (produces_expect (bytes "(") bs refl whole) (λ _ rest whole.
        produces_after _ (produces_test e placed rest whole) (λ t rest whole.
        produces_after _ (produces_expect (bytes ")") rest refl whole) (λ _ rest whole.
        produces_after _ (yields_branch rest whole) (λ b rest whole.
        produces_step_end (if_test t b) rest whole (λ branch _ test _. (
          ap length (sym (test-elements t b)),
          ap length (sym (test-items t b)),
          ap (λ xs. length (all_literals xs)) (sym (test-elements t b)),
          λ _. test-holds e z.strings z.numbers z.steps t b test branch,
        ))))))

    yields_read_form : (bs : List ℕ) → LiteralsWhole bs → Produces K (FormedOrNone e z) (read_form e is_number at bs)
    unfolding read_form elements_of items_of all_literals statement_holds bytes all quote
    yields_read_form bs whole =
        produces_after _ (produces_part e placed (without_unit (bytes "(60)") bs) (whole_unit (bytes "(60)") bs refl refl whole))
        (λ p rest whole.
        produces_after _ (yields_branch_if_any rest whole) (λ b rest whole.
        produces_step_end (read p b) rest whole (λ b p. (refl, refl, refl, λ _. both_pass p b))))

    -- where strings of other names have other places
    module _ (distinct : Distinct K at) where
      yields_scan_form : (d : Direction) (bs : List ℕ) → LiteralsWhole bs → Produces K (FormedOrNone e z) (scan_form e is_number at d bs)
      unfolding scan_form elements_of items_of statement_holds clashes bytes all quote
      yields_scan_form d bs whole =
          produces_next _ (produces_part_name e placed (λ n. reference n ∷ []) bs whole) (λ p rest whole.
          produces_after _ (produces_expect (bytes "[") rest refl whole) (λ _ rest whole.
          produces_next _ (produces_pattern e placed rest whole) (λ xs rest whole.
          produces_after _ (produces_expect (bytes "]") rest refl whole) (λ _ rest whole.
          produces_next _ (produces_replacement_if_any rest whole) (λ r rest whole.
          produces_after _ (yields_branch_if_any rest whole) (λ b rest whole.
          produces_step_end (scan d p xs r b) rest whole (λ branch u row _ t pat _ s ref.
          let n = ref.0 in
          let ys = map value (replacement_of r) in
          let elements = scan-elements d p xs r b in
          subst (λ s. StatementFormed e z (scan d p xs r b) (join s (join t (join u no_view)))) (sym ref.2) (
            omega (arith, ap length elements, length-append xs ys, length-map (replacement_of r) value),
            omega (arith, ap length (scan-items d p xs r b)),
            omega
                (arith, ap (λ zs. length (all_literals zs)) elements, ap length (all-literals-append xs ys), length-append (all_literals xs) (all_literals ys)),
            λ clash.
                let roles = roles_hold_lem K at distinct n ref.3 [] none_known xs t.roles (u.roles ++ []) pat.3 clash in
                scan-holds e z.strings z.numbers z.steps d r (record {
                  part = ref.4;
                  few = pat.4;
                  patterns = pat.5;
                  roles = ap (λ i. roles_hold i [] xs) ref.1 ∙ roles;
                  row = row.3;
                  branch = branch;
                }),
          ))))))))

  -- the form of each kind, where the next step is one of the steps if another comes behind, and strings of other names have other places
  produces_form_of : (kind : StatementKind) (bs : List ℕ) → LiteralsWhole bs
      → (is_inner kind ≡ true → at.next < z.steps) → Distinct K at → Produces K (FormedOrNone e z) (form_of e is_number at kind bs)
  unfolding form_of is_step same_kind statement_kind_number elements_of items_of all_literals statement_holds
  produces_form_of REPLACEMENT bs whole next distinct = produces_replacement bs whole
  produces_form_of NUMBER bs whole next distinct = produces_number_form bs whole
  produces_form_of PROGRAM bs whole next distinct = produces_program_form bs whole
  produces_form_of END bs whole next distinct = produces_step_end finish bs whole (refl, refl, refl, λ _. refl)
  produces_form_of GOTO bs whole next distinct = produces_goto_form bs whole
  produces_form_of EXIT bs whole next distinct = produces_step_end finish bs whole (refl, refl, refl, λ _. refl)
  produces_form_of IF bs whole next distinct = yields_if_form (next refl) bs whole
  produces_form_of SCAN bs whole next distinct = yields_scan_form (next refl) distinct forward bs whole
  produces_form_of BACKSCAN bs whole next distinct = yields_scan_form (next refl) distinct backward bs whole
  produces_form_of READ bs whole next distinct = yields_read_form (next refl) bs whole
  produces_form_of WRITE bs whole next distinct = produces_write_form bs whole
  produces_form_of PRINT bs whole next distinct = produces_write_form bs whole
  produces_form_of ROUTINE bs whole next distinct = produces_routine_form bs whole
  produces_form_of EXECUTE bs whole next distinct = produces_execute_form bs whole
  produces_form_of ENDROUTINE bs whole next distinct = produces_step_end return bs whole (refl, refl, refl, λ _. refl)
  produces_form_of RETURN bs whole next distinct = produces_step_end return bs whole (refl, refl, refl, λ _. refl)
  produces_form_of UNKNOWN bs whole next distinct = breaks

-- a label mentions no more than its name
produces_label : {K : Mention → Type 0} (bs : List ℕ) → Produces K (ProducesPlainly (λ _. Unit {0})) (label_form bs)
unfolding label_form declaring no_mentions view_of total literals_from
produces_label [] = produces refl (λ _. (refl, tt))
produces_label (b ∷ bs) =
    produces_if (eqb (name_length (b ∷ bs)) (length (b ∷ bs))) _ _ (λ _. produces refl (λ _. (refl, tt))) (λ _. breaks)

-- a labelled statement produces what its form does where its literals are whole
produces_labelled : {K : Mention → Type 0} {P : Option Statement → View → Type 0} (label : Parsed (Unit {0})) (whole : Bool)
    (form : Parsed (Option Statement)) → Produces K (ProducesPlainly (λ _. Unit {0})) label → (whole ≡ true → Produces K P form)
    → Produces K P (with_label label whole form)
unfolding with_label ◌>>=◌
produces_labelled (got u m rest) true form h f = produces_after (λ _. form) h (λ _ _ _. produces_map (λ _ _ p _. p) (f refl))
produces_labelled (got u m rest) false form h f = breaks
produces_labelled broken whole form h f = breaks

-- what a reading yields holds of what it read
yielded : {K : Mention → Type 0} {A : Type 0} {P : A → View → Type 0} {a : A} {m : Mentions} {rest : List ℕ} → Produces K P (got a m rest)
    → LiteralsFit K m → P a (view_of m)
yielded (produces whole p) fit = p fit

-- a statement read, where the next step is one of the steps if another comes behind, and strings of other names have other places
pub statement_produces : {K : Mention → Type 0} {z : Sizes} (e : Edition) {at : Resolution} → PlacedBy K z at → (is_number : List ℕ → Bool)
    (label_bytes : List ℕ) (whole : Bool) (bs : List ℕ) → (whole ≡ true → LiteralsWhole bs) → (a : Option Statement) (m : Mentions) (rest : List ℕ)
    → (is_inner (leading bs).kind ≡ true → at.next < z.steps)
    → Distinct K at → read_statement e is_number at label_bytes whole bs ≡ got a m rest → LiteralsFit K m → FormedOrNone e z a (view_of m)
unfolding read_statement statement_form
statement_produces {K} {z} e {at} placed is_number label_bytes whole bs h a m rest next distinct q fit =
    let form : whole ≡ true → Produces K (FormedOrNone e z) (statement_form e is_number at bs) = λ w.
    produces_form_of e placed is_number (leading bs).kind (drop (leading bs).size bs) (whole-leading bs (h w)) next distinct in
    yielded
    (subst (Produces K (FormedOrNone e z)) q
    (produces_labelled (label_form label_bytes) whole (statement_form e is_number at bs) (produces_label label_bytes) form))
    fit
