-- Where the statement of each form leads, if the names it uses and the places of the deck lead there. Assumes nothing.
use Rattle.std.specs.Prelude.{Bool, true, false, not, ◌||◌, List, [], ◌∷◌, ◌≡◌, ℕ, suc, drop}
use Rattle.std.proofs.Math.Option.{Option, none, some}
use Rattle.std.proofs.Math.Path.{refl}
use Rattle.base.specs.Edition.{Edition}
use Rattle.base.specs.Lists.{begins}
use Rattle.base.specs.Text.{bytes}
use Rattle.syntax.specs.Forms.{step_form, no_step_form, without_unit, label_name, branch, branch_if_any, sets_number, replacement, if_form}
use Rattle.syntax.specs.Forms.{replacement_if_any, scan_form, read_form, write_form, goto_form, routine_form, execute_form, program_form}
use Rattle.syntax.specs.Forms.{number_form, form_of}
use Rattle.syntax.specs.Keywords.{
  StatementKind,
  REPLACEMENT,
  NUMBER,
  PROGRAM,
  END,
  GOTO,
  EXIT,
  IF,
  SCAN,
  BACKSCAN,
  READ,
  WRITE,
  PRINT,
  ROUTINE,
  EXECUTE,
  ENDROUTINE,
  RETURN,
  UNKNOWN,
  statement_kind_number,
  same_kind,
}
use Rattle.syntax.specs.Numeric.{numeric_expression, test}
use Rattle.syntax.specs.Placed.{Each, each_part}
use Rattle.syntax.specs.Program.{Direction, forward, backward, Statement, set_number, set_string, goto, finish, if_test, scan}
use Rattle.syntax.specs.Program.{read, write, execute, return}
use Rattle.syntax.specs.Parsing.{Purpose, for_label, for_routine, for_number, for_program, same_purpose, purpose_number, Mention, reference}
use Rattle.syntax.specs.Parsing.{Mentions, usage, declaring, merge_mentions}
use Rattle.syntax.specs.Parsing.{Parsed, got, broken, mentioning, succeed, expect, end_of_text, ◌>>=◌}
use Rattle.syntax.specs.Scopes.{StaysInScope, BranchStays, Leads}
use Rattle.syntax.specs.Strings.{list_of, string_expression, pattern}
use Rattle.syntax.specs.Lexemes.{Resolution, name, name_as, no_role, number_name, part_name}

-- P holds of what is read where K holds of every name it uses
pub data ScopesHold (K : Mention → Type 0) {A : Type 0} (P : A → Type 0) : Parsed A → Type 0 where
  in_scope : {a : A} {m : Mentions} {rest : List ℕ} → (Each K m.used → P a) → ScopesHold K P (got a m rest)
  breaks : ScopesHold K P broken

module _ {K : Mention → Type 0} where
  -- what follows from P
  pub scopes_map : {A : Type 0} {P Q : A → Type 0} {x : Parsed A} → ((a : A) → P a → Q a) → ScopesHold K P x → ScopesHold K Q x
  scopes_map f (in_scope {a} p) = in_scope (λ h. f a (p h))
  scopes_map f breaks = breaks

  -- what is read behind something mentioned
  pub gives_mentioning : {A : Type 0} {R : Type 0} {P : A → Type 0} {x : Parsed A} (m : Mentions) → (Each K m.used → R) → ScopesHold K (λ a. R → P a) x
      → ScopesHold K P (mentioning m x)
  unfolding mentioning merge_mentions
  gives_mentioning m r (in_scope {m = n} p) =
      in_scope (λ h. let parts = each_part K m.used n.used h in p parts.1 (r parts.0))
  gives_mentioning m r breaks = breaks

  -- what is read next, knowing what was given before it
  scopes_next : {A B : Type 0} {P : A → Type 0} {Q : B → Type 0} {x : Parsed A} (f : A × List ℕ → Parsed B) → ScopesHold K P x
      → ((a : A) (rest : List ℕ) → ScopesHold K (λ b. P a → Q b) (f (a, rest))) → ScopesHold K Q (x >>= f)
  unfolding ◌>>=◌
  scopes_next f (in_scope {a} {m} {rest} p) next = gives_mentioning m p (next a rest)
  scopes_next f breaks next = breaks

  -- whatever was read before it
  scopes_after : {A B : Type 0} {Q : B → Type 0} (x : Parsed A) (f : A × List ℕ → Parsed B) → ((a : A) (rest : List ℕ) → ScopesHold K Q (f (a, rest)))
      → ScopesHold K Q (x >>= f)
  unfolding ◌>>=◌
  scopes_after (got a m rest) f next = gives_mentioning {R = Unit {0}} m (λ _. tt) (scopes_map (λ _ p _. p) (next a rest))
  scopes_after broken f next = breaks

  -- either way a test goes
  scopes_if : {A : Type 0} {P : A → Type 0} (test : Bool) (x y : Parsed A) → ScopesHold K P x → ScopesHold K P y
      → ScopesHold K P (elim test as (λ _. Parsed A) [ true ↦ x | false ↦ y ])
  scopes_if true x y h g = h
  scopes_if false x y h g = g

  -- a step, with nothing behind it
  scopes_step_end : {P : Option Statement → Type 0} (a : Statement) (bs : List ℕ) → P (some a) → ScopesHold K P (step_form a bs)
  unfolding step_form succeed
  scopes_step_end a bs h = scopes_after (end_of_text bs) _ (λ _ _. in_scope (λ _. h))

  -- a name mentioned so
  scopes_usage : (p : Purpose) (bs : List ℕ) → ScopesHold K (λ n. K (record { purpose = p; name = n })) (name_as (usage p []) bs)
  unfolding name_as usage Each
  scopes_usage p bs = scopes_after (name bs) _ (λ n rest. in_scope (λ h. h.0))

-- a statement of this kind is a step behind which another comes, in the same scope
unfoldable pub goes_on : StatementKind → Bool
goes_on kind =
    not (same_kind kind PROGRAM || (same_kind kind NUMBER || (same_kind kind END || (same_kind kind ROUTINE || same_kind kind ENDROUTINE))))

-- a step that is read leads where it may, one that is none leads nowhere
unfoldable pub StepLeads : (scope : ℕ → List ℕ) (Executes : List ℕ → List ℕ → Type 0) → (here : ℕ) → Option Statement → Type 0
StepLeads scope Executes here none = Unit {0}
StepLeads scope Executes here (some s) = Leads scope Executes here s

-- a step here, read with these places
module _ (scope : ℕ → List ℕ) (Executes : (first second : List ℕ) → Type 0) (here : ℕ) (at : Resolution) where
  -- a label used stands in the scope of the step, a routine used is executed by it
  unfoldable pub UseLeads : Mention → Type 0
  UseLeads x =
      (same_purpose for_label x.purpose ≡ true → StaysInScope scope Executes here (at.label x.name))
      × (same_purpose for_routine x.purpose ≡ true → Executes (scope here) (scope (at.entry x.name)))

  abbrev LeadsOn : Parsed (Option Statement) → Type 0
  LeadsOn = ScopesHold UseLeads (StepLeads scope Executes here)

  module _ (e : Edition) (is_number : List ℕ → Bool) where
    leads-label_name : (bs : List ℕ) → ScopesHold UseLeads (StaysInScope scope Executes here) (label_name e is_number at bs)
    unfolding label_name succeed UseLeads same_purpose purpose_number
    leads-label_name bs = scopes_next _ (scopes_usage for_label bs) (λ n rest. in_scope (λ _ used. used.0 refl))

    leads-goto_form : (bs : List ℕ) → LeadsOn (goto_form e is_number at bs)
    unfolding goto_form StepLeads Leads
    leads-goto_form bs = scopes_next _ (leads-label_name bs) (λ k rest. scopes_step_end (goto k) rest (λ h. h))

    -- where the step behind stands in the same scope
    module _ (behind : StaysInScope scope Executes here (suc here)) where
      leads-replacement : (bs : List ℕ) → LeadsOn (replacement e is_number at bs)
      unfolding replacement StepLeads Leads
      leads-replacement bs =
          scopes_if (sets_number e is_number at bs) _ _
          (scopes_after (number_name e at bs) _ (λ i rest.
          scopes_after (expect (bytes "=") rest) _ (λ _ rest.
          scopes_after (numeric_expression e at rest) _ (λ x rest. scopes_step_end (set_number i x) rest behind))))
          (scopes_after (part_name e at no_role bs) _ (λ p rest.
          scopes_after (expect (bytes "=") rest) _ (λ _ rest.
          scopes_after (string_expression e at rest) _ (λ xs rest. scopes_step_end (set_string p xs) rest behind))))

      leads-write_form : (bs : List ℕ) → LeadsOn (write_form e is_number at bs)
      unfolding write_form StepLeads Leads
      leads-write_form bs =
          scopes_after (string_expression e at (without_unit (bytes "(61)") bs)) _ (λ xs rest. scopes_step_end (write xs) rest behind)

      leads-execute_form : (bs : List ℕ) → LeadsOn (execute_form e is_number at bs)
      unfolding execute_form StepLeads Leads UseLeads same_purpose purpose_number
      leads-execute_form bs =
          scopes_next _ (scopes_usage for_routine bs) (λ n rest. scopes_step_end (execute (at.entry n)) rest (λ used. (used.1 refl, behind)))

    -- where the next step does
    module _ (next : StaysInScope scope Executes here at.next) where
      leads-branch : (bs : List ℕ) → ScopesHold UseLeads (BranchStays scope Executes here) (branch e is_number at bs)
      unfolding branch succeed
      leads-branch bs =
          scopes_after (expect (bytes "/") bs) _ (λ _ rest.
          scopes_if (begins (bytes ",") rest) _ _
          (scopes_next _ (leads-label_name (drop 1 rest)) (λ f rest. in_scope (λ _ h. (next, h))))
          (scopes_next _ (leads-label_name rest) (λ s rest.
          scopes_if (begins (bytes ",") rest) _ _
          (scopes_next _ (leads-label_name (drop 1 rest)) (λ f rest. in_scope (λ _ g h. (h, g))))
          (in_scope (λ _ h. (h, next))))))

      leads-branch_if_any : (bs : List ℕ) → ScopesHold UseLeads (BranchStays scope Executes here) (branch_if_any e is_number at bs)
      unfolding branch_if_any succeed
      leads-branch_if_any bs = scopes_if (begins (bytes "/") bs) _ _ (leads-branch bs) (in_scope (λ _. (next, next)))

      leads-if_form : (bs : List ℕ) → LeadsOn (if_form e is_number at bs)
      unfolding if_form StepLeads Leads
      leads-if_form bs =
          scopes_after (expect (bytes "(") bs) _ (λ _ rest.
          scopes_after (test e at rest) _ (λ t rest.
          scopes_after (expect (bytes ")") rest) _ (λ _ rest.
          scopes_next _ (leads-branch rest) (λ b rest. scopes_step_end (if_test t b) rest (λ h. h)))))

      leads-scan_form : (d : Direction) (bs : List ℕ) → LeadsOn (scan_form e is_number at d bs)
      unfolding scan_form StepLeads Leads
      leads-scan_form d bs =
          scopes_after (part_name e at (λ n. reference n ∷ []) bs) _ (λ p rest.
          scopes_after (expect (bytes "[") rest) _ (λ _ rest.
          scopes_after (pattern e at rest) _ (λ xs rest.
          scopes_after (expect (bytes "]") rest) _ (λ _ rest.
          scopes_after (replacement_if_any e is_number at rest) _ (λ r rest.
          scopes_next _ (leads-branch_if_any rest) (λ b rest. scopes_step_end (scan d p xs r b) rest (λ h. h)))))))

      leads-read_form : (bs : List ℕ) → LeadsOn (read_form e is_number at bs)
      unfolding read_form StepLeads Leads
      leads-read_form bs =
          scopes_after (part_name e at no_role (without_unit (bytes "(60)") bs)) _ (λ p rest.
          scopes_next _ (leads-branch_if_any rest) (λ b rest. scopes_step_end (read p b) rest (λ h. h)))

    leads-no_step : {A : Type 0} (x : Parsed A) → LeadsOn (x >>= λ (_, rest). no_step_form rest)
    unfolding no_step_form succeed StepLeads
    leads-no_step x = scopes_after x _ (λ _ rest. scopes_after (end_of_text rest) _ (λ _ _. in_scope (λ _. tt)))

    leads-routine_form : ((n : List ℕ) → StaysInScope scope Executes here (at.exit n)) → (bs : List ℕ) → LeadsOn (routine_form e is_number at bs)
    unfolding routine_form StepLeads Leads
    leads-routine_form exits bs = scopes_after (name_as (declaring for_routine) bs) _ (λ n rest. scopes_step_end (goto (at.exit n)) rest (exits n))

    -- the form of each kind
    pub leads-form_of : (kind : StatementKind) (bs : List ℕ) → (goes_on kind ≡ true → StaysInScope scope Executes here (suc here))
        → (goes_on kind ≡ true → StaysInScope scope Executes here at.next)
        → (same_kind kind ROUTINE ≡ true → (n : List ℕ) → StaysInScope scope Executes here (at.exit n))
        → (same_kind kind RETURN || same_kind kind ENDROUTINE ≡ true → ¬ (scope here ≡ []))
        → LeadsOn (form_of e is_number at kind bs)
    unfolding form_of goes_on same_kind statement_kind_number program_form number_form StepLeads Leads
    leads-form_of REPLACEMENT bs behind next exits inside = leads-replacement (behind refl) bs
    leads-form_of NUMBER bs behind next exits inside = leads-no_step (list_of (name_as (declaring for_number)) bs)
    leads-form_of PROGRAM bs behind next exits inside = leads-no_step (name_as (declaring for_program) bs)
    leads-form_of END bs behind next exits inside = scopes_step_end finish bs tt
    leads-form_of GOTO bs behind next exits inside = leads-goto_form bs
    leads-form_of EXIT bs behind next exits inside = scopes_step_end finish bs tt
    leads-form_of IF bs behind next exits inside = leads-if_form (next refl) bs
    leads-form_of SCAN bs behind next exits inside = leads-scan_form (next refl) forward bs
    leads-form_of BACKSCAN bs behind next exits inside = leads-scan_form (next refl) backward bs
    leads-form_of READ bs behind next exits inside = leads-read_form (next refl) bs
    leads-form_of WRITE bs behind next exits inside = leads-write_form (behind refl) bs
    leads-form_of PRINT bs behind next exits inside = leads-write_form (behind refl) bs
    leads-form_of ROUTINE bs behind next exits inside = leads-routine_form (exits refl) bs
    leads-form_of EXECUTE bs behind next exits inside = leads-execute_form (behind refl) bs
    leads-form_of ENDROUTINE bs behind next exits inside = scopes_step_end return bs (inside refl)
    leads-form_of RETURN bs behind next exits inside = scopes_step_end return bs (inside refl)
    leads-form_of UNKNOWN bs behind next exits inside = breaks
