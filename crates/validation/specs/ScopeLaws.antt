-- The steps of every accepted deck stand in scopes, and each leads where it may: no branch crosses a routine's border, RETURN and ENDROUTINE
-- stand inside, and at most 16 routines execute one another. Assumes nothing.
use Rattle.std.proofs.Math.Bool.{Bool, true, false, not}
use Rattle.std.specs.Prelude.{cond, ◌&&◌, ◌||◌, ◌≡◌, refl, length, drop, get_or}
use Rattle.std.proofs.lemmas.Bool.{false≢true, not-true, not-false}
use mathlib.Core.List.{List, [], ◌∷◌, ◌++◌, map}
use Rattle.std.proofs.Math.Option.{Option, none, some}
use Rattle.std.proofs.Math.Path.{sym, subst}
use Rattle.std.proofs.Common.{◌∙◌, ap}
use Prim.Native.Nat.{ℕ, zero, suc, ◌+◌, ◌≤◌}
use native.Mathlib.Omega.{arith}
use Rattle.base.specs.Choice.{test_cases, both_pass, neither_true, true_behind}
use Rattle.base.specs.Edition.{Edition}
use Rattle.base.specs.Limits as Limits
use Rattle.base.specs.Lists.{same, any, keep}
use Rattle.base.specs.ListLaws.{same_true, same_refl}
use Rattle.cards.specs.Entries.{Entry, entries}
use Rattle.syntax.specs.Forms.{statement_form}
use Rattle.syntax.specs.Keywords.{StatementKind, PROGRAM, NUMBER, END, ROUTINE, ENDROUTINE, RETURN, same_kind, leading}
use Rattle.syntax.specs.Placed.{Each, each_map, each_part}
use Rattle.syntax.specs.Program.{Statement, finish, Step, Program}
use Rattle.syntax.specs.Parsing.{Purpose, for_label, for_routine, same_purpose, Mention, Mentions, Parsed, got, broken}
use Rattle.syntax.specs.ScopeForms.{ScopesHold, in_scope, breaks, scopes_map, gives_mentioning, goes_on, StepLeads, UseLeads, leads-form_of}
use Rattle.syntax.specs.Scopes.{Leads, Nested, Scoped}
use Rattle.validation.specs.Environment.{Use, Environment, empty_environment, numbers_of, names_for, is_one_of, is_step, uses_at, extend}
use Rattle.validation.specs.Refusals.{label_form, with_label, read_statement, is9}
use Rattle.validation.specs.Deck.{passed, step_of, routine_named, resolution, step_read, program_steps, program_of, is11, is12, accepted, judge}
use Rattle.validation.specs.ChainLaws.{executes_few}
use Rattle.validation.specs.Chains.{Executes, Chained}
use Rattle.validation.specs.Placed.Again.{IsStep, Again, ends, past, reads, passed_again}
use Rattle.validation.specs.Rounds.{executed_declared}
use Rattle.validation.specs.Rules.{Judging, ended, skips, extending, accepted_program}
use Rattle.validation.specs.Standing.{scopes_of, From, extend-scope, statement_behind, from-here, StatementStands, ScopesStand, read_stands}
use Rattle.validation.specs.Standing.{again-standing, entry_stands, exit_stands}

module _ {A : Type 0} where
  -- a test that no element passes
  none_each : (f : A → Bool) (xs : List A) → any f xs ≡ false → Each (λ x. f x ≡ false) xs
  unfolding any Each
  none_each f [] h = tt
  none_each f (x ∷ xs) h = let parts = neither_true (f x) (any f xs) h in (parts.0, none_each f xs parts.1)

  -- what follows from two facts of each element
  each_zip : {P Q R : A → Type 0} → ((x : A) → P x → Q x → R x) → (xs : List A) → Each P xs → Each Q xs → Each R xs
  unfolding Each
  each_zip f [] p q = tt
  each_zip f (x ∷ xs) p q = (f x p.0 q.0, each_zip f xs p.1 q.1)

-- what holds of each name of one purpose
names_each : (P : List ℕ → Type 0) (p : Purpose) (ns : List Mention) → Each P (names_for p ns)
    → Each (λ x. same_purpose p x.purpose ≡ true → P x.name) ns
unfolding names_for keep Each
names_each P p [] h = tt
names_each P p (n ∷ ns) h =
    let rest = keep (λ (m : Mention). same_purpose p m.purpose) ns in
    test_cases
    (λ t. Each P (map (λ (m : Mention). m.name) (elim t [ true ↦ n ∷ rest | false ↦ rest ]))
    → (t ≡ true → P n.name) × Each (λ x. same_purpose p x.purpose ≡ true → P x.name) ns)
    (same_purpose p n.purpose) (λ _ h. (λ _. h.0, names_each P p ns h.1))
    (λ _ h. (λ q. absurd (false≢true q), names_each P p ns h)) h

-- what holds of each use holds of the names used
uses_each : (P : Use → Type 0) (k : Environment) (ns : List (List ℕ)) → Each P (uses_at k ns)
    → Each (λ n. P (record { name = n; scope = k.scope })) ns
unfolding uses_at Each
uses_each P k [] h = tt
uses_each P k (n ∷ ns) h = (h.0, uses_each P k ns h.1)

-- each routine executed is executed where it is used
executed_each : (us : List Use) → Each (λ u. Executes us u.scope u.name) us
unfolding any Each
executed_each [] = tt
executed_each (u ∷ us) =
    let here = both_pass (same_refl u.scope) (same_refl u.name) in
    let f : Use → Use → Bool = λ x v. same x.scope v.scope && same x.name v.name in
    (ap (λ t. t || any (f u) us) here, each_map (λ x. true_behind (f x u) (any (f x) us)) us (executed_each us))

-- labels and routines used stay so
module _ {e : Edition} {whole : Environment} (P : Use → Type 0) where
  again_branches : {k : Environment} {es : List Entry} → Again e whole k es → Each P whole.branches → Each P k.branches
  unfolding extend
  again_branches ends h = h
  again_branches (past j) h = again_branches j h
  again_branches (reads {k} s m rest q step p used next j) h = (each_part P k.branches _ (again_branches j h)).0

  again-executes : {k : Environment} {es : List Entry} → Again e whole k es → Each P whole.executes → Each P k.executes
  unfolding extend
  again-executes ends h = h
  again-executes (past j) h = again-executes j h
  again-executes (reads {k} s m rest q step p used next j) h = (each_part P k.executes _ (again-executes j h)).0

-- what is read holds still where a label stands before it
leads-labelled : {K : Mention → Type 0} {A : Type 0} {P : A → Type 0} (mark : Parsed (Unit {0})) (whole : Bool) (form : Parsed A)
    → ScopesHold K P form → ScopesHold K P (with_label mark whole form)
unfolding with_label
leads-labelled (got u m rest) true form h = gives_mentioning {R = Unit {0}} m (λ _. tt) (scopes_map (λ _ p _. p) h)
leads-labelled (got u m rest) false form h = breaks
leads-labelled broken whole form h = breaks

given : {K : Mention → Type 0} {A : Type 0} {P : A → Type 0} {a : A} {m : Mentions} {rest : List ℕ} → ScopesHold K P (got a m rest)
    → Each K m.used → P a
given (in_scope p) h = p h

-- Q9 of a statement that passes: ROUTINE stands outside, RETURN and ENDROUTINE don't
not9_outside : (k : Environment) (kind : StatementKind) → is9 k kind ≡ false → same_kind kind ROUTINE ≡ true → k.scope ≡ []
unfolding is9
not9_outside k kind h is =
    let outside = same k.scope [] in
    let parts = neither_true ((same_kind kind ROUTINE || same_kind kind END) && not outside)
    ((same_kind kind RETURN || same_kind kind ENDROUTINE) && outside) h in
    same_true k.scope [] (not-false outside (rw is at parts.0))

not9_inside : (k : Environment) (kind : StatementKind) → is9 k kind ≡ false → (same_kind kind RETURN || same_kind kind ENDROUTINE) ≡ true → ¬ (k.scope ≡ [])
unfolding is9
not9_inside k kind h is out =
    let outside = same k.scope [] in
    let parts = neither_true ((same_kind kind ROUTINE || same_kind kind END) && not outside)
    ((same_kind kind RETURN || same_kind kind ENDROUTINE) && outside) h in
    let stands-out : outside ≡ true = ap (λ s. same s []) out ∙ same_refl [] in
    false≢true (sym (rw is at parts.1) ∙ stands-out)

-- a step behind which another comes in the same scope
goes_on_lem : (kind : StatementKind) → goes_on kind ≡ true
    → ((is_step kind && not (same_kind kind END)) ≡ true) × (same_kind kind ROUTINE ≡ false) × (same_kind kind ENDROUTINE ≡ false)
unfolding goes_on is_step
goes_on_lem kind h =
    let h1 = neither_true (same_kind kind PROGRAM) _ (not-true _ h) in
    let h2 = neither_true (same_kind kind NUMBER) _ h1.1 in
    let h3 = neither_true (same_kind kind END) _ h2.1 in
    let h4 = neither_true (same_kind kind ROUTINE) (same_kind kind ENDROUTINE) h3.1 in
    (rw (h1.0, h2.0, h3.0), h4.0, h4.1)

-- a deck that passes, with the scopes of its steps
module _ (e : Edition) (whole : Environment) (h11 : is11 whole ≡ false) (scope : ℕ → List ℕ) (first : scope 0 ≡ [])
    (standing : ScopesStand scope whole) where
  abbrev In : (first second : List ℕ) → Type 0
  In = Executes whole.executes

  -- Q11 a label used stands where it is used, and a routine executed is entered from there
  abbrev BranchLeads : Use → Type 0
  BranchLeads u = scope (step_of whole.labels u.name) ≡ u.scope

  abbrev ExecuteLeads : Use → Type 0
  ExecuteLeads u = In u.scope (scope (routine_named whole.routines u.name).entry)

  branches_lead : Each BranchLeads whole.branches
  unfolding is11
  branches_lead =
      let f : Use → Bool = λ u. not (any (λ l. same u.name l.name && same u.scope l.scope) whole.labels) in
      let defined = (neither_true (any f whole.branches) _ h11).0 in
      each_map (λ u h. standing.labels u.name u.scope (not-false _ h)) whole.branches (none_each f whole.branches defined)

  executes_lead : Each ExecuteLeads whole.executes
  executes_lead =
      each_map
      (λ u h.
      let entered = entry_stands scope whole.routines u.name standing.routines (executed_declared whole h11 u.scope u.name h) in
      subst (In u.scope) (sym entered) h)
      whole.executes (executed_each whole.executes)

  -- the names that a statement uses
  uses_lead : (k : Environment) (m : Mentions) → scope k.steps ≡ k.scope → Each BranchLeads (uses_at k (names_for for_label m.used))
      → Each ExecuteLeads (uses_at k (names_for for_routine m.used))
      → Each (UseLeads scope In k.steps (resolution whole (suc k.steps))) m.used
  unfolding UseLeads resolution
  uses_lead k m here branches executes =
      each_zip
      (λ x b c. (
        λ is. b is ∙ sym here,
        λ is. subst (λ (s : List ℕ). In s (scope (routine_named whole.routines x.name).entry)) (sym here) (c is),
      ))
      m.used
      (names_each (λ n. scope (step_of whole.labels n) ≡ k.scope) for_label m.used (uses_each BranchLeads k (names_for for_label m.used) branches))
      (names_each (λ n. In k.scope (scope (routine_named whole.routines n).entry)) for_routine m.used
      (uses_each ExecuteLeads k (names_for for_routine m.used) executes))

  -- a statement that passes leads where it may
  statement_leads : (k : Environment) (label_bytes : List ℕ) (complete : Bool) (text : List ℕ) (s : Option Statement) (m : Mentions) (rest : List ℕ)
      → read_statement e (is_one_of (numbers_of whole)) (resolution whole (suc k.steps)) label_bytes complete text ≡ got s m rest
      → is9 k (leading text).kind ≡ false
      → StatementStands scope k (leading text).kind m
      → Each (UseLeads scope In k.steps (resolution whole (suc k.steps))) m.used
      → StepLeads scope In k.steps s
  unfolding read_statement statement_form resolution
  statement_leads k label_bytes complete text s m rest q not9 stands uses =
      let kind = (leading text).kind in
      let at = resolution whole (suc k.steps) in
      let behind : goes_on kind ≡ true → scope (suc k.steps) ≡ scope k.steps = λ goes.
      let parts = goes_on_lem kind goes in
      stands.behind parts.0 ∙ extend-scope k kind m (stands.free parts.1) parts.2 ∙ sym stands.here in
      let exits : same_kind kind ROUTINE ≡ true → (n : List ℕ) → scope (at.exit n) ≡ scope k.steps = λ is n.
      exit_stands scope whole.routines n first standing.routines ∙ sym (not9_outside k kind not9 is) ∙ sym stands.here in
      let inside : (same_kind kind RETURN || same_kind kind ENDROUTINE) ≡ true → ¬ (scope k.steps ≡ []) = λ is out.
      not9_inside k kind not9 is (sym stands.here ∙ out) in
      let form = leads-form_of scope In k.steps at e (is_one_of (numbers_of whole)) kind (drop (leading text).size text)
      behind behind exits inside in
      let P : Parsed (Option Statement) → Type 0 = ScopesHold (UseLeads scope In k.steps at) (StepLeads scope In k.steps) in
      given (subst P q (leads-labelled (label_form label_bytes) complete _ form)) uses

  -- steps from number n on that lead where they may
  StepsLead : ℕ → List Step → Type 0
  StepsLead n [] = Unit {0}
  StepsLead n (s ∷ ss) = Leads scope In n s.statement × StepsLead (suc n) ss

  -- a statement goes before the steps behind it
  step-before : (step : Bool) (s : Option Statement) (m : Mentions) (rest : List ℕ) (card n : ℕ) (more : ℕ → List Step) → IsStep step s
      → StepLeads scope In n s → StepsLead (cond step (suc n) n) (more (cond step (suc n) n))
      → StepsLead n (step_read card (got s m rest) ++ more (elim (step_read card (got s m rest)) [ [] ↦ n | s ∷ ss ↦ suc n ]))
  unfolding step_read StepsLead StepLeads
  step-before true none m rest card n more is h g = absurd is
  step-before true (some a) m rest card n more is h g = (h, g)
  step-before false none m rest card n more is h g = g
  step-before false (some a) m rest card n more is h g = absurd is

  -- the steps of entries that pass
  again-leads : whole.ended ≡ true → {k : Environment} {es : List Entry} (j : Again e whole k es) → From scope k.steps (scopes_of j)
      → StepsLead k.steps (program_steps e whole k.steps es)
  unfolding program_steps scopes_of StepsLead extend
  again-leads end ends h = tt
  again-leads end (past j) h = again-leads end j h
  again-leads end (reads {k} {card} {label} {complete} {text} {es} s m rest q step p used next j) h =
      let kind = (leading text).kind in
      let stands = read_stands scope end k label complete text s m rest q step j h in
      let branches = (each_part BranchLeads k.branches _ (again_branches BranchLeads j branches_lead)).1 in
      let executes = (each_part ExecuteLeads k.executes _ (again-executes ExecuteLeads j executes_lead)).1 in
      let here = statement_leads k label complete text s m rest q p.not9 stands (uses_lead k m stands.here branches executes) in
      let behind = again-leads end j (statement_behind scope k kind m s (scopes_of j) step h) in
      subst
      (λ (read : Parsed (Option Statement)).
      StepsLead k.steps
      (step_read card read ++ program_steps e whole (elim (step_read card read) [ [] ↦ k.steps | s ∷ ss ↦ suc k.steps ]) es))
      (sym q)
      (step-before (is_step kind) s m rest card k.steps (λ n. program_steps e whole n es) step here behind)

  -- each by its number
  step-leads : (ss : List Step) (n k i : ℕ) → n + k ≡ i → StepsLead n ss → Leads scope In i (get_or (map (λ s. s.statement) ss) k finish)
  unfolding StepsLead Leads
  step-leads [] n k i at h = tt
  step-leads (s ∷ ss) n zero i at h = let here : n ≡ i = omega arith in subst (λ (i : ℕ). Leads scope In i s.statement) here h.0
  step-leads (s ∷ ss) n (suc k) i at h = step-leads ss (suc n) k i (omega arith) h.1

-- where 11 and 12 do not hold, what is nested is a row of routines that execute one another
nested_few : {e : Edition} {k : Environment} {es : List Entry} (scope : ℕ → List ℕ) → Judging e empty_environment es (passed k) → is11 k ≡ false
    → is12 k ≡ false
    → (rs : List ℕ) (next : ℕ) (names : List (List ℕ)) → Chained k.executes (scope next ∷ names)
    → Nested scope (Executes k.executes) next rs → length rs + length names ≤ Limits.routines
unfolding Nested Chained
nested_few scope j h11 h12 [] next names chain h = omega (arith, executes_few j h11 h12 (scope next) names chain)
nested_few scope j h11 h12 (r ∷ rs) next names chain h =
    omega (arith, nested_few scope j h11 h12 rs r (scope next ∷ names) (h.0, chain) h.1)

-- behind entries that pass END has been
passed_ended : {e : Edition} {k after : Environment} {es : List Entry} → Judging e k es (passed after) → after.ended ≡ true
passed_ended (ended h) = h
passed_ended (skips j) = passed_ended j
passed_ended (extending s m rest q p j) = passed_ended j

-- scopes by their number
from_list : (scope : ℕ → List ℕ) (ss : List (List ℕ)) (n : ℕ) → ((i j : ℕ) → n + i ≡ j → scope j ≡ get_or ss i []) → From scope n ss
unfolding From
from_list scope [] n h = tt
from_list scope (s ∷ ss) n h = (h 0 n (omega arith), from_list scope ss (suc n) (λ i j at. h (suc i) j (omega arith)))

-- a program whose steps have scopes, in which the routines of a deck execute one another
pub record HasScopes (p : Program) : Type 0 where
  pub scope : ℕ → List ℕ
  pub uses : List Use
  pub scoped : Scoped scope (Executes uses) p.steps

-- every accepted deck has such a program
pub accepted_scoped : (e : Edition) (deck : List ℕ) (p : Program) → judge e deck ≡ accepted p → HasScopes p
unfolding program_of empty_environment Each any Chained
accepted_scoped e deck p q =
    accepted_program e deck p q HasScopes (λ k j h11 h12.
    let again = (passed_again j).1 in
    let scopes = scopes_of again in
    let scope : ℕ → List ℕ = λ n. get_or scopes n [] in
    let from : From scope 0 scopes = from_list scope scopes 0 (λ i j at. let same : j ≡ i = omega arith in ap scope same) in
    let outside : scope 0 ≡ [] = from-here scope again (passed_ended j) refl from in
    let none_yet : ScopesStand scope empty_environment = record { labels = λ n s h. absurd (false≢true h); routines = tt } in
    let standing = again-standing scope (passed_ended j) outside again from none_yet in
    let steps = program_steps e k 0 (entries e deck) in
    record {
      scope = scope;
      uses = k.executes;
      scoped =
          record {
            outside = outside;
            leads =
                λ i.
                step-leads e k h11 scope outside standing steps 0 i i (omega arith)
                (again-leads e k h11 scope outside standing (passed_ended j) again from);
            few = λ next returns h. omega (arith, nested_few scope j h11 h12 returns next [] tt h);
          };
    })
