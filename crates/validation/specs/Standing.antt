-- Where the steps, labels and routines of a deck that passes stand: in one routine, or outside all. Assumes nothing.
use Rattle.std.specs.Prelude.{Bool, not, ◌&&◌, ◌||◌, ◌≡◌, ℕ, suc}
use Rattle.std.proofs.Math.Bool.{true, false, cond, and-eq-true_iff}
use Rattle.std.proofs.Common.{true≢false, ⊎_elim, ◌∙◌, ap}
use Rattle.std.proofs.lemmas.Bool.{false≢true, not-true}
use mathlib.Core.List.{List, [], ◌∷◌, ◌++◌}
use Rattle.std.proofs.Math.Option.{Option, none, some}
use Rattle.std.proofs.Math.Path.{refl, sym, subst}
use Rattle.base.specs.Choice.{test_cases, cond_cases, both_true, neither_true, either_true, true_behind}
use Rattle.base.specs.Edition.{Edition}
use Rattle.base.specs.Lists.{same, any}
use Rattle.base.specs.ListLaws.{same_true}
use Rattle.cards.specs.Entries.{Entry}
use Rattle.syntax.specs.Keywords.{StatementKind, PROGRAM, NUMBER, END, ROUTINE, ENDROUTINE, statement_kind_number, same_kind, leading}
use Rattle.syntax.specs.Laws.{same_kind_lem, same_purpose_refl}
use Rattle.syntax.specs.Placed.{Each}
use Rattle.syntax.specs.Program.{Statement}
use Rattle.syntax.specs.Parsing.{for_label, for_routine, same_purpose, Mention, Mentions, got}
use Rattle.validation.specs.Environment.{Label, Routine, Environment, numbers_of, names_for, is_one_of, is_step, labels_at, open_routine, close_routine, scope_after, extend}
use Rattle.validation.specs.Refusals.{read_statement, is_declared_before, has_other_purpose, has_duplicate, is6}
use Rattle.validation.specs.Deck.{step_of, routine_named, resolution}
use Rattle.validation.specs.Declares.{declares_none}
use Rattle.validation.specs.Names.{Has, any_append, none_passes, names_for_lem}
use Rattle.validation.specs.Placed.Again.{IsStep, Again, ends, past, reads}
use Rattle.validation.specs.Targets.{is_inner, outer_cases}

-- a scope goes before those of the steps behind, where the statement is a step
unfoldable pub scoped_step : Option Statement → List ℕ → List (List ℕ) → List (List ℕ)
scoped_step none s ss = ss
scoped_step (some a) s ss = s ∷ ss

-- the scope of each step: what was open when its statement was judged, for the step of a ROUTINE nothing, for that of an ENDROUTINE its routine
unfoldable pub scopes_of : {e : Edition} {whole k : Environment} {es : List Entry} → Again e whole k es → List (List ℕ)
scopes_of ends = []
scopes_of (past j) = scopes_of j
scopes_of (reads {k} s m rest q step p used next j) = scoped_step s k.scope (scopes_of j)

-- these are the scopes of the steps from number n on
unfoldable pub From : (ℕ → List ℕ) → ℕ → List (List ℕ) → Type 0
From scope n [] = Unit {0}
From scope n (s ∷ ss) = (scope n ≡ s) × From scope (suc n) ss

-- those behind a statement
from-behind : (scope : ℕ → List ℕ) (step : Bool) (s : Option Statement) (n : ℕ) (here : List ℕ) (ss : List (List ℕ)) → IsStep step s
    → From scope n (scoped_step s here ss) → From scope (cond step (suc n) n) ss
unfolding scoped_step From
from-behind scope true none n here ss is h = absurd is
from-behind scope true (some a) n here ss is h = h.1
from-behind scope false none n here ss is h = h
from-behind scope false (some a) n here ss is h = absurd is

pub statement_behind : (scope : ℕ → List ℕ) (k : Environment) (kind : StatementKind) (m : Mentions) (s : Option Statement) (ss : List (List ℕ)) → IsStep (is_step kind) s
    → From scope k.steps (scoped_step s k.scope ss) → From scope (extend k kind m).steps ss
unfolding extend
statement_behind scope k kind m s ss is h = from-behind scope (is_step kind) s k.steps k.scope ss is h

-- PROGRAM and NUMBER, which are no steps, open and close no routine and are not END
no_step_cases : (P : StatementKind → Type 0) → P PROGRAM → P NUMBER → (kind : StatementKind) → is_step kind ≡ false → P kind
unfolding is_step
no_step_cases P p n kind h =
    test_cases (λ _. P kind) (same_kind kind PROGRAM) (λ q. subst P (sym (same_kind_lem kind PROGRAM q)) p) (λ q1.
    test_cases (λ _. P kind) (same_kind kind NUMBER) (λ q. subst P (sym (same_kind_lem kind NUMBER q)) n) (λ q2.
    absurd (true≢false (rw (q1, q2) at h))))

-- a statement that opens and closes no routine leaves what is open
pub extend-scope : (k : Environment) (kind : StatementKind) (m : Mentions) → names_for for_routine m.declared ≡ [] → same_kind kind ENDROUTINE ≡ false
    → (extend k kind m).scope ≡ k.scope
unfolding extend scope_after
extend-scope k kind m h g = rw (h, g)

none_no_step : (step : Bool) → IsStep step none → step ≡ false
none_no_step true is = absurd is
none_no_step false is = refl

-- the step of a statement stands in what was open before it; one that is no step passes this on
here_stands : (scope : ℕ → List ℕ) (k : Environment) (kind : StatementKind) (m : Mentions) (s : Option Statement) (ss : List (List ℕ)) → IsStep (is_step kind) s
    → (same_kind kind ROUTINE ≡ false → names_for for_routine m.declared ≡ []) → From scope k.steps (scoped_step s k.scope ss)
    → ((extend k kind m).ended ≡ false → scope (extend k kind m).steps ≡ (extend k kind m).scope) → scope k.steps ≡ k.scope
unfolding scoped_step From extend same_kind statement_kind_number
here_stands scope k kind m none ss is free h next =
    let no_step = none_no_step (is_step kind) is in
    let Plain : StatementKind → Type 0 = λ (j : StatementKind). (same_kind j END ≡ false) × (same_kind j ROUTINE ≡ false) × (same_kind j ENDROUTINE ≡ false) in
    let plain = no_step_cases Plain (refl, refl, refl) (refl, refl, refl) kind no_step in
    let steps : (extend k kind m).steps ≡ k.steps = rw no_step in
    ap scope (sym steps) ∙ next plain.0 ∙ extend-scope k kind m (free plain.1) plain.2
here_stands scope k kind m (some a) ss is free h next = h.0

-- the step that comes next stands in what is open
pub from-here : {e : Edition} {whole k : Environment} {es : List Entry} (scope : ℕ → List ℕ) (j : Again e whole k es) → whole.ended ≡ true
    → k.ended ≡ false → From scope k.steps (scopes_of j) → scope k.steps ≡ k.scope
unfolding scopes_of
from-here scope ends end before h = absurd (false≢true (sym before ∙ end))
from-here scope (past j) end before h = from-here scope j end before h
from-here {e} scope (reads {k} {label} {complete} {text} s m rest q step p used next j) end before h =
    let kind = (leading text).kind in
    let behind : From scope (extend k kind m).steps (scopes_of j) = statement_behind scope k kind m s (scopes_of j) step h in
    here_stands scope k kind m s (scopes_of j) step (λ other. declares_none e _ _ label complete text s m rest other q) h
    (λ still. from-here scope j end still behind)

-- what holds of a statement that passes: its step, and the one behind it where another comes, stand in what is open there
pub record StatementStands (scope : ℕ → List ℕ) (k : Environment) (kind : StatementKind) (m : Mentions) : Type 0 where
  pub here : scope k.steps ≡ k.scope
  pub behind : is_inner kind ≡ true → scope (suc k.steps) ≡ (extend k kind m).scope
  pub free : same_kind kind ROUTINE ≡ false → names_for for_routine m.declared ≡ []

statement_stands : {e : Edition} {whole : Environment} {es : List Entry} (scope : ℕ → List ℕ) (k : Environment) (kind : StatementKind) (m : Mentions)
    (s : Option Statement) (j : Again e whole (extend k kind m) es) → whole.ended ≡ true → IsStep (is_step kind) s
    → (same_kind kind ROUTINE ≡ false → names_for for_routine m.declared ≡ [])
    → From scope k.steps (scoped_step s k.scope (scopes_of j))
    → StatementStands scope k kind m
unfolding extend
statement_stands scope k kind m s j end is free h =
    let after = statement_behind scope k kind m s (scopes_of j) is h in
    let next : (extend k kind m).ended ≡ false → scope (extend k kind m).steps ≡ (extend k kind m).scope =
    λ still. from-here scope j end still after in
    record {
      here = here_stands scope k kind m s (scopes_of j) is free h next;
      behind =
          λ inner.
          let parts = (and-eq-true_iff (is_step kind) (not (same_kind kind END))).0 inner in
          let steps : (extend k kind m).steps ≡ suc k.steps = rw parts.0 in
          ap scope (sym steps) ∙ next (not-true (same_kind kind END) parts.1);
      free = free;
    }

-- a label of this name is declared in this scope
abbrev LabelIn : List Label → (name scope : List ℕ) → Type 0
LabelIn ls n s = any (λ l. same n l.name && same s l.scope) ls ≡ true

-- a routine starts in itself and is left to outside
abbrev pub RoutineStands : (ℕ → List ℕ) → Routine → Type 0
RoutineStands scope r = (scope r.entry ≡ r.name) × (scope r.exit ≡ [])

-- each label stands in its scope, and each routine so
pub record ScopesStand (scope : ℕ → List ℕ) (k : Environment) : Type 0 where
  pub labels : (n s : List ℕ) → LabelIn k.labels n s → scope (step_of k.labels n) ≡ s
  pub routines : Each (RoutineStands scope) k.routines

-- a label among the first ones is found there, another behind them
abbrev is_label : List Label → List ℕ → Bool
is_label ls n = any (λ l. same n l.name) ls

label_first : (ls more : List Label) (n : List ℕ) → is_label ls n ≡ true → step_of (ls ++ more) n ≡ step_of ls n
unfolding step_of any
label_first [] more n h = absurd (false≢true h)
label_first (l ∷ ls) more n h =
    test_cases
    (λ t. (t || is_label ls n) ≡ true
    → ◌≡◌ {A = ℕ} (elim t [ true ↦ l.step | false ↦ step_of (ls ++ more) n ]) (elim t [ true ↦ l.step | false ↦ step_of ls n ]))
    (same n l.name) (λ _ _. refl) (λ _ h. label_first ls more n h) h

label_later : (ls more : List Label) (n : List ℕ) → is_label ls n ≡ false → step_of (ls ++ more) n ≡ step_of more n
unfolding step_of any
label_later [] more n h = refl
label_later (l ∷ ls) more n h =
    let parts = neither_true (same n l.name) (is_label ls n) h in
    rw (parts.0, step_of) (label_later ls more n parts.1)

-- a label declared in a scope is declared
label_named : (ls : List Label) (n s : List ℕ) → LabelIn ls n s → is_label ls n ≡ true
unfolding any
label_named [] n s h = absurd (false≢true h)
label_named (l ∷ ls) n s h =
    ⊎_elim (λ q. ap (λ t. t || is_label ls n) (both_true (same n l.name) (same s l.scope) q).0)
    (λ q. true_behind (same n l.name) (is_label ls n) (label_named ls n s q))
    (either_true (same n l.name && same s l.scope) (any (λ l. same n l.name && same s l.scope) ls) h)

-- labels of a statement stand where it does
label_new : (k : Environment) (ns : List (List ℕ)) (n s : List ℕ) → LabelIn (labels_at k ns) n s
    → (is_one_of ns n ≡ true) × (s ≡ k.scope) × (step_of (labels_at k ns) n ≡ k.steps)
unfolding labels_at any is_one_of step_of
label_new k [] n s h = absurd (false≢true h)
label_new k (w ∷ ns) n s h =
    let rest = labels_at k ns in
    let Found : Bool → Type 0 =
    λ t. ((t || is_one_of ns n) ≡ true) × (s ≡ k.scope) × (◌≡◌ {A = ℕ} (elim t [ true ↦ k.steps | false ↦ step_of rest n ]) k.steps) in
    test_cases (λ t. ((t && same s k.scope) || any (λ l. same n l.name && same s l.scope) rest) ≡ true → Found t) (same n w)
    (λ _ h. ⊎_elim (λ q. (refl, same_true s k.scope q, refl)) (λ q. (refl, (label_new k ns n s q).1, refl))
    (either_true (same s k.scope) (any (λ l. same n l.name && same s l.scope) rest) h))
    (λ _ h. label_new k ns n s h)
    h

-- Q6 a label declared was not declared before
label_fresh : (k : Environment) (m : Mentions) (n : List ℕ) → is6 k m ≡ false → is_one_of (names_for for_label m.declared) n ≡ true
    → is_label k.labels n ≡ false
unfolding is6 is_declared_before is_one_of
label_fresh k m n h is =
    let x : Mention = record { purpose = for_label; name = n } in
    let has : Has x m.declared = sym (names_for_lem for_label n m.declared) ∙ is in
    let ns = m.declared ++ m.used in
    let once = (neither_true (any (has_other_purpose (k.names ++ ns)) ns) _ h).1 in
    let new = (neither_true (any (is_declared_before k) m.declared) (has_duplicate m.declared) once).0 in
    let fails = none_passes (is_declared_before k) x m.declared new has in
    rw (same_purpose_refl for_label) at (neither_true (same_purpose for_label for_label && is_label k.labels n) _ fails).0

-- labels behind a statement that passes
labels_stand : (scope : ℕ → List ℕ) (k : Environment) (kind : StatementKind) (m : Mentions) → scope k.steps ≡ k.scope → is6 k m ≡ false
    → ((n s : List ℕ) → LabelIn k.labels n s → scope (step_of k.labels n) ≡ s)
    → (n s : List ℕ) → LabelIn (extend k kind m).labels n s → scope (step_of (extend k kind m).labels n) ≡ s
unfolding extend
labels_stand scope k kind m here not6 old n s h =
    let new = labels_at k (names_for for_label m.declared) in
    let f : Label → Bool = λ l. same n l.name && same s l.scope in
    ⊎_elim (λ q. ap scope (label_first k.labels new n (label_named k.labels n s q)) ∙ old n s q)
    (λ q.
    let found = label_new k (names_for for_label m.declared) n s q in
    ap scope (label_later k.labels new n (label_fresh k m n not6 found.0) ∙ found.2) ∙ here ∙ sym found.1)
    (either_true (any f k.labels) (any f new) (sym (any_append f k.labels new) ∙ h))

-- routines behind one
module _ (scope : ℕ → List ℕ) (first : scope 0 ≡ []) where
  opened_stand : (k : Environment) (kind : StatementKind) (ns : List (List ℕ)) → scope (suc k.steps) ≡ scope_after kind ns k.scope
      → Each (RoutineStands scope) k.routines → Each (RoutineStands scope) (open_routine k ns)
  unfolding open_routine scope_after Each
  opened_stand k kind [] behind h = h
  opened_stand k kind (n ∷ ns) behind h = ((behind, first), h)

  closed_stand : (s : ℕ) (rs : List Routine) → scope s ≡ [] → Each (RoutineStands scope) rs → Each (RoutineStands scope) (close_routine s rs)
  unfolding close_routine Each
  closed_stand s [] out h = tt
  closed_stand s (r ∷ rs) out h = ((h.0.0, out), h.1)

  routines_stand : (k : Environment) (kind : StatementKind) (m : Mentions) → StatementStands scope k kind m → Each (RoutineStands scope) k.routines
      → Each (RoutineStands scope) (extend k kind m).routines
  unfolding extend scope_after open_routine same_kind statement_kind_number
  routines_stand k kind m stands h =
      let declared = names_for for_routine m.declared in
      let after = cond (same_kind kind ENDROUTINE) (close_routine (suc k.steps) k.routines) (open_routine k declared) in
      test_cases (λ _. Each (RoutineStands scope) after) (is_inner kind)
      (λ inner.
      cond_cases (Each (RoutineStands scope)) (same_kind kind ENDROUTINE)
      (λ closes.
      let other : same_kind kind ROUTINE ≡ false = subst (λ j. same_kind j ROUTINE ≡ false) (sym (same_kind_lem kind ENDROUTINE closes)) refl in
      let out : scope (suc k.steps) ≡ [] = stands.behind inner ∙ rw (stands.free other, closes, scope_after) in
      closed_stand (suc k.steps) k.routines out h)
      (λ _. opened_stand k kind declared (stands.behind inner) h))
      (λ outer.
      let Plain : StatementKind → Type 0 = λ (j : StatementKind). (same_kind j ROUTINE ≡ false) × (same_kind j ENDROUTINE ≡ false) in
      let plain = outer_cases Plain (refl, refl) (refl, refl) (refl, refl) kind outer in
      rw (plain.1, stands.free plain.0) h)

-- a statement that passes
extend-standing : (scope : ℕ → List ℕ) (k : Environment) (kind : StatementKind) (m : Mentions) → scope 0 ≡ [] → StatementStands scope k kind m → is6 k m ≡ false
    → ScopesStand scope k → ScopesStand scope (extend k kind m)
extend-standing scope k kind m first stands not6 old =
    record {
      labels = labels_stand scope k kind m stands.here not6 old.labels;
      routines = routines_stand scope first k kind m stands old.routines;
    }

-- behind all statements, where END was the last, and the first step stands outside
module _ {e : Edition} {whole : Environment} (scope : ℕ → List ℕ) (end : whole.ended ≡ true) where
  -- a statement that passes stands where it may
  pub read_stands : {es : List Entry} (k : Environment) (label_bytes : List ℕ) (complete : Bool) (text : List ℕ) (s : Option Statement) (m : Mentions)
      (rest : List ℕ)
      → read_statement e (is_one_of (numbers_of whole)) (resolution whole (suc k.steps)) label_bytes complete text ≡ got s m rest
      → IsStep (is_step (leading text).kind) s
      → (j : Again e whole (extend k (leading text).kind m) es)
      → From scope k.steps (scoped_step s k.scope (scopes_of j))
      → StatementStands scope k (leading text).kind m
  read_stands k label_bytes complete text s m rest q step j h =
      statement_stands scope k (leading text).kind m s j end step (λ other. declares_none e _ _ label_bytes complete text s m rest other q) h

  pub again-standing : {k : Environment} {es : List Entry} → scope 0 ≡ [] → (j : Again e whole k es) → From scope k.steps (scopes_of j)
      → ScopesStand scope k → ScopesStand scope whole
  unfolding scopes_of
  again-standing first ends h old = old
  again-standing first (past j) h old = again-standing first j h old
  again-standing first (reads {k} {label} {complete} {text} s m rest q step p used next j) h old =
      let kind = (leading text).kind in
      let stands = read_stands k label complete text s m rest q step j h in
      again-standing first j (statement_behind scope k kind m s (scopes_of j) step h)
      (extend-standing scope k kind m first stands p.not6 old)

-- what the places of a deck whose labels and routines stand so lead to
module _ (scope : ℕ → List ℕ) where
  pub entry_stands : (rs : List Routine) (n : List ℕ) → Each (RoutineStands scope) rs → any (λ r. same n r.name) rs ≡ true
      → scope (routine_named rs n).entry ≡ n
  unfolding routine_named any Each
  entry_stands [] n h has = absurd (false≢true has)
  entry_stands (r ∷ rs) n h has =
      test_cases
      (λ t. same n r.name ≡ t → (t || any (λ r. same n r.name) rs) ≡ true
      → scope (elim t as (λ _. Routine) [ true ↦ r | false ↦ routine_named rs n ]).entry ≡ n)
      (same n r.name) (λ _ q _. h.0.0 ∙ sym (same_true n r.name q)) (λ _ _ has. entry_stands rs n h.1 has) refl has

  pub exit_stands : (rs : List Routine) (n : List ℕ) → scope 0 ≡ [] → Each (RoutineStands scope) rs → scope (routine_named rs n).exit ≡ []
  unfolding routine_named Each
  exit_stands [] n first h = first
  exit_stands (r ∷ rs) n first h =
      test_cases (λ t. scope (elim t as (λ _. Routine) [ true ↦ r | false ↦ routine_named rs n ]).exit ≡ []) (same n r.name)
      (λ _. h.0.1) (λ _. exit_stands rs n first h.1)
