-- The steps of labels and routines: behind a deck that passes each is below the count of steps. Assumes nothing.
use Rattle.std.specs.Prelude.{Bool, true, false, cond, not, ◌&&◌, List, [], ◌∷◌, ◌≡◌, refl, ℕ, suc, ◌≤◌, ◌<◌}
use Rattle.std.proofs.Common.{true≢false, sym, ◌∙◌, subst, arith}
use Rattle.std.proofs.lemmas.Bool.{false≢true, not-true}
use Rattle.std.proofs.Math.Bool.{and-eq-true_iff}
use Rattle.base.specs.Choice.{test_cases, cond_cases}
use Rattle.base.specs.Edition.{Edition}
use Rattle.cards.specs.Entries.{Entry}
use Rattle.syntax.specs.Keywords.{StatementKind, NUMBER, PROGRAM, END, ROUTINE, ENDROUTINE, statement_kind_number, same_kind, leading}
use Rattle.syntax.specs.Laws.{same_kind_lem}
use Rattle.syntax.specs.Placed.{Each, each_map, each-join}
use Rattle.syntax.specs.Parsing.{for_routine, Mentions}
use Rattle.validation.specs.Environment.{Label, Routine, Environment, names_for, is_step, labels_at, open_routine, close_routine, extend}
use Rattle.validation.specs.Declares.{declares_none}
use Rattle.validation.specs.Deck.{passed}
use Rattle.validation.specs.Rules.{passes_before_end, Judging, ended, skips, extending}

-- a statement of this kind is a step, and another comes behind it
abbrev pub is_inner : StatementKind → Bool
is_inner kind = is_step kind && not (same_kind kind END)

-- what holds of the other kinds holds of a kind that is not so
pub outer_cases : (P : StatementKind → Type 0) → P PROGRAM → P NUMBER → P END → (kind : StatementKind) → is_inner kind ≡ false → P kind
unfolding is_step
outer_cases P p n z kind h =
    test_cases (λ _. P kind) (same_kind kind PROGRAM) (λ q. subst P (sym (same_kind_lem kind PROGRAM q)) p) (λ q1.
    test_cases (λ _. P kind) (same_kind kind NUMBER) (λ q. subst P (sym (same_kind_lem kind NUMBER q)) n) (λ q2.
    test_cases (λ _. P kind) (same_kind kind END) (λ q. subst P (sym (same_kind_lem kind END q)) z) (λ q3.
    absurd (true≢false (rw (q1, q2, q3) at h)))))

-- a label's step is below b
abbrev pub LabelBelow : ℕ → Label → Type 0
LabelBelow b l = l.step < b

-- both steps of a routine are below b
abbrev pub RoutineBelow : ℕ → Routine → Type 0
RoutineBelow b r = (r.entry < b) × (r.exit < b)

-- the steps of labels and routines are below b
pub record TargetsBelow (b : ℕ) (k : Environment) : Type 0 where
  pub labels : Each (LabelBelow b) k.labels
  pub routines : Each (RoutineBelow b) k.routines

-- a statement takes no step away
extend-steps : (k : Environment) (kind : StatementKind) (m : Mentions) → k.steps ≤ (extend k kind m).steps
unfolding extend
extend-steps k kind m = cond_cases (λ n. k.steps ≤ n) (is_step kind) (λ _. omega arith) (λ _. omega arith)

-- nor do entries that pass
pub passed_grows : {e : Edition} {k after : Environment} {es : List Entry} → Judging e k es (passed after) → k.steps ≤ after.steps
passed_grows (ended _) = omega arith
passed_grows (skips j) = passed_grows j
passed_grows (extending {k} {text} s m rest q p j) = omega (arith, extend-steps k (leading text).kind m, passed_grows j)

-- END is a step
end_is_step : (kind : StatementKind) → same_kind kind END ≡ true → is_step kind ≡ true
unfolding is_step same_kind statement_kind_number
end_is_step kind h = subst (λ k. is_step k ≡ true) (sym (same_kind_lem kind END h)) refl

-- where END is still to come so is a step
pub passed_goes_on : {e : Edition} {k after : Environment} {es : List Entry} → k.ended ≡ false → Judging e k es (passed after)
    → k.steps < after.steps
unfolding extend
passed_goes_on h (ended g) = absurd (false≢true (sym h ∙ g))
passed_goes_on h (skips j) = passed_goes_on h j
passed_goes_on {after} h (extending {k} {text} s m rest q p j) =
    let kind = (leading text).kind in
    let grows = passed_grows j in
    test_cases (λ _. k.steps < after.steps) (same_kind kind END) (λ end. omega (arith, rw (end_is_step kind end) at grows))
    (λ inner. omega (arith, extend-steps k kind m, passed_goes_on inner j))

-- the steps known so far, with the one that comes next unless END has been
abbrev steps_seen : Environment → ℕ
steps_seen k = cond k.ended k.steps (suc k.steps)

-- a bound may rise
below_more : (b c : ℕ) (k : Environment) → b ≤ c → TargetsBelow b k → TargetsBelow c k
below_more b c k h t =
    record {
      labels = each_map (λ l g. omega arith) k.labels t.labels;
      routines = each_map (λ r g. (omega arith, omega arith)) k.routines t.routines;
    }

-- labels at the step that comes next
labels-below : (b : ℕ) (k : Environment) (ns : List (List ℕ)) → k.steps < b → Each (LabelBelow b) (labels_at k ns)
unfolding labels_at Each
labels-below b k [] h = tt
labels-below b k (n ∷ ns) h = (h, labels-below b k ns h)

-- a routine opened enters at the step behind the one that comes next
opened_below : (b : ℕ) (k : Environment) (ns : List (List ℕ)) → suc k.steps < b → Each (RoutineBelow b) k.routines
    → Each (RoutineBelow b) (open_routine k ns)
unfolding open_routine Each
opened_below b k [] h g = g
opened_below b k (n ∷ ns) h g = ((h, omega arith), g)

-- a routine closed leaves to a step
closed_below : (b s : ℕ) (rs : List Routine) → s < b → Each (RoutineBelow b) rs
    → Each (RoutineBelow b) (close_routine s rs)
unfolding close_routine Each
closed_below b s [] h g = tt
closed_below b s (r ∷ rs) h g = ((g.0.0, h), g.1)

-- behind a statement one step more is seen than came before it
extend_seen : (k : Environment) (kind : StatementKind) (m : Mentions) → suc k.steps ≤ steps_seen (extend k kind m)
unfolding extend
extend_seen k kind m =
    cond_cases (λ n. suc k.steps ≤ n) (same_kind kind END) (λ end. rw (end_is_step kind end) (omega arith)) (λ _.
    cond_cases (λ n. suc k.steps ≤ suc n) (is_step kind) (λ _. omega arith) (λ _. omega arith))

-- and two where another comes behind it
extend_seen_inner : (k : Environment) (kind : StatementKind) (m : Mentions) → is_inner kind ≡ true → suc (suc k.steps) ≤ steps_seen (extend k kind m)
unfolding extend
extend_seen_inner k kind m h =
    let parts = (and-eq-true_iff (is_step kind) (not (same_kind kind END))).0 h in
    rw (parts.0, not-true (same_kind kind END) parts.1) (omega arith)

-- what a statement adds is below the steps seen behind it
extend-below : (k : Environment) (kind : StatementKind) (m : Mentions) → k.ended ≡ false → (is_inner kind ≡ false → names_for for_routine m.declared ≡ [])
    → TargetsBelow (steps_seen k) k → TargetsBelow (steps_seen (extend k kind m)) (extend k kind m)
unfolding extend same_kind statement_kind_number open_routine
extend-below k kind m running quiet t =
    let b = steps_seen (extend k kind m) in
    let seen : suc k.steps ≤ b = extend_seen k kind m in
    let old : TargetsBelow b k = below_more (suc k.steps) b k seen
    (subst (λ e. TargetsBelow (cond e k.steps (suc k.steps)) k) running t) in
    let P : List Routine → Type 0 = Each (RoutineBelow b) in
    record {
      labels = each-join (LabelBelow b) k.labels _ old.labels (labels-below b k _ (omega arith));
      routines =
          test_cases (λ _. P (extend k kind m).routines) (is_inner kind)
          (λ inner.
          let two = extend_seen_inner k kind m inner in
          cond_cases P (same_kind kind ENDROUTINE) (λ _. closed_below b (suc k.steps) k.routines (omega arith) old.routines)
          (λ _. opened_below b k (names_for for_routine m.declared) (omega arith) old.routines))
          (λ outer.
          let opens : same_kind kind ENDROUTINE ≡ false = outer_cases (λ k. same_kind k ENDROUTINE ≡ false) refl refl refl kind outer in
          rw (opens, quiet outer) old.routines);
    }

-- behind a deck that passes the steps of labels and routines are below the count of steps
pub passed_below : {e : Edition} {k after : Environment} {es : List Entry} → Judging e k es (passed after) → TargetsBelow (steps_seen k) k
    → TargetsBelow after.steps after
unfolding same_kind statement_kind_number
passed_below (ended {k} h) t = subst (λ e. TargetsBelow (cond e k.steps (suc k.steps)) k) h t
passed_below (skips j) t = passed_below j t
passed_below {e} (extending {k} {label} {whole} {text} s m rest q p j) t =
    let kind = (leading text).kind in
    let routine-free : is_inner kind ≡ false → names_for for_routine m.declared ≡ [] =
    λ outer. declares_none e _ _ label whole text s m rest (outer_cases (λ k. same_kind k ROUTINE ≡ false) refl refl refl kind outer) q in
    passed_below j (extend-below k kind m (passes_before_end p) routine-free t)
