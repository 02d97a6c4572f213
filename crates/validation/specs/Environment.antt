-- The environment: the names, labels, routines and counts of a deck behind some of its statements, and how a statement extends it. Assumes nothing.
use Rattle.std.specs.Prelude.{Bool, false, cond, not, ◌&&◌, ◌||◌, List, [], ◌∷◌, ◌++◌, map, ℕ, suc, ◌+◌}
use Rattle.base.specs.Lists.{same, any, keep, total}
use Rattle.syntax.specs.Keywords.{StatementKind, NUMBER, PROGRAM, END, ENDROUTINE, same_kind}
use Rattle.syntax.specs.Parsing.{Purpose, for_label, for_routine, for_number, for_string, same_purpose, Mention, Mentions}

-- a label with its step and the routine it stands in, by name; outside all routines the name is empty
pub record Label : Type 0 where
  pub name : List ℕ
  pub step : ℕ
  pub scope : List ℕ

-- a routine with the step behind its ROUTINE and the one behind its ENDROUTINE
pub record Routine : Type 0 where
  pub name : List ℕ
  pub entry : ℕ
  pub exit : ℕ

-- a label or routine used, with the routine it is used in
pub record Use : Type 0 where
  pub name : List ℕ
  pub scope : List ℕ

pub record Environment : Type 0 where
  pub statements : ℕ
  pub steps : ℕ
  pub ended : Bool
  -- the routine that is open
  pub scope : List ℕ
  -- each name once with its purpose, in order of first appearance
  pub names : List Mention
  -- labels declared, routines declared (the latest first)
  pub labels : List Label
  pub routines : List Routine
  -- labels and routines used
  pub branches : List Use
  pub executes : List Use
  -- the counts of 10 that no list above has
  pub elements : ℕ
  pub items : ℕ
  pub literals : ℕ

unfoldable pub empty_environment : Environment
empty_environment =
    record {
      statements = 0;
      steps = 0;
      ended = false;
      scope = [];
      names = [];
      labels = [];
      routines = [];
      branches = [];
      executes = [];
      elements = 0;
      items = 0;
      literals = 0;
    }

unfoldable pub same_mention : Mention → Mention → Bool
same_mention a b = same_purpose a.purpose b.purpose && same a.name b.name

-- the names of one purpose
unfoldable pub names_for : Purpose → List Mention → List (List ℕ)
names_for p ns = map (λ n. n.name) (keep (λ n. same_purpose p n.purpose) ns)

unfoldable pub strings_of : Environment → List (List ℕ)
strings_of k = names_for for_string k.names

unfoldable pub numbers_of : Environment → List (List ℕ)
numbers_of k = names_for for_number k.names

unfoldable pub is_one_of : List (List ℕ) → List ℕ → Bool
is_one_of names n = any (same n) names

-- names not known yet go behind those that are
unfoldable pub with_names : List Mention → List Mention → List Mention
with_names known [] = known
with_names known (n ∷ ns) = with_names (cond (any (same_mention n) known) known (known ++ (n ∷ []))) ns

-- S7 "PROGRAM and NUMBER are no steps"
unfoldable pub is_step : StatementKind → Bool
is_step k = not (same_kind k PROGRAM || same_kind k NUMBER)

-- S7 "a label on them means the next step": either way the step that comes next
unfoldable pub labels_at : Environment → List (List ℕ) → List Label
labels_at k ns = map (λ n. record { name = n; step = k.steps; scope = k.scope }) ns

unfoldable pub uses_at : Environment → List (List ℕ) → List Use
uses_at k ns = map (λ n. record { name = n; scope = k.scope }) ns

-- a ROUTINE opens a routine, ENDROUTINE closes the latest
unfoldable pub open_routine : Environment → List (List ℕ) → List Routine
open_routine k [] = k.routines
open_routine k (n ∷ ns) = record { name = n; entry = suc k.steps; exit = 0 } ∷ k.routines

unfoldable pub close_routine : ℕ → List Routine → List Routine
close_routine s [] = []
close_routine s (r ∷ rs) = record { name = r.name; entry = r.entry; exit = s } ∷ rs

-- S8 "A ROUTINE statement stands outside its routine, ENDROUTINE inside.": the scope changes behind them
unfoldable pub scope_after : StatementKind → List (List ℕ) → List ℕ → List ℕ
scope_after kind [] scope = cond (same_kind kind ENDROUTINE) [] scope
scope_after kind (n ∷ ns) scope = n

-- the environment behind a statement of this kind that mentions these
unfoldable pub extend : Environment → StatementKind → Mentions → Environment
extend k kind m =
    let declared = names_for for_routine m.declared in
    record {
      statements = suc k.statements;
      steps = cond (is_step kind) (suc k.steps) k.steps;
      ended = same_kind kind END;
      scope = scope_after kind declared k.scope;
      names = with_names k.names (m.declared ++ m.used);
      labels = k.labels ++ labels_at k (names_for for_label m.declared);
      routines = cond (same_kind kind ENDROUTINE) (close_routine (suc k.steps) k.routines) (open_routine k declared);
      branches = k.branches ++ uses_at k (names_for for_label m.used);
      executes = k.executes ++ uses_at k (names_for for_routine m.used);
      elements = k.elements + total (λ n. n) m.rows;
      items = k.items + m.items;
      literals = k.literals + m.literals;
    }
