-- Where the steps of a program stand, each in one routine or outside all, and where their statements lead. Assumes nothing.
use Rattle.std.specs.Prelude.{List, [], ◌∷◌, map, ◌≡◌, ℕ, suc, ◌≤◌, length, get_or}
use Rattle.base.specs.Limits as Limits
use Rattle.syntax.specs.Program.{
  Branch,
  Statement,
  set_number,
  set_string,
  goto,
  finish,
  if_test,
  scan,
  read,
  write,
  execute,
  return,
  Step,
}

-- the routine that each step stands in, by name (outside all routines the name is empty), and which routine executes which
module _ (scope : ℕ → List ℕ) (Executes : (first second : List ℕ) → Type 0) where
  -- S10 "A branch stays inside its routine, or outside all of them.", Q11: a step in the scope of another
  abbrev pub StaysInScope : (here there : ℕ) → Type 0
  StaysInScope here there = scope there ≡ scope here

  abbrev pub BranchStays : ℕ → Branch → Type 0
  BranchStays here b = StaysInScope here b.success × StaysInScope here b.failure

  -- where the statement of a step leads: on in its scope, or into a routine that its scope executes, to come back behind it; Q9 RETURN and
  -- ENDROUTINE don't stand outside
  unfoldable pub Leads : (here : ℕ) → Statement → Type 0
  Leads here (set_number i x) = StaysInScope here (suc here)
  Leads here (set_string p xs) = StaysInScope here (suc here)
  Leads here (goto k) = StaysInScope here k
  Leads here finish = Unit {0}
  Leads here (if_test t b) = BranchStays here b
  Leads here (scan d p xs r b) = BranchStays here b
  Leads here (read p b) = BranchStays here b
  Leads here (write xs) = StaysInScope here (suc here)
  Leads here (execute k) = Executes (scope here) (scope k) × StaysInScope here (suc here)
  Leads here return = ¬ (scope here ≡ [])

  -- the step that comes next, and the steps to return to, the latest first: each stands in a scope that executes the one before, the last
  -- outside
  unfoldable pub Nested : (next : ℕ) (returns : List ℕ) → Type 0
  Nested next [] = scope next ≡ []
  Nested next (r ∷ rs) = Executes (scope r) (scope next) × Nested r rs

  -- steps with these scopes: the first stands outside, each leads where it may, and no row of routines that execute each other is longer
  -- than there are routines
  pub record Scoped (steps : List Step) : Type 0 where
    pub outside : scope 0 ≡ []
    pub leads : (k : ℕ) → Leads k (get_or (map (λ s. s.statement) steps) k finish)
    pub few : (next : ℕ) (returns : List ℕ) → Nested next returns → length returns ≤ Limits.routines
