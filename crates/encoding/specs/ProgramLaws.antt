-- What a program in range lets its run rely on: every statement is in range, and only the last step has no step behind it.
-- Assumes nothing.
use Rattle.std.specs.Prelude.{true, false, List, [], ◌∷◌, map, ◌≡◌, refl, ℕ, zero, suc, ◌<◌, ltb, length, get_or}
use Rattle.std.proofs.Math.Bool.{and-eq-true_iff}
use Rattle.std.proofs.lemmas.Bool.{false≢true}
use Rattle.std.proofs.Common.{true≢false, sym, ◌∙◌, arith}
use Rattle.base.specs.Edition.{Edition}
use Rattle.base.specs.Lists.{all}
use Rattle.syntax.specs.Program.{finish, Step, Program, is_finish, last_finishes}
use Rattle.encoding.specs.Rules.{statement_holds, step_holds, is_program}
use Rattle.encoding.specs.TableLaws.{in_range_lem}

-- the statement of every step is in range
pub statement_holds_lem : (e : Edition) (strings numbers steps : ℕ) (ss : List Step) (k : ℕ)
    → all (step_holds e strings numbers steps) ss ≡ true
    → statement_holds e strings numbers steps (get_or (map (λ s. s.statement) ss) k finish) ≡ true
unfolding all step_holds statement_holds
statement_holds_lem e strings numbers steps [] k h = refl
statement_holds_lem e strings numbers steps (s ∷ ss) zero h =
    let first = ((and-eq-true_iff (step_holds e strings numbers steps s) (all (step_holds e strings numbers steps) ss)).0 h).0 in
    ((and-eq-true_iff (ltb s.card 65536) (statement_holds e strings numbers steps s.statement)).0 first).1
statement_holds_lem e strings numbers steps (s ∷ ss) (suc k) h =
    let both = (and-eq-true_iff (step_holds e strings numbers steps s) (all (step_holds e strings numbers steps) ss)).0 h in
    statement_holds_lem e strings numbers steps ss k both.1

-- behind a step that doesn't finish there is a step
pub step-behind : (ss : List Step) (k : ℕ) → last_finishes ss ≡ true → k < length ss
    → is_finish (get_or (map (λ s. s.statement) ss) k finish) ≡ false → suc k < length ss
unfolding last_finishes
step-behind [] k h inside goes = absurd (false≢true h)
step-behind (s ∷ []) zero h inside goes = absurd (true≢false (sym h ∙ goes))
step-behind (s ∷ []) (suc k) h inside goes = absurd (omega arith)
step-behind (s ∷ (t ∷ ss)) zero h inside goes = omega arith
step-behind (s ∷ (t ∷ ss)) (suc k) h inside goes =
    let further = step-behind (t ∷ ss) k h (omega arith) goes in
    omega arith

-- a program whose last step finishes has a first one
pub first_step : (ss : List Step) → last_finishes ss ≡ true → 0 < length ss
unfolding last_finishes
first_step [] h = absurd (false≢true h)
first_step (s ∷ ss) h = omega arith

-- what a run relies on: the last step finishes, and every statement is in range
pub record Runs (e : Edition) (p : Program) : Type 0 where
  pub last : last_finishes p.steps ≡ true
  pub hold : all (step_holds e p.strings p.numbers (length p.steps)) p.steps ≡ true

-- a program in range runs
pub program_runs : (e : Edition) (p : Program) → is_program e p ≡ true → Runs e p
program_runs e p h = let ok = in_range_lem e p h in record { last = ok.last; hold = ok.hold }
