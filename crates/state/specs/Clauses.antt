-- What the state's functions leave.
-- Assumes nothing.
use Rattle.std.specs.Prelude.{List, ◌≡◌, ℕ, ◌+◌, ◌-◌, get_or, set}

-- the state without its latest return, and the step of that
pub record Popped (state : List ℕ) (k : ℕ) (left : List ℕ) : Type 0 where
  pub others : left ≡ set state 2 (get_or state 2 0 - 1)
  pub latest : k ≡ get_or state (5 + (get_or state 2 0 - 1)) 0
