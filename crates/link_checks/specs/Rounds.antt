-- Going on from some places to those that they execute, round by round. Assumes nothing.
use Rattle.std.specs.Prelude.{Bool, ◌&&◌, ◌||◌, ℕ, zero, suc}
use Rattle.link_checks.specs.Below.{below}

-- a place is marked, or one of the places marked executes it
unfoldable pub go_on : (executes : ℕ → ℕ → Bool) → (count : ℕ) → (marked : ℕ → Bool) → ℕ → Bool
go_on executes count marked j = marked j || below (λ i. marked i && executes i j) count

-- so many times
unfoldable pub gone_on : (times : ℕ) → (executes : ℕ → ℕ → Bool) → (count : ℕ) → (marked : ℕ → Bool) → ℕ → Bool
gone_on zero executes count marked = marked
gone_on (suc n) executes count marked = gone_on n executes count (go_on executes count marked)
