-- Laws of going on, place by place and round by round.
-- Assumes nothing.
use Rattle.std.specs.Prelude.{Bool, ◌&&◌, ◌||◌, List, ◌≡◌, refl, ℕ, zero, suc, ◌+◌, ◌-◌, ◌≤◌, ◌<◌, false}
use Rattle.std.proofs.Common.{sym, ap, ap₂, ◌∙◌, arith}
use Rattle.std.proofs.Math.Bool.{and-false}
use Rattle.link_checks.specs.Below.{below-same, below_few}
use Rattle.link_checks.specs.Pairs.{pair_in, mark_at}
use Rattle.link_checks.specs.Rounds.{go_on, gone_on}
use Rattle.link_checks.specs.declared.executed.TheConstants.{PLACES}

-- what agrees at some of n places, of which the others execute none, goes on alike
module _ (executes executes' : ℕ → ℕ → Bool) (count n : ℕ) (few : count ≤ n)
    (alike : (i j : ℕ) → i < count → j < count → executes i j ≡ executes' i j)
    (none : (i j : ℕ) → count ≤ i → i < n → executes' i j ≡ false) where
  on_same : (marked marked' : ℕ → Bool) → ((j : ℕ) → j < count → marked j ≡ marked' j) →
      (j : ℕ) → j < count → go_on executes count marked j ≡ go_on executes' n marked' j
  unfolding go_on
  on_same marked marked' e j h =
      ap₂ {C = Bool} ◌||◌ (e j h)
      (below-same (λ i. marked i && executes i j) (λ i. marked' i && executes' i j) count
      (λ i under. ap₂ {C = Bool} ◌&&◌ (e i under) (alike i j under h))
      ∙ below_few (λ i. marked' i && executes' i j) count n few
      (λ i past under. ap (λ t. marked' i && t) (none i j past under) ∙ and-false (marked' i)))

  pub gone_same : (times : ℕ) (marked marked' : ℕ → Bool) → ((j : ℕ) → j < count → marked j ≡ marked' j) →
      (j : ℕ) → j < count → gone_on times executes count marked j ≡ gone_on times executes' n marked' j
  unfolding gone_on
  gone_same zero marked marked' e j h = e j h
  gone_same (suc times) marked marked' e j h =
      gone_same times (go_on executes count marked) (go_on executes' n marked') (on_same marked marked' e) j h

-- one round of those left
module _ (pairs : List (List Bool)) (i : ℕ) (inside : i < PLACES) where
  abbrev left : (times : ℕ) (marked : ℕ → Bool) → Bool
  left times marked = gone_on times (pair_in pairs) PLACES marked i

  pub turned : (rounds n : ℕ) (marks marks' : List Bool) → n < rounds →
      ((j : ℕ) → j < PLACES → mark_at marks' j ≡ go_on (pair_in pairs) PLACES (mark_at marks) j) →
      left (rounds - n) (mark_at marks) ≡ left (rounds - (n + 1)) (mark_at marks')
  unfolding gone_on
  turned rounds n marks marks' h next =
      let one : rounds - n ≡ suc (rounds - (n + 1)) = omega arith in
      ap (λ m. left m (mark_at marks)) one
      ∙ gone_same (pair_in pairs) (pair_in pairs) PLACES PLACES (omega arith) (λ a b _ _. refl) (λ a b past under. absurd (omega arith))
      (rounds - (n + 1)) (go_on (pair_in pairs) PLACES (mark_at marks)) (mark_at marks') (λ j under. sym (next j under)) i inside

  pub turned-all : (rounds n : ℕ) (marked : ℕ → Bool) → rounds ≤ n → left (rounds - n) marked ≡ marked i
  unfolding gone_on
  turned-all rounds n marked h = let none : rounds - n ≡ 0 = omega arith in ap (λ m. left m marked) none
