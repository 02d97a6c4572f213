-- Some number below n passes a test; with its laws. Assumes nothing.
use Rattle.std.specs.Prelude.{Bool, true, false, ◌||◌, ◌≡◌, refl, ℕ, zero, suc, ◌+◌, ◌≤◌, ◌<◌, eqb, ltb}
use Rattle.std.proofs.lemmas.Bool.{false≢true, eqb-false, ltb-true, ltb-false}
use Rattle.std.proofs.Math.Bool.{or_assoc, or_comm}
use Rattle.std.proofs.Common.{inl, inr, sym, ap, ap₂, ◌∙◌, add-zero, zero-add, arith, eqb-true}
use Rattle.base.specs.Choice.{test_cases, either_true, true_behind, same_truth, or_pairs}

unfoldable pub below : (ℕ → Bool) → ℕ → Bool
below f zero = false
below f (suc n) = below f n || f n

-- tests that agree below n
pub below-same : (f g : ℕ → Bool) (n : ℕ) → ((i : ℕ) → i < n → f i ≡ g i) → below f n ≡ below g n
unfolding below
below-same f g zero e = refl
below-same f g (suc n) e = ap₂ {C = Bool} ◌||◌ (below-same f g n (λ i h. e i (omega arith))) (e n (omega arith))

-- one of two tests
pub below_either : (f g : ℕ → Bool) (n : ℕ) → (below f n || below g n) ≡ below (λ i. f i || g i) n
unfolding below
below_either f g zero = refl
below_either f g (suc n) = or_pairs (below f n) (f n) (below g n) (g n) ∙ ap (λ t. t || (f n || g n)) (below_either f g n)

-- the first number apart
pub below-first : (f : ℕ → Bool) (n : ℕ) → (f 0 || below (λ j. f (suc j)) n) ≡ below f (suc n)
unfolding below
below-first f zero = or_comm (f 0) false
below-first f (suc n) =
    sym (or_assoc (f 0) (below (λ j. f (suc j)) n) (f (suc n))) ∙ ap (λ t. t || f (suc n)) (below-first f n)

pub below-from : (f : ℕ → Bool) (i n : ℕ) → (f i || below (λ j. f (suc i + j)) n) ≡ below (λ j. f (i + j)) (suc n)
below-from f i n =
    ap₂ {C = Bool} ◌||◌ (ap f (sym (add-zero i)))
    (below-same (λ j. f (suc i + j)) (λ j. f (i + suc j)) n (λ j _. let next : suc i + j ≡ i + suc j = omega arith in ap f next))
    ∙ below-first (λ j. f (i + j)) n

pub below-start : (f : ℕ → Bool) (n : ℕ) → below (λ j. f (0 + j)) n ≡ below f n
below-start f n = below-same (λ j. f (0 + j)) f n (λ j _. ap f (zero-add j))

-- a number that passes, and that there is one
pub record SomePasses (f : ℕ → Bool) (n : ℕ) : Type 0 where
  pub at : ℕ
  pub under : at < n
  pub passes : f at ≡ true

pub below_find : (f : ℕ → Bool) (n : ℕ) → below f n ≡ true → SomePasses f n
unfolding below
below_find f zero e = absurd (false≢true e)
below_find f (suc n) e =
    elim (either_true (below f n) (f n) e) [
      | inl h ↦ let p = below_find f n h in let u = p.under in record { at = p.at; under = omega arith; passes = p.passes }
      | inr h ↦ record { at = n; under = omega arith; passes = h }
    ]

pub below-found : (f : ℕ → Bool) (n i : ℕ) → i < n → f i ≡ true → below f n ≡ true
unfolding below
below-found f zero i h e = absurd (omega arith)
below-found f (suc n) i h e =
    test_cases (λ _. (below f n || f n) ≡ true) (eqb i n)
    (λ t. true_behind (below f n) (f n) (ap f (sym (eqb-true i n t)) ∙ e))
    (λ t. let other = eqb-false i n t in ap (λ b. b || f n) (below-found f n i (omega arith) e))

-- numbers of which none passes make no difference
pub below_few : (f : ℕ → Bool) (few n : ℕ) → few ≤ n → ((i : ℕ) → few ≤ i → i < n → f i ≡ false) → below f few ≡ below f n
below_few f few n le none =
    same_truth (below f few) (below f n)
    (λ e. let p = below_find f few e in let u = p.under in below-found f n p.at (omega arith) p.passes)
    (λ e.
    let p = below_find f n e in
    test_cases (λ _. below f few ≡ true) (ltb p.at few) (λ t. below-found f few p.at (ltb-true p.at few t) p.passes)
    (λ t. absurd (false≢true (sym (none p.at (ltb-false p.at few t) p.under) ∙ p.passes))))
