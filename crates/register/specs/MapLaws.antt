-- Lists of which a part is kept, and lists changed element by element. Assumes nothing.
use Rattle.std.specs.Prelude.{Bool, ◌&&◌}
use Rattle.std.proofs.Math.Bool.{true, false, not}
use mathlib.Core.List.{List, [], ◌∷◌, map}
use Rattle.std.proofs.Math.Path.{◌≡◌, refl, ap}
use Rattle.std.proofs.Common.{ap₂}
use Prim.Native.Nat.{suc, ◌≤◌}
use native.Mathlib.Omega.{arith}
use Rattle.std.proofs.Math.ListN.{length}
use borrow.Author.Tests.{not-true}
use Rattle.base.specs.Choice.{both_true, test_cases}
use Rattle.base.specs.Lists.{all, keep}

-- What is kept of a list of which no element passes.
module _ {A : Type 0} (p : A → Bool) where
  pub keep_none : (xs : List A) → all (λ x. not (p x)) xs ≡ true → keep p xs ≡ []
  unfolding keep all
  keep_none [] a = refl
  keep_none (x ∷ xs) a =
      let parts = both_true (not (p x)) (all (λ x. not (p x)) xs) a in
      rw (keep, not-true (p x) parts.0) (keep_none xs parts.1)

  -- it is no more
  pub keep_few : (xs : List A) → length (keep p xs) ≤ length xs
  unfolding keep
  keep_few [] = omega arith
  keep_few (x ∷ xs) =
      let rest = keep_few xs in
      test_cases (λ t. length {A = A} (elim t [ true ↦ x ∷ keep p xs | false ↦ keep p xs ]) ≤ suc (length xs)) (p x)
      (λ _. omega arith) (λ _. omega arith)

-- A test of what each element is taken to.
pub all_map : {A B : Type 0} (f : A → B) (q : B → Bool) (xs : List A) → all q (map f xs) ≡ all (λ x. q (f x)) xs
unfolding all
all_map f q [] = refl
all_map f q (x ∷ xs) = ap (λ t. q (f x) && t) (all_map f q xs)

-- functions that agree where a test is passed
pub map-agree : {A B : Type 0} (f g : A → B) (p : A → Bool) → ((x : A) → p x ≡ true → f x ≡ g x) → (xs : List A) → all p xs ≡ true
    → map f xs ≡ map g xs
unfolding all
map-agree f g p h [] a = refl
map-agree {A} {B} f g p h (x ∷ xs) a =
    let parts = both_true (p x) (all p xs) a in
    ap₂ {C = List B} ◌∷◌ (h x parts.0) (map-agree f g p h xs parts.1)
