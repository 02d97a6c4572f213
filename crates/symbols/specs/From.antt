-- Values one by one, so many from a place on. Assumes nothing.
use mathlib.Core.List.{List, [], ◌∷◌, ◌++◌}
use Rattle.std.specs.Prelude.{◌≡◌, length}
use Rattle.std.proofs.Math.Path.{refl, ap, ap₂}
use Rattle.std.proofs.Common.{sym, ◌∙◌, add-zero}
use Prim.Native.Nat.{ℕ, zero, suc, ◌+◌, ◌-◌, ◌≤◌, ◌<◌}
use native.Mathlib.Omega.{arith}

-- n values from place i on
unfoldable pub values_from : {A : Type 0} → (ℕ → A) → (i n : ℕ) → List A
values_from f i zero = []
values_from f i (suc n) = f i ∷ values_from f (suc i) n

module _ {A : Type 0} (f : ℕ → A) where
  pub length_from : (i n : ℕ) → length (values_from f i n) ≡ n
  unfolding values_from
  length_from i zero = refl
  length_from i (suc n) = ap suc (length_from (suc i) n)

  -- of n, the first of those from i on; there are none behind the last
  pub from-turn : (n i : ℕ) → i < n → values_from f i (n - i) ≡ f i ∷ values_from f (i + 1) (n - (i + 1))
  unfolding values_from
  from-turn n i h =
      let left : n - i ≡ suc (n - (i + 1)) = omega arith in
      let next : suc i ≡ i + 1 = omega arith in
      ap (values_from f i) left ∙ ap (λ j. f i ∷ values_from f j (n - (i + 1))) next

  pub from_none : (n i : ℕ) → n ≤ i → values_from f i (n - i) ≡ []
  unfolding values_from
  from_none n i h = let none : n - i ≡ 0 = omega arith in ap (values_from f i) none

  -- one more behind n
  pub from_more : (i n : ℕ) → values_from f i (suc n) ≡ values_from f i n ++ (f (i + n) ∷ [])
  unfolding values_from
  from_more i zero = ap (λ j. f j ∷ []) (sym (add-zero i))
  from_more i (suc n) =
      let next : suc i + n ≡ i + suc n = omega arith in
      ap (λ (l : List A). f i ∷ l) (from_more (suc i) n ∙ ap (λ j. values_from f (suc i) n ++ (f j ∷ [])) next)

  pub from_last : (n : ℕ) → values_from f 0 (n + 1) ≡ values_from f 0 n ++ (f n ∷ [])
  from_last n =
      let next : n + 1 ≡ suc n = omega arith in
      let at : 0 + n ≡ n = omega arith in
      ap (values_from f 0) next ∙ from_more 0 n ∙ ap (λ j. values_from f 0 n ++ (f j ∷ [])) at

  -- where each is kept, all are
  pub from-kept : (g : ℕ → A) (i n : ℕ) → ((j : ℕ) → i ≤ j → j < i + n → g j ≡ f j) → values_from g i n ≡ values_from f i n
  unfolding values_from
  from-kept g i zero h = refl
  from-kept g i (suc n) h =
      ap₂ {C = List A} ◌∷◌ (h i (omega arith) (omega arith)) (from-kept g (suc i) n (λ j e l. h j (omega arith) (omega arith)))
