-- Looking for a key among others.
-- Assumes nothing.
use Rattle.std.proofs.Common.{
  Option,
  Some,
  None,
  Bool,
  true,
  false,
  ◌||◌,
  cond,
  List,
  [],
  ◌∷◌,
  ◌≡◌,
  refl,
  sym,
  ap,
  ◌∙◌,
  ℕ,
  suc,
  ◌+◌,
  ◌≤◌,
  length,
  ap₂,
  arith,
  ◌==◌,
  nat_lt,
  eqb,
  eqb-true,
  eq-eqb,
  ne_eqb,
  ltb-false,
}
use Rattle.std.proofs.lemmas.List.Recursion.{is_position_or_len}
use Rattle.std.specs.List.{list_any, position, position_or_len}
use Rattle.std.specs.Option.{unwrap_or}
use borrow.Author.Tests.{eqb-false}
use Rattle.base.specs.Choice.{test_cases}
use Rattle.symbols.specs.Environment.{key_place, keys_have}

-- equality of numbers either way round
eqb_swap : (a b : ℕ) → eqb a b ≡ eqb b a
eqb_swap a b =
    test_cases (λ t. eqb a b ≡ t → t ≡ eqb b a) (eqb a b) (λ _ e. sym (eq-eqb b a (sym (eqb-true a b e))))
    (λ _ e. sym (ne_eqb b a (λ h. eqb-false a b e (sym h)))) refl

by_test : (b : Bool) (x y : ℕ) → elim b as (λ _. ℕ) [ true ↦ x | false ↦ y ] ≡ cond b x y
by_test true x y = refl
by_test false x y = refl

module _ (key : ℕ) where
  -- the place of a key is that of the first that is equal, and no further than the end
  place_first : (keys : List ℕ) → key_place key keys ≡ position_or_len (λ k. k == key) keys
  unfolding key_place
  place_first keys =
      is_position_or_len (key_place key) (λ k. k == key) refl
      (λ k ks.
      let n = key_place key ks in
      let next : suc n ≡ 1 + n = omega arith in
      ap {B = ℕ} (λ b. elim b [ true ↦ 0 | false ↦ suc n ]) (eqb_swap key k)
      ∙ by_test (eqb k key) 0 (suc n)
      ∙ ap (λ (m : ℕ). cond (eqb k key) 0 m) next) keys

  place_within : (keys : List ℕ) → key_place key keys ≤ length keys
  unfolding key_place
  place_within [] = omega arith
  place_within (k ∷ ks) =
      test_cases (λ b. elim b as (λ _. ℕ) [ true ↦ 0 | false ↦ suc (key_place key ks) ] ≤ length (k ∷ ks)) (eqb key k) (λ _. omega arith)
      (λ _. omega (arith, place_within ks))

  pub place_or_count : (keys : List ℕ) {p : Option ℕ} {r : ℕ} → p ≡ position (λ k. k == key) keys → r ≡ unwrap_or p (length keys)
      → (r ≡ key_place key keys) × (r ≤ length keys)
  place_or_count keys p r =
      let n = key_place key keys in
      let within = place_within keys in
      let whole : unwrap_or (cond (nat_lt n (length keys)) (Some n) None) (length keys) ≡ n =
      test_cases (λ b. nat_lt n (length keys) ≡ b → unwrap_or (cond b (Some n) None) (length keys) ≡ n) (nat_lt n (length keys)) (λ _ _. refl)
      (λ _ e. omega (arith, ltb-false n (length keys) e)) refl in
      let is =
      r ∙ ap (λ z. unwrap_or z (length keys)) (p ∙ ap (λ m. cond (nat_lt m (length keys)) (Some m) None) (sym (place_first keys))) ∙ whole in
      (is, omega (arith, is))

  -- one is equal, in the library's words
  pub any_equal : (keys : List ℕ) → list_any (λ k. k == key) keys ≡ keys_have key keys
  unfolding keys_have
  any_equal [] = refl
  any_equal (k ∷ ks) = ap₂ {C = Bool} ◌||◌ (eqb_swap k key) (any_equal ks)
