-- Tests of the elements of a list, of what stands side by side in lists, and of numbers in a range, place by place; and an array made place by place.
-- Assumes nothing.
use Rattle.std.specs.Prelude.{Bool, ◌||◌, List, [], ◌∷◌, ◌≡◌, refl, ℕ, zero, suc, ◌+◌, ◌≤◌, ◌<◌, eqb, length, get_or, take}
use Rattle.std.specs.List.{list_any, zip, range_with_len}
use Rattle.std.specs.Array.{IsFromFnResultFrom}
use Rattle.std.proofs.Common.{sym, ◌∙◌, ap, ap₂, subst, arith, zero-add, get_or-take, length-take, eqb-true}
use Rattle.std.proofs.lemmas.Bool.{eqb-false}
use Rattle.std.proofs.lemmas.List.FromFn.{length-range_with_len, get_or-range_with_len}
use Rattle.std.proofs.lemmas.Slice.Zip.{length-zip, get_or-zip}
use Rattle.base.specs.Choice.{test_cases}
use Rattle.link_checks.specs.Below.{below, below-same, below-first}
use denote.Param.Members.{Mut, Called}

pub any_below : {A : Type 0} (f : A → Bool) (d : A) (xs : List A) → list_any f xs ≡ below (λ i. f (get_or xs i d)) (length xs)
unfolding below
any_below f d [] = refl
any_below f d (x ∷ xs) =
    ap (λ t. f x || t) (any_below f d xs) ∙ below-first (λ i. f (get_or (x ∷ xs) i d)) (length xs)

any_as : {A : Type 0} (f : A → Bool) (d : A) (xs : List A) (g : ℕ → Bool) (n : ℕ) → length xs ≡ n →
    ((i : ℕ) → i < n → f (get_or xs i d) ≡ g i) → list_any f xs ≡ below g n
any_as f d xs g n long e =
    any_below f d xs ∙ ap (below (λ i. f (get_or xs i d))) long ∙ below-same (λ i. f (get_or xs i d)) g n e

-- the numbers of a range
pub range_below : (f : ℕ → Bool) (n : ℕ) → list_any f (range_with_len 0 n) ≡ below f n
range_below f n =
    any_as f 0 (range_with_len 0 n) f n (length-range_with_len 0 n) (λ i h. ap f (get_or-range_with_len 0 n i 0 h ∙ zero-add i))

-- two lists
pub pairs_below : {A B : Type 0} (d : A) (e : B) (f : A × B → Bool) (xs : List A) (ys : List B) (n : ℕ) → length xs ≡ n → length ys ≡ n →
    list_any f (zip xs ys) ≡ below (λ i. f (get_or xs i d, get_or ys i e)) n
pairs_below d e f xs ys n long as_long =
    any_as f (d, e) (zip xs ys) (λ i. f (get_or xs i d, get_or ys i e)) n (omega (arith, length-zip xs ys))
    (λ i h. ap f (get_or-zip xs ys i (d, e) (omega arith) (omega arith)))

-- the first of three lists
pub triples_below : {A : Type 0} (d : A) (f : (ℕ × ℕ) × A → Bool) (xs ys : List ℕ) (zs : List A) (n : ℕ) →
    n ≤ length xs → n ≤ length ys → n ≤ length zs →
    list_any f (zip (zip (take n xs) (take n ys)) (take n zs)) ≡ below (λ i. f ((get_or xs i 0, get_or ys i 0), get_or zs i d)) n
triples_below d f xs ys zs n h k l =
    let x : length (take n xs) ≡ n = omega (arith, length-take n xs) in
    let y : length (take n ys) ≡ n = omega (arith, length-take n ys) in
    let z : length (take n zs) ≡ n = omega (arith, length-take n zs) in
    pairs_below (0, 0) d f (zip (take n xs) (take n ys)) (take n zs) n (omega (arith, length-zip (take n xs) (take n ys))) z
    ∙ below-same _ _ n
    (λ i u.
    ap₂ {C = Bool} (λ p q. f (p, q))
    (get_or-zip (take n xs) (take n ys) i (0, 0) (omega arith) (omega arith)
    ∙ ap₂ {C = ℕ × ℕ} (λ a b. (a, b)) (get_or-take n xs i 0 u) (get_or-take n ys i 0 u))
    (get_or-take n zs i d u))

-- an array made by calls that leave the closure as it is
module _ {F B : Type 0} (g : Mut F (ℕ × Unit {0}) B) (f : F) (h : ℕ → B)
    (calls : (i : ℕ) (y : B) (q : F) → Called g f (i, tt) y q → (q ≡ f) × (y ≡ h i)) (ys : List B) (d : B) where
  pub made_from : (i n : ℕ) → IsFromFnResultFrom g f ys i n → (j : ℕ) → i ≤ j → j < i + n → get_or ys j d ≡ h j
  made_from i zero made j low high = absurd (omega arith)
  made_from i (suc n) (q, y, at, call, rest) j low high =
      let (same, is) = calls i y q call in
      test_cases (λ _. get_or ys j d ≡ h j) (eqb j i)
      (λ t. let here = eqb-true j i t in ap (λ k. get_or ys k d) here ∙ at.1 d ∙ is ∙ ap h (sym here))
      (λ t.
      let other = eqb-false j i t in
      made_from (i + 1) n (subst (λ p. IsFromFnResultFrom g p ys (i + 1) n) same rest) j (omega arith) (omega arith))
