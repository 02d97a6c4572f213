-- The comparisons of i64 are those of the integers. Assumes nothing.
use mathlib.Core.Bool.{Bool, true, false, not, ◌&&◌, ◌||◌, false≢true, and-eq-true_iff}
use mathlib.Core.Path.{◌≡◌, refl, sym, ap, ap₂, subst, ◌∙◌}
use Prim.Native.Nat.{ℕ, ◌<◌, ◌^◌}
use native.Mathlib.Omega.{arith}
use lib.Dec.{ltb, leb, eqb}
use lib.IntN.{ℤ, pos, negsuc}
use lib.Signed.{mag, lt_z, le_z}
use mir.Syntax.{w64}
use mir.Val.{of_z, to_z}
use mir.ValLaws.{to_z-of_z}
use borrow.Author.Tests.{leb-true, leb-false, eqb-true, le-leb, le-ltb, lt-ltb, eq-eqb}
use Rattle.base.specs.Choice.{test_cases, same_truth}

-- below is not at least
below_not : (x y : ℕ) → ltb x y ≡ not (leb y x)
below_not x y = test_cases (λ t. ltb x y ≡ not t) (leb y x) (λ e. le-ltb x y (leb-true y x e)) (λ e. lt-ltb x y (leb-false y x e))

pub less_not : (a b : ℤ) → lt_z a b ≡ not (le_z b a)
less_not (pos x) (pos y) = below_not x y
less_not (pos x) (negsuc y) = refl
less_not (negsuc x) (pos y) = refl
less_not (negsuc x) (negsuc y) = below_not y x

-- each at most the other
both_ways : (x y : ℕ) → leb x y ≡ true → leb y x ≡ true → x ≡ y
both_ways x y e f = omega (arith, leb-true x y e, leb-true y x f)

at-most-both : (a b : ℤ) → le_z a b ≡ true → le_z b a ≡ true → a ≡ b
at-most-both (pos x) (pos y) e f = ap pos (both_ways x y e f)
at-most-both (pos x) (negsuc y) e f = absurd (false≢true e)
at-most-both (negsuc x) (pos y) e f = absurd (false≢true f)
at-most-both (negsuc x) (negsuc y) e f = ap negsuc (both_ways x y f e)

at_most_self : (a : ℤ) → le_z a a ≡ true
at_most_self (pos x) = le-leb x x (omega arith)
at_most_self (negsuc x) = le-leb x x (omega arith)

-- one part false makes a conjunction false
not_both : (s t : Bool) → not (s && t) ≡ (not t || not s)
not_both true true = refl
not_both true false = refl
not_both false true = refl
not_both false false = refl

module _ (a b : ℤ) (ha : mag a < 2 ^ 63) (hb : mag b < 2 ^ 63) where
  read_a : to_z w64 (of_z w64 a) ≡ a
  read_a = to_z-of_z w64 a (record { sfits = ha })

  read_b : to_z w64 (of_z w64 b) ≡ b
  read_b = to_z-of_z w64 b (record { sfits = hb })

  pub equal_bits : eqb (of_z w64 a) (of_z w64 b) ≡ (le_z a b && le_z b a)
  equal_bits =
      same_truth (eqb (of_z w64 a) (of_z w64 b)) (le_z a b && le_z b a)
      (λ e.
      let same : a ≡ b = sym read_a ∙ ap (to_z w64) (eqb-true (of_z w64 a) (of_z w64 b) e) ∙ read_b in
      subst (λ (z : ℤ). (le_z a z && le_z z a) ≡ true) same ((and-eq-true_iff (le_z a a) (le_z a a)).1 (at_most_self a, at_most_self a)))
      (λ e.
      let both = (and-eq-true_iff (le_z a b) (le_z b a)).0 e in
      eq-eqb (of_z w64 a) (of_z w64 b) (ap (of_z w64) (at-most-both a b both.0 both.1)))

  pub unequal_bits : not (eqb (of_z w64 a) (of_z w64 b)) ≡ (lt_z a b || lt_z b a)
  unequal_bits = rw (less_not a b, less_not b a) (ap not equal_bits ∙ not_both (le_z a b) (le_z b a))

  pub read_bits : (f : ℤ → ℤ → Bool) → f (to_z w64 (of_z w64 a)) (to_z w64 (of_z w64 b)) ≡ f a b
  read_bits f = ap₂ f read_a read_b
