-- What holds whichever way a test goes. Assumes nothing.
use Rattle.std.specs.Prelude.{Bool, true, false, cond, ◌&&◌, ◌||◌, ◌⊎◌, ◌≡◌, refl}
use Rattle.std.proofs.Common.{true≢false, inl, inr, sym}
use Rattle.std.proofs.Math.Bool.{and-eq-true_iff}

-- what holds of true and of false, where the test comes out so, holds of the test
pub test_cases : (P : Bool → Type 0) (test : Bool) → (test ≡ true → P true) → (test ≡ false → P false) → P test
test_cases P true f g = f refl
test_cases P false f g = g refl

-- what holds of each value, where the test chooses it, holds of the one chosen
pub cond_cases : {A : Type 0} (P : A → Type 0) (test : Bool) {x y : A} → (test ≡ true → P x) → (test ≡ false → P y) → P (cond test x y)
cond_cases P test {x} {y} = test_cases (λ t. P (cond t x y)) test

-- a conjunction that is true has two true parts, and one of two true parts is true
pub both_true : (a b : Bool) → (a && b) ≡ true → (a ≡ true) × (b ≡ true)
both_true a b h = (and-eq-true_iff a b).0 h

pub both_pass : {a b : Bool} → a ≡ true → b ≡ true → (a && b) ≡ true
both_pass {a} {b} h g = (and-eq-true_iff a b).1 (h, g)

-- a disjunction that is false has two false parts
pub neither_true : (a b : Bool) → (a || b) ≡ false → (a ≡ false) × (b ≡ false)
neither_true true b h = absurd (true≢false h)
neither_true false b h = (refl, h)

-- a disjunction that is true has a true part
pub either_true : (a b : Bool) → (a || b) ≡ true → (a ≡ true) ⊎ (b ≡ true)
either_true true b h = inl refl
either_true false b h = inr h

-- a disjunction with a true part is true
pub true_behind : (a b : Bool) → b ≡ true → (a || b) ≡ true
true_behind true b h = refl
true_behind false b h = h

-- two tests that follow from each other are the same
pub same_truth : (a b : Bool) → (a ≡ true → b ≡ true) → (b ≡ true → a ≡ true) → a ≡ b
same_truth true b f g = sym (f refl)
same_truth false true f g = g refl
same_truth false false f g = refl

-- two disjunctions, pair by pair
pub or_pairs : (a b c d : Bool) → ((a || b) || (c || d)) ≡ ((a || c) || (b || d))
or_pairs true b c d = refl
or_pairs false true true d = refl
or_pairs false true false d = refl
or_pairs false false c d = refl
