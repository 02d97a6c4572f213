-- The operators of i64 are those of the integers where the result is of less than 2 ^ 63. Assumes nothing.
use mathlib.Core.Path.{◌≡◌, refl, subst}
use Prim.Native.Nat.{ℕ, zero, suc, ◌+◌, ◌*◌, ◌/◌, ◌≤◌, ◌<◌, ◌^◌}
use native.Mathlib.Nat.{div-le_self}
use native.Mathlib.Omega.{arith}
use lib.Dec.{ltb}
use lib.IntN.{ℤ, pos, negsuc, neg_ℤ, nat_abs, sub_ℕ, ◌+ℤ◌, ◌*ℤ◌}
use lib.Signed.{quot_z}
use mir.Syntax.{w64}
use mir.Val.{SFits, of_z, to_z}
use borrow.Author.Tests.{ltb-true, ltb-false, le-leb, lt-leb}
use Rattle.base.specs.Choice.{cond_cases}
use Rattle.base.specs.Current.{current, limit, limit_is}
use Rattle.values.specs.Numbers.{is_in_range, held}
use Rattle.values.specs.Result.{done, stop}
use Rattle.numbers.specs.Laws.{fits, plain}
use Rattle.numbers.specs.Numbers.{Number, NumberAnswers}

-- ---- how far results are from 0

pub negative_size : (z : ℤ) → nat_abs (neg_ℤ z) ≡ nat_abs z
negative_size (pos zero) = refl
negative_size (pos (suc n)) = refl
negative_size (negsuc n) = refl

difference_size : (a b : ℕ) → nat_abs (sub_ℕ a b) ≤ a + b
difference_size a b =
    cond_cases (λ z. nat_abs z ≤ a + b) (ltb a b) (λ e. omega (arith, ltb-true a b e)) (λ e. omega (arith, ltb-false a b e))

pub sum_size : (a b : ℤ) → nat_abs (a +ℤ b) ≤ nat_abs a + nat_abs b
sum_size (pos a) (pos b) = omega arith
sum_size (pos a) (negsuc b) = difference_size a (suc b)
sum_size (negsuc a) (pos b) = omega (arith, difference_size b (suc a))
sum_size (negsuc a) (negsuc b) = omega arith

pub product_size : (a b : ℤ) → nat_abs (a *ℤ b) ≡ nat_abs a * nat_abs b
product_size (pos a) (pos b) = refl
product_size (pos a) (negsuc b) = negative_size (pos (a * suc b))
product_size (negsuc a) (pos b) = negative_size (pos (suc a * b))
product_size (negsuc a) (negsuc b) = refl

pub quotient_size : (a b : ℤ) → nat_abs (quot_z a b) ≤ nat_abs a
quotient_size (pos a) (pos b) = div-le_self a b
quotient_size (pos a) (negsuc b) = rw (negative_size (pos (a / suc b))) (div-le_self a (suc b))
quotient_size (negsuc a) (pos b) = rw (negative_size (pos (suc a / b))) (div-le_self (suc a) b)
quotient_size (negsuc a) (negsuc b) = div-le_self (suc a) (suc b)

-- ---- operators of i64

-- what the code makes of two numbers fits, and is what the operator makes of them
pub record Works (op : ℤ → ℤ → ℤ) (a b : ℤ) : Type 0 where
  pub fit : SFits w64 (op (to_z w64 (of_z w64 a)) (to_z w64 (of_z w64 b)))
  pub same : to_z w64 (of_z w64 (op (to_z w64 (of_z w64 a)) (to_z w64 (of_z w64 b)))) ≡ op a b
  pub small : nat_abs (to_z w64 (of_z w64 (op (to_z w64 (of_z w64 a)) (to_z w64 (of_z w64 b))))) < 2 ^ 63

pub works : (op : ℤ → ℤ → ℤ) (a b : ℤ) → nat_abs a < 2 ^ 63 → nat_abs b < 2 ^ 63 → nat_abs (op a b) < 2 ^ 63 → Works op a b
works op a b ha hb h =
    record {
      fit = rw (plain a ha, plain b hb) (fits (op a b) h);
      same = rw (plain a ha, plain b hb) (plain (op a b) h);
      small = rw (plain a ha, plain b hb, plain (op a b) h) h;
    }

-- ---- the range

pub held_in : (z : ℤ) → nat_abs z ≤ limit → held current z ≡ done z 0
unfolding held is_in_range
held_in z h = rw (limit_is, le-leb (nat_abs z) limit h)

pub held_out : (z : ℤ) → limit < nat_abs z → held current z ≡ stop 19
unfolding held is_in_range
held_out z h = rw (limit_is, lt-leb (nat_abs z) limit h)

-- an answer for a number is one for the same number otherwise got
pub held_as : {r : Number} {y z : ℤ} → y ≡ z → NumberAnswers r (held current y) → NumberAnswers r (held current z)
held_as {r} e h = subst (λ (z : ℤ). NumberAnswers r (held current z)) e h
