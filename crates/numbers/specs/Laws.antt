-- The code's sizes are those of the definitions, a number is what its bits are read as, and what an answer tells once its case is known.
-- Assumes nothing.
use Rattle.std.specs.Prelude.{true, List, ◌≡◌, refl, ℕ, ◌≤◌, ◌<◌, ◌^◌, ℤ, pos, negsuc, nat_abs, take, Some, None, Ok, Err}
use Rattle.std.specs.Bool.{then_some}
use Rattle.std.proofs.Common.{sym, ap, subst, ◌∙◌, arith, SFits, of_z, to_z, leb, le-leb, leb-true, leb-false}
use Rattle.std.proofs.lemmas.Bool.{lt-leb}
use Rattle.std.proofs.lemmas.Option.{none-some, same_Some}
use Rattle.std.specs.Int.{w64}
use Rattle.std.proofs.lemmas.Int.{to_z-of_z}
use Rattle.base.specs.Choice.{test_cases}
use Rattle.base.specs.Current.{current, limit, limit_is}
use Rattle.values.specs.Conversion.{longest_string, text_of}
use Rattle.values.specs.Numbers.{is_in_range}
use Rattle.values.specs.Result.{Result, done, stop}
use Rattle.values.specs.Stops.{stop_number}
use Rattle.values.specs.declared.Noted.{Noted}
use Rattle.values.specs.declared.Stop.{Stop}
use Rattle.numbers.specs.declared.Int.{Int}
use Rattle.numbers.specs.Numbers.{IntInRange, if_small, Number, worked, NumberWithin, NumberAnswers}
use Rattle.numbers.specs.Text.{longest_text, Text, text_worked, Settled, TextWritten}

-- a number that passes the test is in range
pub in_range_lem : (z : ℤ) → is_in_range current z ≡ true → nat_abs z ≤ limit
unfolding is_in_range
in_range_lem z h = rw limit_is at (leb-true (nat_abs z) current.limit h)

-- a number that is at most the limit, and one that is above
pub small_is : {n v : ℕ} → if_small n ≡ Some v → (v ≡ n) × (v ≤ limit)
unfolding if_small
small_is {n} {v} =
    test_cases (λ t. then_some t n ≡ Some v → (v ≡ n) × (v ≤ limit)) (leb n limit)
    (λ s e. let same = same_Some n v e in (sym same, omega (arith, leb-true n limit s)))
    (λ _ e. absurd (none-some v e))

pub not_small : (n : ℕ) → if_small n ≡ None → limit < n
unfolding if_small
not_small n =
    test_cases (λ t. then_some t n ≡ None → limit < n) (leb n limit) (λ _ e. absurd (none-some n (sym e))) (λ s _. leb-false n limit s)

pub small : (n : ℕ) → n ≤ limit → if_small n ≡ Some n
unfolding if_small
small n h = rw (le-leb n limit h)

pub beyond : (n : ℕ) → limit < n → if_small n ≡ None
unfolding if_small
beyond n h = rw (lt-leb n limit h)

-- the code's longest string is that of the definitions
pub longest-is : longest_string ≡ longest_text
unfolding longest_string
longest-is = refl

-- a number of less than 2 ^ 63 fits an i64
pub fits : (z : ℤ) → nat_abs z < 2 ^ 63 → SFits w64 z
fits (pos n) h = record { sfits = h }
fits (negsuc n) h = record { sfits = omega arith }

-- and is what its bits are read as: where code makes an `Int { value: x }`, its value is so written
pub plain : (z : ℤ) → nat_abs z < 2 ^ 63 → to_z w64 (of_z w64 z) ≡ z
plain z h = to_z-of_z w64 z (fits z h)

-- an answer that is a value, and one that stops
module _ {r : Number} {w : Result ℤ} (a : NumberAnswers r w) where
  pub number_is : {v : Noted Int} → r ≡ Ok v → w ≡ done v.value.value v.notes
  number_is e = sym a.work ∙ ap worked e

  pub number_range : {v : Noted Int} → r ≡ Ok v → IntInRange v.value
  number_range e = subst NumberWithin e a.range

  pub number_stops : {s : Stop} → r ≡ Err s → w ≡ stop (stop_number s)
  number_stops e = sym a.work ∙ ap worked e

-- a text that was written, and one that stops
module _ {n m : ℤ} {r : Text} {before after : List ℕ} (a : TextWritten n m r before after) where
  pub text_is : {v : Noted ℕ} → r ≡ Ok v → text_of n m ≡ done (take v.value after) v.notes
  text_is e = sym a.text ∙ ap (λ (x : Text). text_worked x after) e

  pub text_fits : {v : Noted ℕ} → r ≡ Ok v → v.value ≤ longest_text
  text_fits e = subst (λ (x : Text). Settled x before after) e a.settled

  pub text_stops : {s : Stop} → r ≡ Err s → text_of n m ≡ stop (stop_number s)
  text_stops e = sym a.text ∙ ap (λ (x : Text). text_worked x after) e
