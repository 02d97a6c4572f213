-- What the code's answers stand for: the numbers that stop a step, and a value with its notes. Assumes nothing.
use Rattle.std.specs.Prelude as std
use Rattle.std.specs.Prelude.{true, ◌≡◌, ℕ, ◌+◌, refl, Ok, Err}
use Rattle.std.proofs.Common.{ap}
use Rattle.values.specs.declared.Noted.{Noted}
use Rattle.values.specs.declared.Stop.{Stop}
use Rattle.values.specs.declared.Stop.TheVariants.{NegativeLength, ZeroDivisor, OutOfRange, TooLong, OutputFull}
use Rattle.values.specs.Result.{stops_step, Result, done, stop, with_notes}

-- Q17 to Q21
abbrev pub stop_number : Stop → ℕ
stop_number NegativeLength = 17
stop_number ZeroDivisor = 18
stop_number OutOfRange = 19
stop_number TooLong = 20
stop_number OutputFull = 21

-- each of them stops a step
pub stop_number_stops : (s : Stop) → stops_step (stop_number s) ≡ true
unfolding stops_step
stop_number_stops NegativeLength = refl
stop_number_stops ZeroDivisor = refl
stop_number_stops OutOfRange = refl
stop_number_stops TooLong = refl
stop_number_stops OutputFull = refl

-- the work that an answer stands for, its value being read as one of the definitions
module _ {T A : Type 0} where
  abbrev pub worked : (T → A) → std.Result (Noted T) Stop → Result A
  worked f (Ok v) = done (f v.value) v.notes
  worked f (Err s) = stop (stop_number s)

  -- an answer that is a value, and one that stops
  pub worked_ok : (f : T → A) {r : std.Result (Noted T) Stop} {v : Noted T} → r ≡ Ok v → worked f r ≡ done (f v.value) v.notes
  worked_ok f e = ap (worked f) e

  pub worked_err : (f : T → A) {r : std.Result (Noted T) Stop} {s : Stop} → r ≡ Err s → worked f r ≡ stop (stop_number s)
  worked_err f e = ap (worked f) e

  -- notes made before
  pub worked_behind : (f : T → A) (n : ℕ) (v : Noted T) → with_notes n (worked f (Ok v)) ≡ done (f v.value) (n + v.notes)
  unfolding with_notes
  worked_behind f n v = refl
