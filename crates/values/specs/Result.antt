-- Results: a value with its notes, or the number that stops the work; and which numbers stop a step. Assumes nothing.
use Rattle.std.specs.Prelude.{Bool, ◌||◌, ℕ, ◌+◌, eqb}

-- Q17 "17 to 21 mark the state stopped, no more": the numbers that stop a step; every other but 0 turns it down
unfoldable pub stops_step : ℕ → Bool
stops_step n = eqb n 17 || (eqb n 18 || (eqb n 19 || (eqb n 20 || eqb n 21)))

-- done with a value and so many notes, document 01's word (V4, V12), or stopped by a number that stops a step
pub data Result (A : Type 0) : Type 0 where
  done : A → ℕ → Result A
  stop : ℕ → Result A

module _ {A : Type 0} where
  -- so many notes more, where it is done
  unfoldable pub with_notes : ℕ → Result A → Result A
  with_notes n (done a m) = done a (n + m)
  with_notes n (stop k) = stop k

  unfoldable pub pure : A → Result A
  pure a = done a 0

module _ {A B : Type 0} where
  -- D4 "17 to 21: the first met in order of work": what is done goes on to what comes next, and their notes add up; what is stopped goes no
  -- further, so its number is the first met, and the notes are gone
  infixl 20 ◌>>=◌
  unfoldable pub ◌>>=◌ : Result A → (A → Result B) → Result B
  done a n >>= next = with_notes n (next a)
  stop k >>= next = stop k
