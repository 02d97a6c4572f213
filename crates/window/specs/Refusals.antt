-- The numbers of the calls: why one is turned down, and 0 where it isn't. Assumes nothing.
use Rattle.std.specs.Prelude.{ℕ, Result, Ok, Err}
use Rattle.window.specs.declared.Refusal.{Refusal}
use Rattle.window.specs.declared.Refusal.TheVariants.{BadWindow, BadPrice}

-- W13.4 and W13.5: each number with what it is given for
abbrev pub refusal_number : Refusal → ℕ
refusal_number BadWindow = 14
refusal_number BadPrice = 25

-- the number that comes back of a call
abbrev pub number_of : {A : Type 0} → Result A Refusal → ℕ
number_of (Ok _) = 0
number_of (Err refusal) = refusal_number refusal
