-- The numbers of the calls: why one is turned down, and 0 where it isn't. Assumes nothing.
use Rattle.std.specs.Prelude.{ℕ, Result, Ok, Err}
use Rattle.register.specs.declared.Refusal.{Refusal}
use Rattle.register.specs.declared.Refusal.TheVariants.{BadBuffer, OutputFull, BadLine, ContractHeld, Full, BadCurrency}

-- W2.7, W4.5 and W10.6: each number with what it is given for
abbrev pub refusal_number : Refusal → ℕ
refusal_number BadBuffer = 14
refusal_number OutputFull = 21
refusal_number BadLine = 25
refusal_number ContractHeld = 26
refusal_number Full = 27
refusal_number BadCurrency = 29

-- the number that comes back of a call
abbrev pub number_of : {A : Type 0} → Result A Refusal → ℕ
number_of (Ok _) = 0
number_of (Err refusal) = refusal_number refusal
