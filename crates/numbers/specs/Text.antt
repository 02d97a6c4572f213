-- The text that the code writes, as document 01 has it. Assumes nothing.
use Rattle.std.specs.Prelude as std
use Rattle.std.specs.Prelude.{List, ◌++◌, ◌≡◌, ℕ, ◌+◌, ◌≤◌, ℤ, nat_abs, length, take, replicate, Ok, Err}
use Rattle.std.proofs.lemmas.List.Edits.{sets}
use Rattle.values.specs.Conversion.{sign_of, digits, text_of}
use Rattle.values.specs.Result.{Result}
use Rattle.values.specs.Stops as Stops
use Rattle.values.specs.declared.Noted.{Noted}
use Rattle.values.specs.declared.Stop.{Stop}
use Rattle.numbers.specs.declared.Int.{Int}
use Rattle.numbers.specs.Numbers.{IntInRange}

-- the bytes of the longest string
abbrev pub longest_text : ℕ
longest_text = 1024

-- bytes were stored from a position on; where they end
pub record DigitsStored (before after : List ℕ) (at : ℕ) (bytes : List ℕ) (end : ℕ) : Type 0 where
  pub ends : end ≡ at + length bytes
  pub holds : after ≡ sets before at bytes

-- the sign of m, a byte so many times, and the digits of m
unfoldable pub filled_text : (m : ℤ) (byte count : ℕ) → List ℕ
filled_text m byte count = sign_of m ++ (replicate count byte ++ digits (nat_abs m))

-- that text of a number in range has room
pub record TextRoom (m : Int) (byte count : ℕ) : Type 0 where
  pub number : IntInRange m
  pub room : length (filled_text m.value byte count) ≤ longest_text

-- what writing a text answers: its length with the notes made, or what stops the step
abbrev pub Text : Type 0
Text = std.Result (Noted ℕ) Stop

-- the work that an answer and the bytes written stand for
abbrev pub text_worked : Text → List ℕ → Result (List ℕ)
text_worked r bytes = Stops.worked (λ (n : ℕ). take n bytes) r

-- a text is within the bytes; where there is none they are as before
abbrev pub Settled : Text → (before after : List ℕ) → Type 0
Settled (Ok size) before after = size.value ≤ longest_text
Settled (Err s) before after = after ≡ before

-- two numbers in range, and 1,024 bytes to write to
pub record TextWritable (n m : Int) (out : List ℕ) : Type 0 where
  pub left : IntInRange n
  pub right : IntInRange m
  pub room : length out ≡ longest_text

-- STRING(n,m) was written at the start of 1,024 bytes; those behind it may be any
pub record TextWritten (n m : ℤ) (r : Text) (before after : List ℕ) : Type 0 where
  pub text : text_worked r after ≡ text_of n m
  pub settled : Settled r before after
  pub room : length after ≡ longest_text
