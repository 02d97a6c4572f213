-- What the code's answers stand for. Assumes nothing.
use Rattle.std.specs.Prelude as std
use Rattle.std.proofs.Common.{Bor}
use Rattle.std.specs.Prelude.{Bool, List, ◌≡◌, ℕ, ◌-◌, ◌≤◌, ℤ, length, take, Ok, Err}
use Rattle.base.specs.Current.{current}
use Rattle.numbers.specs.Text.{Text}
use Rattle.values.specs.Conversion.{number_of, is_numeric}
use Rattle.values.specs.Result.{Result, done, stop, pure, ◌>>=◌}
use Rattle.values.specs.Stops.{stop_number, worked}
use Rattle.values.specs.declared.Noted.{Noted}
use Rattle.values.specs.declared.Stop.{Stop}

-- work gives these bytes, no more than a string has, with these notes
pub record GivesBytes (r : Noted (Bor (List ℕ))) (w : Result (List ℕ)) : Type 0 where
  pub work : w ≡ done r.value.now r.notes
  pub short : length r.value.now ≤ 1024

-- work that gives a string, and then NUMBER of it, or whether it is numeric
abbrev pub then_number : Result (List ℕ) → Result ℤ
then_number w = w >>= λ s. number_of current s

abbrev pub then_numeric : Result (List ℕ) → Result Bool
then_numeric w = w >>= λ s. pure (is_numeric s)

-- 1,024 bytes keep a string: all of it, or its first 1,024 bytes if it is longer
abbrev pub KeepsValue : (out v : List ℕ) → Type 0
KeepsValue out v = take (length v) out ≡ take 1024 v

-- the string that a string expression gives: its length, its notes, and what is kept of it
pub record ValueSpells (n notes : ℕ) (out : List ℕ) (w : Result (List ℕ)) : Type 0 where
  pub value : List ℕ
  pub work : w ≡ done value notes
  pub size : n ≡ length value
  pub kept : KeepsValue out value

abbrev pub ValueSpelt : Text → (out : List ℕ) → Result (List ℕ) → Type 0
ValueSpelt (Ok v) out w = ValueSpells v.value v.notes out w
ValueSpelt (Err s) out w = w ≡ stop (stop_number s)

-- with a buffer as long as before
pub record ValueWritten (r : Text) (out : List ℕ) (w : Result (List ℕ)) : Type 0 where
  pub spelt : ValueSpelt r out w
  pub room : length out ≡ 1024

-- what a test answers: whether it holds with the notes made, or what stops the step
abbrev pub Truth : Type 0
Truth = std.Result (Noted Bool) Stop

-- the work that a test's answer stands for
abbrev pub truth_worked : Truth → Result Bool
truth_worked r = worked (λ (holds : Bool). holds) r
