-- Strings appended to what 1,024 bytes keep. Assumes nothing.
use Rattle.std.specs.Prelude.{List, ◌++◌, ◌≡◌, ℕ, ◌≤◌, length, Ok, Err}
use Rattle.base.specs.Current.{table_size}
use Rattle.numbers.specs.Text.{Text}
use Rattle.decoder.specs.Holds.{ElementHolds}
use Rattle.decoder.specs.declared.Element.{Element}
use Rattle.values.specs.Result.{Result, done, stop}
use Rattle.values.specs.Stops.{stop_number}
use Rattle.evaluator.specs.Values.{KeepsValue}

-- where a string was kept, it is kept with v behind it
abbrev pub AppendedBehind : (before after : List ℕ) → ℕ → (v : List ℕ) → Type 0
AppendedBehind before after at v = (u : List ℕ) → length u ≡ at → KeepsValue before u → KeepsValue after (u ++ v)

pub record Appended (before after : List ℕ) (at : ℕ) (v : List ℕ) : Type 0 where
  pub room : length after ≡ 1024
  pub follows : AppendedBehind before after at v

-- an element that can be appended
pub record Addable (table : List ℕ) (x : Element) (out : List ℕ) : Type 0 where
  pub bytes : table_size ≤ length table
  pub holds : ElementHolds x
  pub room : length out ≡ 1024

-- the string that work gives, not longer than a table, was appended at a place
pub record AppendsAll (before after : List ℕ) (at n notes : ℕ) (w : Result (List ℕ)) : Type 0 where
  pub value : List ℕ
  pub work : w ≡ done value notes
  pub size : n ≡ length value
  pub short : n ≤ table_size
  pub follows : AppendedBehind before after at value

abbrev pub AppendedText : Text → (before after : List ℕ) → ℕ → Result (List ℕ) → Type 0
AppendedText (Ok v) before after at w = AppendsAll before after at v.value v.notes w
AppendedText (Err s) before after at w = w ≡ stop (stop_number s)

pub record Appends (r : Text) (before after : List ℕ) (at : ℕ) (w : Result (List ℕ)) : Type 0 where
  pub added : AppendedText r before after at w
  pub room : length after ≡ 1024
