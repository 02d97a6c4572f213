-- Counts of bytes at a place of a text. Assumes nothing.
use Rattle.std.specs.Prelude.{Option, Some, None, List, ◌≡◌, ℕ, ◌+◌, ◌-◌, ◌≤◌, length, drop}
use Rattle.syntax.specs.Keywords.{bound_length}
use Rattle.syntax.specs.Lexemes.{name_length}

-- n is this count of bytes, and so many stand there
pub record CountedBytes (text : List ℕ) (at count n : ℕ) : Type 0 where
  pub is : n ≡ count
  pub inside : n ≤ length text - at

-- n bytes are the name at a place, 0 for none
pub record NameAt (text : List ℕ) (at n : ℕ) : Type 0 where
  pub is : n ≡ name_length (drop at text)
  pub short : n ≤ 8
  pub inside : n ≤ length text - at

-- the code's answer: so many bytes are the name at a place, or there is none
abbrev pub NameFound : List ℕ → ℕ → Option ℕ → Type 0
NameFound text at (Some n) = NameAt text at n × (1 ≤ n)
NameFound text at None = NameAt text at 0

-- the same of what may stand behind `$`
abbrev pub BoundAt : List ℕ → (at n : ℕ) → Type 0
BoundAt text at = CountedBytes text at (bound_length (drop at text))

abbrev pub BoundFound : List ℕ → ℕ → Option ℕ → Type 0
BoundFound text at (Some n) = BoundAt text at n × (1 ≤ n)
BoundFound text at None = BoundAt text at 0

-- the name at a place has n bytes
pub record NameStands (text : List ℕ) (at n : ℕ) : Type 0 where
  pub is : n ≡ name_length (drop at text)
  pub inside : at + n ≤ length text
