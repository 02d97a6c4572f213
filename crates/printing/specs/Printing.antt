-- What it is that bytes were put, and the text of three numbers. Assumes nothing.
use Rattle.std.specs.Prelude.{List, [], ◌∷◌, ◌++◌, ◌≡◌, ℕ, ◌+◌, ◌≤◌, length, take}
use Rattle.base.specs.Text.{bytes}
use Rattle.cards.specs.Bytes.{newline}
use Rattle.values.specs.Conversion.{digits}

-- a comma and a number of 64 bits
abbrev pub longest_number : ℕ
longest_number = 21

-- three of these and a line end
abbrev pub longest_numbers : ℕ
longest_numbers = 64

-- bytes were put behind the first ones, which stay; where they end. What stands behind them may be any
pub record Put (before after : List ℕ) (at : ℕ) (xs : List ℕ) (end : ℕ) : Type 0 where
  pub ends : end ≡ at + length xs
  pub within : end ≤ length after
  pub holds : take end after ≡ take at before ++ xs
  pub size : length after ≡ length before

-- and they are so many at most
pub record PutWithin (most : ℕ) (before after : List ℕ) (at : ℕ) (xs : List ℕ) (end : ℕ) : Type 0 where
  pub put : Put before after at xs end
  pub short : end ≤ at + most

-- three numbers, each behind a comma, and a line end
unfoldable pub numbers_text : (first second third : ℕ) → List ℕ
numbers_text first second third =
    bytes "," ++ (digits first ++ (bytes "," ++ (digits second ++ (bytes "," ++ (digits third ++ (newline ∷ []))))))
