-- Where a line ends, and what its marks say. Assumes nothing.
use Rattle.std.specs.Prelude.{Bool, not, ◌&&◌, ◌||◌, List, ◌∷◌, ◌≡◌, ℕ, ◌+◌, ◌-◌, ◌≤◌, eqb, length, take, drop}
use Rattle.base.specs.Current.{current}
use Rattle.cards.specs.Bytes.{is_blank, slash}
use Rattle.cards.specs.Cards.{lines, is_comment, is_blank_line}

-- the first line of what begins at from ends at end
pub record LineEnds (deck : List ℕ) (from end : ℕ) : Type 0 where
  pub low : from ≤ end
  pub high : end ≤ length deck
  pub first : lines (drop from deck) ≡ take (end - from) (drop from deck) ∷ lines (drop (end + 1) deck)

-- C4: a comment, or blank in 1-72
unfoldable pub is_skipped : List ℕ → Bool
is_skipped line = is_comment line || is_blank_line current line

-- C5, Q3: a byte in column 9 that joins the next line
unfoldable pub joins : ℕ → Bool
joins b = not (is_blank b) && not (eqb b slash)
