-- What the code asks for, and what it prints. Assumes nothing.
use Rattle.std.specs.Prelude.{cond, List, ◌≡◌, ℕ, ◌+◌, ◌≤◌, eqb, length, take, get_or}
use Rattle.base.specs.Current.{current}
use Rattle.calls.specs.Strigol.{kept_deck, kept_input, lent_output, closing_line, printed}
use Rattle.machine.specs.Run.{Outcome, FINISHED, STOPPED, SPENT, REFUSED}

-- the longest word for an outcome
abbrev pub longest_word : ℕ
longest_word = 8

-- the longest closing line: a word, three numbers and a line end
abbrev pub longest_line : ℕ
longest_line = 72

-- the outcome that a number stands for
unfoldable pub outcome_of : ℕ → Outcome
outcome_of n = cond (eqb n 0) FINISHED (cond (eqb n 1) STOPPED (cond (eqb n 2) SPENT REFUSED))

-- the closing line of a result: outcome, number, steps or card, notes
unfoldable pub line_of : List ℕ → List ℕ
line_of result = closing_line (outcome_of (get_or result 0 0)) (get_or result 1 0) (get_or result 2 0) (get_or result 3 0)

-- L15 a deck and an input of which no more is kept, and room for all that is printed
pub record BatchLent (deck input out : List ℕ) : Type 0 where
  pub kept_deck_lem : length deck ≤ kept_deck
  pub kept_input_lem : length input ≤ kept_input
  pub room : length out ≡ lent_output + longest_line

-- L15 the first r bytes are what the program prints
pub record Prints (deck input out : List ℕ) (r : ℕ) : Type 0 where
  pub within : r ≤ length out
  pub bytes : take r out ≡ printed current deck input
