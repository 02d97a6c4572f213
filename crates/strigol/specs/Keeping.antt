-- What the program keeps of its files. Assumes nothing.
use Rattle.std.specs.Prelude.{List, ℕ, ◌≤◌, Result, IfOk, length}
use Rattle.std.specs.declared.io.Error.{Error}
use Rattle.calls.specs.Strigol.{kept_deck, kept_input}

-- bytes that are kept stand at the start of those lent
abbrev pub FileKept : Result ℕ Error → List ℕ → Type 0
FileKept r to = IfOk r (λ n. n ≤ length to)

-- L15 no more is there of deck and input than is kept
pub record KeptWhole (deck input : List ℕ) : Type 0 where
  pub deck_kept : length deck ≤ kept_deck
  pub input_kept : length input ≤ kept_input
