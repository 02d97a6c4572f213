-- The answer to a deck by number and card: 0 and 0 of a deck that passes. Assumes nothing.
use Rattle.std.specs.Prelude.{ℕ, Result, Ok, Err}
use Rattle.validation.specs.RefusalNumbers.{refusal_number}
use Rattle.deck_reader.specs.declared.judge.Refused.{Refused}

pub record Verdict : Type 0 where
  pub number : ℕ
  pub card : ℕ

-- of the deck as a whole, at no card
abbrev pub of_deck : ℕ → Verdict
of_deck n = record { number = n; card = 0 }

abbrev pub verdict_of : {T : Type 0} → Result T Refused → Verdict
verdict_of (Ok x) = of_deck 0
verdict_of (Err e) = record { number = refusal_number e.refusal; card = e.card }
