-- Document 01, "Trade lines tried": what the program `strigol` prints. Assumes nothing.
use Rattle.std.specs.Prelude.{cond, List, [], ◌∷◌, ◌++◌, ℕ, ltb, length, take}
use Rattle.base.specs.Edition.{Edition}
use Rattle.base.specs.Limits.{longest_deck}
use Rattle.base.specs.Text.{bytes}
use Rattle.cards.specs.Bytes.{newline}
use Rattle.validation.specs.Deck.{Judgement, accepted, refused, judge}
use Rattle.machine.specs.Run.{Outcome, FINISHED, STOPPED, SPENT, REFUSED, Ran, run}
use Rattle.machine.specs.State.{fresh}
use Rattle.values.specs.Conversion.{digits}

-- L15 "file `deck` (32,769 bytes kept; a missing file counts as empty), standard input (32,768 bytes kept)"
unfoldable pub kept_deck : ℕ
kept_deck = 32769

unfoldable pub kept_input : ℕ
kept_input = 32768

-- L15 "with 16,384 bytes of output and 1,000,000 steps"
unfoldable pub lent_output : ℕ
lent_output = 16384

unfoldable pub most_steps : ℕ
most_steps = 1000000

unfoldable pub outcome_word : Outcome → List ℕ
outcome_word FINISHED = bytes "FINISHED"
outcome_word STOPPED = bytes "STOPPED"
outcome_word SPENT = bytes "SPENT"
outcome_word REFUSED = bytes "REFUSED"

-- L15 "a line: outcome (FINISHED, STOPPED, SPENT, REFUSED), number or 0, steps done (REFUSED: card), notes"
unfoldable pub closing_line : Outcome → (number steps_or_card notes : ℕ) → List ℕ
closing_line o number steps_or_card notes =
    outcome_word o
    ++ (bytes ","
    ++ (digits number ++ (bytes "," ++ (digits steps_or_card ++ (bytes "," ++ (digits notes ++ (newline ∷ [])))))))

unfoldable pub printed_by : Ran → List ℕ
printed_by r = r.state.output ++ closing_line r.outcome r.number r.steps r.notes

unfoldable pub printed_for : Edition → (input : List ℕ) → Judgement → List ℕ
printed_for e input (accepted p) = printed_by (run e p lent_output most_steps (fresh input))
printed_for e input (refused n card) = closing_line REFUSED n card 0

-- L15 "prints .. the records and a line"
unfoldable pub printed : Edition → (deck input : List ℕ) → List ℕ
printed e deck input =
    let kept = take kept_deck deck in
    cond (ltb longest_deck (length kept)) (closing_line REFUSED 1 0 0)
    (printed_for e (take kept_input input) (judge e kept))
