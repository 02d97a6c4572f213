-- The counts of 10 hold behind a deck that passes, and the card of every step of an accepted program is one of the deck's lines, of which
-- there are no more than bytes. Assumes nothing.
use Rattle.std.specs.Prelude.{true, false, List, [], ◌∷◌, ◌≡◌, ℕ, suc, ◌≤◌, eqb, length}
use Rattle.std.proofs.Math.Option.{Option, none, some}
use Rattle.std.proofs.Common.{arith}
use Rattle.base.specs.Choice.{test_cases}
use Rattle.base.specs.Edition.{Edition}
use Rattle.cards.specs.Bytes.{newline}
use Rattle.cards.specs.Cards.{on_first, lines}
use Rattle.cards.specs.Entries.{Entry, entries}
use Rattle.syntax.specs.Placed.{Each, each_map, each-join}
use Rattle.syntax.specs.Program.{Statement, Step, Program}
use Rattle.syntax.specs.Parsing.{Parsed, got, broken}
use Rattle.validation.specs.Environment.{Environment, empty_environment, numbers_of, is_one_of}
use Rattle.validation.specs.Refusals.{read_statement}
use Rattle.validation.specs.Deck.{passed, step_read, program_steps, resolution, program_of, accepted, judge}
use Rattle.validation.specs.Laws.{CardsIn, empty, line, form, entries_cards, CountsHold, nothing_counted, passed_counts}
use Rattle.validation.specs.Rules.{Judging, accepted_program}

-- the counts of a deck that passes
pub deck_counts : {e : Edition} {k : Environment} {es : List Entry} → Judging e empty_environment es (passed k) → CountsHold k
deck_counts j = passed_counts nothing_counted j

-- a byte makes at most one line
lines_few : (deck : List ℕ) → length (lines deck) ≤ length deck
unfolding lines on_first
lines_few [] = omega arith
lines_few (b ∷ deck) =
    let few = lines_few deck in
    test_cases (λ t. length {A = List ℕ} (elim t [ true ↦ [] ∷ lines deck | false ↦ on_first b (lines deck) ]) ≤ suc (length deck))
    (eqb b newline) (λ _. omega arith) (λ _. first_few (lines deck) few)
  where
    first_few : (ls : List (List ℕ)) → length ls ≤ length deck → length (on_first b ls) ≤ suc (length deck)
    first_few [] h = omega arith
    first_few (l ∷ ls) h = omega arith

-- a step has the card of its statement
step_card : (n card : ℕ) (read : Parsed (Option Statement)) → card ≤ n → Each (λ (s : Step). s.card ≤ n) (step_read card read)
unfolding step_read Each
step_card n card (got (some s) m rest) h = (h, tt)
step_card n card (got none m rest) h = tt
step_card n card broken h = tt

-- steps have the cards of the entries
steps_cards : (e : Edition) (k : Environment) {n : ℕ} {es : List Entry} → CardsIn n es → (i : ℕ)
    → Each (λ (s : Step). s.card ≤ n) (program_steps e k i es)
unfolding program_steps Each
steps_cards e k empty i = tt
steps_cards e k (line low high h) i = steps_cards e k h i
steps_cards e k {n} (form {card} {label} {complete} {text} low high h) i =
    let read = step_read card (read_statement e (is_one_of (numbers_of k)) (resolution k (suc i)) label complete text) in
    each-join (λ (s : Step). s.card ≤ n) read _ (step_card n card _ high) (steps_cards e k h (elim read [ [] ↦ i | s ∷ ss ↦ suc i ]))

-- the card of a step is at most the number of bytes
pub accepted_cards : (e : Edition) (deck : List ℕ) (p : Program) → judge e deck ≡ accepted p
    → Each (λ (s : Step). s.card ≤ length deck) p.steps
unfolding program_of entries
accepted_cards e deck p q =
    accepted_program e deck p q (λ p. Each (λ (s : Step). s.card ≤ length deck) p.steps) (λ k _ _ _.
    let n = length (lines deck) in
    let few = lines_few deck in
    each_map (λ s h. omega arith) (program_steps e k 0 (entries e deck))
    (steps_cards e k (entries_cards e n 1 (lines deck) (omega arith) (omega arith)) 0))
