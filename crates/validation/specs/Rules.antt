-- The judgement of a deck as rules, one for each way it may go, and that every deck is judged by them. Assumes nothing.
use Rattle.std.specs.Prelude.{Bool, true, false, not, List, [], ◌∷◌, ◌≡◌, refl, ℕ, ◌≤◌, eqb}
use Rattle.std.specs.Bool.{beq}
use Rattle.std.proofs.Math.Option.{Option}
use Rattle.std.proofs.Common.{subst, arith, ne_eqb}
use Rattle.base.specs.Choice.{cond_cases, neither_true}
use Rattle.base.specs.Edition.{Edition}
use Rattle.cards.specs.Entries.{Entry, skipped, statement, entries}
use Rattle.syntax.specs.Keywords.{StatementKind, PROGRAM, same_kind, leading}
use Rattle.syntax.specs.Program.{Statement, Program}
use Rattle.syntax.specs.Parsing.{Mentions, Parsed, got, broken}
use Rattle.validation.specs.Environment.{Environment, empty_environment, numbers_of, is_one_of, extend}
use Rattle.validation.specs.Refusals.{read_statement, is_misplaced, is6, is7, is8, is9, is10, mentions_number, form_number, statement_number}
use Rattle.validation.specs.Deck.{unresolved, Judged, passed, judge_from, mentions_of, is11, is12, program_of, Judgement, accepted}
use Rattle.validation.specs.Deck.{judgement_of, judge_entries, judge}

-- none of 4 and 6 to 10 applies to a statement that mentions these
pub record Passes (k : Environment) (kind : StatementKind) (m : Mentions) : Type 0 where
  pub not4 : is_misplaced k kind ≡ false
  pub not6 : is6 k m ≡ false
  pub not7 : is7 k m ≡ false
  pub not8 : is8 m ≡ false
  pub not9 : is9 k kind ≡ false
  pub not10 : is10 (extend k kind m) m ≡ false

-- Q4 "a statement follows" END: before a statement that passes END has not been
pub passes_before_end : {k : Environment} {kind : StatementKind} {m : Mentions} → Passes k kind m → k.ended ≡ false
unfolding is_misplaced
passes_before_end {k} {kind} p = (neither_true (not (beq (eqb k.statements 0) (same_kind kind PROGRAM))) k.ended p.not4).1

-- what a statement's number says: one of 3 to 10 turns it down, or it passes with 0
data Numbered (k : Environment) (kind : StatementKind) : Bool → Parsed (Option Statement) → ℕ → Type 0 where
  turned : {sound : Bool} {read : Parsed (Option Statement)} (n : ℕ) → (3 ≤ n) × (n ≤ 10) → Numbered k kind sound read n
  passes : {s : Option Statement} {m : Mentions} {rest : List ℕ} → Passes k kind m → Numbered k kind true (got s m rest) 0

-- every statement's number says so
statement_numbered : (k : Environment) (kind : StatementKind) (sound : Bool) (read : Parsed (Option Statement))
    → Numbered k kind sound read (statement_number k kind sound read)
unfolding statement_number form_number mentions_number
statement_numbered k kind false read = turned 3 (omega arith)
statement_numbered k kind true broken =
    cond_cases (Numbered k kind true broken) (is_misplaced k kind) (λ _. turned 4 (omega arith)) (λ _. turned 5 (omega arith))
statement_numbered k kind true (got s m rest) =
    let P = Numbered k kind true (got s m rest) in
    cond_cases P (is_misplaced k kind) (λ _. turned 4 (omega arith)) (λ h4.
    cond_cases P (is6 k m) (λ _. turned 6 (omega arith)) (λ h6.
    cond_cases P (is7 k m) (λ _. turned 7 (omega arith)) (λ h7.
    cond_cases P (is8 m) (λ _. turned 8 (omega arith)) (λ h8.
    cond_cases P (is9 k kind) (λ _. turned 9 (omega arith)) (λ h9.
    cond_cases P (is10 (extend k kind m) m) (λ _. turned 10 (omega arith)) (λ h10.
    passes (record { not4 = h4; not6 = h6; not7 = h7; not8 = h8; not9 = h9; not10 = h10 })))))))

-- the rules by which entries are judged, from the environment before them
pub data Judging (e : Edition) : Environment → List Entry → Judged → Type 0 where
  ended : {k : Environment} → k.ended ≡ true → Judging e k [] (passed k)
  missing : {k : Environment} → k.ended ≡ false → Judging e k [] (Judged.failed 4 0)
  skips : {k : Environment} {card : ℕ} {es : List Entry} {j : Judged} → Judging e k es j → Judging e k (skipped card true ∷ es) j
  unsound : {k : Environment} {card : ℕ} {es : List Entry} → Judging e k (skipped card false ∷ es) (Judged.failed 3 card)
  turned : {k : Environment} {card : ℕ} {sound : Bool} {label : List ℕ} {whole : Bool} {text : List ℕ} {es : List Entry} (n : ℕ) → (3 ≤ n) × (n ≤ 10)
      → Judging e k (statement card sound label whole text ∷ es) (Judged.failed n card)
  extending : {k : Environment} {card : ℕ} {label : List ℕ} {whole : Bool} {text : List ℕ} {es : List Entry} {j : Judged}
      (s : Option Statement) (m : Mentions) (rest : List ℕ)
      → read_statement e (is_one_of (numbers_of k)) unresolved label whole text ≡ got s m rest
      → Passes k (leading text).kind m
      → Judging e (extend k (leading text).kind m) es j
      → Judging e k (statement card true label whole text ∷ es) j

-- a statement is judged by its number
statement_judging : (e : Edition) (k : Environment) (card : ℕ) (sound : Bool) (label : List ℕ) (whole : Bool) (text : List ℕ) (es : List Entry)
    {read : Parsed (Option Statement)} {n : ℕ}
    → read_statement e (is_one_of (numbers_of k)) unresolved label whole text ≡ read
    → Numbered k (leading text).kind sound read n
    → (j : Judged) → Judging e (extend k (leading text).kind (mentions_of read)) es j
    → Judging e k (statement card sound label whole text ∷ es) (elim (eqb n 0) [ true ↦ j | false ↦ Judged.failed n card ])
unfolding mentions_of
statement_judging e k card sound label whole text es q (Numbered.turned n h) j further =
    rw (ne_eqb n 0 (λ z. omega arith)) (Judging.turned n h)
statement_judging e k card true label whole text es q (passes {s} {m} {rest} p) j further = extending s m rest q p further

-- entries are judged by the rules
pub judging : (e : Edition) (k : Environment) (es : List Entry) → Judging e k es (judge_from e k es)
unfolding judge_from
judging e k [] = cond_cases (Judging e k []) k.ended (λ h. ended h) (λ h. missing h)
judging e k (skipped card true ∷ es) = skips (judging e k es)
judging e k (skipped card false ∷ es) = unsound
judging e k (statement card sound label whole text ∷ es) =
    let kind = (leading text).kind in
    let read = read_statement e (is_one_of (numbers_of k)) unresolved label whole text in
    let next = extend k kind (mentions_of read) in
    statement_judging e k card sound label whole text es refl (statement_numbered k kind sound read) (judge_from e next es) (judging e next es)

-- the rules by which a whole deck is judged
pub data Concluding (e : Edition) (es : List Entry) : Judgement → Type 0 where
  refuses : {n card : ℕ} → Judging e empty_environment es (Judged.failed n card) → Concluding e es (Judgement.refused n card)
  refuses11 : (k : Environment) → Judging e empty_environment es (passed k) → is11 k ≡ true → Concluding e es (Judgement.refused 11 0)
  refuses12 : (k : Environment) → Judging e empty_environment es (passed k) → is11 k ≡ false → is12 k ≡ true
      → Concluding e es (Judgement.refused 12 0)
  accepts : (k : Environment) → Judging e empty_environment es (passed k) → is11 k ≡ false → is12 k ≡ false
      → Concluding e es (accepted (program_of e k es))

-- a deck is judged by the rules
pub concluding : (e : Edition) (deck : List ℕ) → Concluding e (entries e deck) (judge e deck)
unfolding judge judge_entries judgement_of
concluding e deck = concludes (judge_from e empty_environment (entries e deck)) (judging e empty_environment (entries e deck))
  where
    es : List Entry
    es = entries e deck

    concludes : (j : Judged) → Judging e empty_environment es j → Concluding e es (judgement_of e es j)
    concludes (passed k) h =
        cond_cases (Concluding e es) (is11 k) (λ h11. refuses11 k h h11) (λ h11.
        cond_cases (Concluding e es) (is12 k) (λ h12. refuses12 k h h11 h12) (λ h12. accepts k h h11 h12))
    concludes (Judged.failed n card) h = refuses h

-- what holds of the program of every deck that passes holds of an accepted deck's program
pub accepted_program : (e : Edition) (deck : List ℕ) (p : Program) → judge e deck ≡ accepted p → (P : Program → Type 0)
    → ((k : Environment) → Judging e empty_environment (entries e deck) (passed k) → is11 k ≡ false → is12 k ≡ false
    → P (program_of e k (entries e deck)))
    → P p
accepted_program e deck p q P f = concludes (subst (Concluding e (entries e deck)) q (concluding e deck))
  where
    concludes : {p : Program} → Concluding e (entries e deck) (accepted p) → P p
    concludes (accepts k j h11 h12) = f k j h11 h12
