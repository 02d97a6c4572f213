-- Every answer of a deck's judgement is in range; an accepted program keeps its counts, and its last step finishes. Assumes nothing.
use Rattle.std.specs.Prelude.{Bool, true, false, ◌||◌, List, [], ◌∷◌, ◌++◌, map, ◌≡◌, refl, ℕ, suc, ◌+◌, ◌≤◌, ltb, eqb, length, drop}
use Rattle.std.proofs.lemmas.Bool.{false≢true}
use Rattle.std.proofs.Math.Option.{Option, none, some}
use Rattle.std.proofs.Common.{sym, ◌∙◌, subst, subst₂, arith, length-append, ltb-false}
use Rattle.base.specs.Choice.{test_cases, cond_cases, neither_true}
use Rattle.base.specs.Edition.{Edition}
use Rattle.base.specs.Limits as Limits
use Rattle.base.specs.Lists.{any, keep}
use Rattle.cards.specs.Bytes.{is_blank, slash}
use Rattle.cards.specs.Cards.{Unpacked, lines, is_comment, is_blank_line, column9, joined, unpacked_from}
use Rattle.cards.specs.Entries.{Entry, skipped, statement, packed_entry, entries_from, entries}
use Rattle.syntax.specs.Forms.{statement_form, form_of, step_form}
use Rattle.syntax.specs.Keywords.{END, same_kind, leading}
use Rattle.syntax.specs.Laws.{same_kind_lem}
use Rattle.syntax.specs.Placed.{Each}
use Rattle.syntax.specs.Program.{Statement, finish, Step, Program, is_finish, last_finishes}
use Rattle.syntax.specs.Parsing.{Mentions, Parsed, got, broken, mentioning, succeed, end_of_text, ◌>>=◌}
use Rattle.syntax.specs.Lexemes.{Resolution}
use Rattle.validation.specs.Environment.{Environment, empty_environment, strings_of, numbers_of, names_for, is_one_of, extend}
use Rattle.validation.specs.Refusals.{label_form, with_label, read_statement, is10}
use Rattle.validation.specs.Deck.{unresolved, Judged, passed, step_read, program_steps, resolution, program_of, Judgement, accepted, judge}
use Rattle.validation.specs.Rules.{
  passes_before_end,
  Judging,
  ended,
  missing,
  skips,
  unsound,
  turned,
  extending,
  Concluding,
  refuses,
  refuses11,
}
use Rattle.validation.specs.Rules.{refuses12, concluding, accepted_program}
pub mod Cards

-- the cards are lines 1 to n
data CardsIn (n : ℕ) : List Entry → Type 0 where
  empty : CardsIn n []
  line : {card : ℕ} {sound : Bool} {es : List Entry} → 1 ≤ card → card ≤ n → CardsIn n es → CardsIn n (skipped card sound ∷ es)
  form : {card : ℕ} {sound : Bool} {label : List ℕ} {complete : Bool} {text : List ℕ} {es : List Entry} → 1 ≤ card → card ≤ n → CardsIn n es
      → CardsIn n (statement card sound label complete text ∷ es)

-- so are those of lines before they are packed
abbrev UnpackedIn : ℕ → List Unpacked → Type 0
UnpackedIn n us = CardsIn n (map packed_entry us)

-- a line joined to what comes behind it is their card
joined_cards : (e : Edition) (n card : ℕ) (bs : List ℕ) (us : List Unpacked) → 1 ≤ card → card ≤ n → UnpackedIn n us
    → UnpackedIn n (joined e card bs us)
unfolding joined packed_entry
joined_cards e n card bs [] low high h = form low high h
joined_cards e n card bs (Unpacked.skipped c s ∷ us) low high h = form low high h
joined_cards e n card bs (Unpacked.statement c s label text ∷ us) low high (form _ _ h) = form low high h

-- the cards of some lines, the last of which has number n
entries_cards : (e : Edition) (n first : ℕ) (ls : List (List ℕ)) → 1 ≤ first → first + length ls ≤ suc n
    → CardsIn n (entries_from e first ls)
unfolding entries_from unpacked_from packed_entry
entries_cards e n first [] low high = empty
entries_cards e n first (bs ∷ ls) low high =
    let inside : first ≤ n = omega arith in
    let h = entries_cards e n (suc first) ls (omega arith) (omega arith) in
    cond_cases (UnpackedIn n) (is_comment bs || is_blank_line e bs) (λ _. line low inside h) (λ _.
    cond_cases (UnpackedIn n) (is_blank (column9 e bs)) (λ _. form low inside h) (λ _.
    cond_cases (UnpackedIn n) (eqb (column9 e bs) slash) (λ _. form low inside h) (λ _.
    joined_cards e n first bs (unpacked_from e (suc first) ls) low inside h)))

-- a number 3 to 12 with a card: D3 "0 for .. 11, 12 and a missing END", else one of the lines
pub record CardRange (last n card : ℕ) : Type 0 where
  pub low : 3 ≤ n
  pub high : n ≤ 12
  pub line : card ≤ last
  pub whole : 11 ≤ n → card ≡ 0
  pub part : card ≡ 0 → ¬ (n ≡ 4) → 11 ≤ n

-- entries turned down get such a number and card
entries_answer : {e : Edition} {k : Environment} {es : List Entry} {last n card : ℕ} → CardsIn last es
    → Judging e k es (Judged.failed n card) → CardRange last n card
entries_answer h (missing _) = omega arith
entries_answer (line low high h) (skips j) = entries_answer h j
entries_answer (line low high h) unsound = omega arith
entries_answer (form low high h) (turned n t) = omega arith
entries_answer (form low high h) (extending s m rest q p j) = entries_answer h j

-- a deck turned down gets such a number and card
deck_answers : {e : Edition} {es : List Entry} {last n card : ℕ} → CardsIn last es → Concluding e es (Judgement.refused n card)
    → CardRange last n card
deck_answers h (refuses j) = entries_answer h j
deck_answers h (refuses11 k j h11) = omega arith
deck_answers h (refuses12 k j h11 h12) = omega arith

-- D3 the number and card of a deck turned down
pub judge-answers : (e : Edition) (deck : List ℕ) (n c : ℕ) → judge e deck ≡ Judgement.refused n c → CardRange (length (lines deck)) n c
unfolding entries
judge-answers e deck n c q =
    let cards = entries_cards e (length (lines deck)) 1 (lines deck) (omega arith) (omega arith) in
    deck_answers cards (subst (Concluding e (entries e deck)) q (concluding e deck))

-- Q10 the counts of a deck behind some statements
pub record CountsHold (k : Environment) : Type 0 where
  pub statements : k.statements ≤ Limits.statements
  pub strings : length (strings_of k) ≤ Limits.strings
  pub numbers : length (numbers_of k) ≤ Limits.numbers
  pub labels : length k.labels ≤ Limits.labels
  pub routines : length k.routines ≤ Limits.routines
  pub elements : k.elements ≤ Limits.elements
  pub items : k.items ≤ Limits.items
  pub literals : k.literals ≤ Limits.literals

-- rows that do not pass their limit
rows_few : (ns : List ℕ) → any (ltb Limits.row_elements) ns ≡ false → Each (λ n. n ≤ Limits.row_elements) ns
unfolding any Each
rows_few [] h = tt
rows_few (n ∷ ns) h =
    let parts = neither_true (ltb Limits.row_elements n) (any (ltb Limits.row_elements) ns) h in
    (ltb-false Limits.row_elements n parts.0, rows_few ns parts.1)

-- where 10 does not apply the counts hold, and no expression has too many elements
pub not10_few : (k : Environment) (m : Mentions) → is10 k m ≡ false → CountsHold k × Each (λ n. n ≤ Limits.row_elements) m.rows
unfolding is10
not10_few k m h =
    let h1 = neither_true _ _ h in
    let h2 = neither_true _ _ h1.1 in
    let h3 = neither_true _ _ h2.1 in
    let h4 = neither_true _ _ h3.1 in
    let h5 = neither_true _ _ h4.1 in
    let h6 = neither_true (any (ltb Limits.row_elements) m.rows) _ h5.1 in
    let h7 = neither_true _ _ h6.1 in
    let h8 = neither_true _ _ h7.1 in (
      record {
        statements = ltb-false _ _ h1.0;
        strings = ltb-false _ _ h2.0;
        numbers = ltb-false _ _ h3.0;
        labels = ltb-false _ _ h4.0;
        routines = ltb-false _ _ h5.0;
        elements = ltb-false _ _ h7.0;
        items = ltb-false _ _ h8.0;
        literals = ltb-false _ _ h8.1;
      },
      rows_few m.rows h6.0,
    )

-- at first nothing is counted
nothing_counted : CountsHold empty_environment
unfolding empty_environment strings_of numbers_of names_for keep
nothing_counted = omega arith

-- entries that pass keep the counts
passed_counts : {e : Edition} {k after : Environment} {es : List Entry} → CountsHold k → Judging e k es (passed after) → CountsHold after
passed_counts h (ended _) = h
passed_counts h (skips j) = passed_counts h j
passed_counts h (extending {k} {text} s m rest q p j) = passed_counts (not10_few (extend k (leading text).kind m) m p.not10).0 j

-- a statement read is at most one step
one-step : (card : ℕ) (read : Parsed (Option Statement)) → length (step_read card read) ≤ 1
unfolding step_read
one-step card (got (some s) m rest) = omega arith
one-step card (got none m rest) = omega arith
one-step card broken = omega arith

-- entries that pass make no more steps than statements
passed_steps : {e : Edition} {k after : Environment} {es : List Entry} → Judging e k es (passed after) → (whole : Environment) (n : ℕ)
    → length (program_steps e whole n es) + k.statements ≤ after.statements
unfolding program_steps extend
passed_steps (ended _) whole n = omega arith
passed_steps (skips j) whole n = passed_steps j whole n
passed_steps {e} (extending {k} {card} {label} {whole = complete} {text} s m rest q p j) whole n =
    let read = read_statement e (is_one_of (numbers_of whole)) (resolution whole (suc n)) label complete text in
    let one = one-step card read in
    let more = passed_steps j whole (elim (step_read card read) [ [] ↦ n | s ∷ ss ↦ suc n ]) in
    simp length-append (omega arith)

-- a statement that only finishes is such a step where it is read
finish_step : (card : ℕ) (label : Parsed (Unit {0})) (whole : Bool) (bs : List ℕ) (s : Option Statement) (m : Mentions) (rest : List ℕ)
    → with_label label whole (step_form finish bs) ≡ got s m rest
    → step_read card (with_label label whole (step_form finish bs)) ≡ record { card = card; statement = finish } ∷ []
unfolding with_label mentioning step_form end_of_text succeed ◌>>=◌ step_read
finish_step card (got u n left) true [] s m rest q = refl
finish_step card (got u n left) true (b ∷ bs) s m rest q = let z : ◌≡◌ {A = ℕ} 0 1 = cc in absurd (omega arith)
finish_step card (got u n left) false bs s m rest q = let z : ◌≡◌ {A = ℕ} 0 1 = cc in absurd (omega arith)
finish_step card broken whole bs s m rest q = let z : ◌≡◌ {A = ℕ} 0 1 = cc in absurd (omega arith)

-- END is a step that finishes, whatever the places and numbers are
end_step : (e : Edition) (is_number is_number' : List ℕ → Bool) (at at' : Resolution) (card : ℕ) (label : List ℕ) (complete : Bool)
    (text : List ℕ) (s : Option Statement) (m : Mentions) (rest : List ℕ) → (leading text).kind ≡ END
    → read_statement e is_number at label complete text ≡ got s m rest
    → step_read card (read_statement e is_number' at' label complete text) ≡ record { card = card; statement = finish } ∷ []
unfolding read_statement statement_form form_of
end_step e is_number is_number' at at' card label complete text s m rest end q =
    let bs = drop (leading text).size text in
    rw end (finish_step card (label_form label) complete bs s m rest (rw end at q))

-- a last step finishes whatever stands before it
last_behind : (ss ts : List Step) → last_finishes ts ≡ true → last_finishes (ss ++ ts) ≡ true
unfolding last_finishes
last_behind [] ts h = h
last_behind (s ∷ []) [] h = absurd (false≢true h)
last_behind (s ∷ []) (t ∷ ts) h = h
last_behind (s ∷ (r ∷ ss)) ts h = last_behind (r ∷ ss) ts h

-- behind END no step comes
passed_nothing : {e : Edition} {k after : Environment} {es : List Entry} → k.ended ≡ true → Judging e k es (passed after)
    → (whole : Environment) (n : ℕ)
    → program_steps e whole n es ≡ []
unfolding program_steps
passed_nothing h (ended _) whole n = refl
passed_nothing h (skips j) whole n = passed_nothing h j whole n
passed_nothing h (extending {k} s m rest q p j) whole n = absurd (false≢true (sym (passes_before_end p) ∙ h))

-- entries that pass with no END before them make steps whose last finishes
passed_finishes : {e : Edition} {k after : Environment} {es : List Entry} → k.ended ≡ false → Judging e k es (passed after)
    → (whole : Environment) (n : ℕ)
    → last_finishes (program_steps e whole n es) ≡ true
unfolding program_steps extend last_finishes is_finish
passed_finishes before (ended h) whole n = absurd (false≢true (sym before ∙ h))
passed_finishes before (skips j) whole n = passed_finishes before j whole n
passed_finishes {e} before (extending {k} {card} {label} {whole = complete} {text} {es} s m rest q p j) whole n =
    let kind = (leading text).kind in
    let is_number = is_one_of (numbers_of whole) in
    let at = resolution whole (suc n) in
    let read = step_read card (read_statement e is_number at label complete text) in
    let next : ℕ = elim read [ [] ↦ n | s ∷ ss ↦ suc n ] in
    test_cases (λ _. last_finishes (read ++ program_steps e whole next es) ≡ true) (same_kind kind END)
    (λ end.
    let here = end_step e (is_one_of (numbers_of k)) is_number unresolved at card label complete text s m rest (same_kind_lem kind END end) q in
    subst₂ (λ ss ts. last_finishes (ss ++ ts) ≡ true) (sym here) (sym (passed_nothing end j whole next)) refl)
    (λ inner. last_behind read (program_steps e whole next es) (passed_finishes inner j whole next))

-- Q10 an accepted program has at most 256 steps, 32 strings and 32 numbers
pub accepted_counts : (e : Edition) (deck : List ℕ) (p : Program) → judge e deck ≡ accepted p
    → (length p.steps ≤ Limits.statements) × (p.strings ≤ Limits.strings) × (p.numbers ≤ Limits.numbers)
unfolding program_of empty_environment
accepted_counts e deck p q =
    accepted_program e deck p q
    (λ p. (length p.steps ≤ Limits.statements) × (p.strings ≤ Limits.strings) × (p.numbers ≤ Limits.numbers)) (λ k j _ _.
    let counts = passed_counts nothing_counted j in
    let steps = passed_steps j k 0 in
    (omega arith, counts.strings, counts.numbers))

-- the last step of an accepted program finishes: it is that of END
pub accepted_finishes : (e : Edition) (deck : List ℕ) (p : Program) → judge e deck ≡ accepted p → last_finishes p.steps ≡ true
unfolding program_of empty_environment
accepted_finishes e deck p q =
    accepted_program e deck p q (λ p. last_finishes p.steps ≡ true) (λ k j _ _. passed_finishes refl j k 0)
