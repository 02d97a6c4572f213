-- The program of every accepted deck is in range: a table can hold it. Assumes nothing.
use Rattle.std.specs.Prelude.{Bool, true, false, cond, ◌||◌, List, [], ◌∷◌, ◌++◌, ◌≡◌, refl, ℕ, suc, ◌+◌, ◌^◌, ◌≤◌, length}
use Rattle.std.proofs.Common.{true≢false, sym, ◌∙◌, ap, subst, arith, length-append, lt-ltb, le-leb, ne_eqb}
use Rattle.std.proofs.lemmas.Bool.{false≢true}
use Rattle.std.proofs.Math.Bool.{and-eq-true_iff}
use Rattle.std.proofs.Math.Option.{Option, none, some}
use Rattle.base.specs.Choice.{test_cases, both_pass}
use Rattle.base.specs.Edition.{Edition}
use Rattle.base.specs.Limits as Limits
use Rattle.base.specs.Limits.{longest_deck}
use Rattle.base.specs.Lists.{same, any, all, total}
use Rattle.base.specs.ListLaws.{same_true, same_refl}
use Rattle.cards.specs.Entries.{Entry, entries}
use Rattle.validation.specs.Deck.{index_of, resolution, step_read, program_steps, program_of, accepted, judge}
use Rattle.validation.specs.Environment.{Environment, empty_environment, strings_of, numbers_of, names_for, is_step, extend}
use Rattle.validation.specs.Laws.{not10_few, accepted_counts, accepted_finishes}
use Rattle.validation.specs.Laws.Cards.{deck_counts, accepted_cards}
use Rattle.validation.specs.Names.{names_for_lem}
use Rattle.validation.specs.Placed.{NamesOf, deck_sizes}
use Rattle.validation.specs.Placed.Again.{IsStep, Again, ends, past, reads, passed_again}
use Rattle.validation.specs.Refusals.{is8}
use Rattle.validation.specs.Rules.{accepted_program}
use Rattle.syntax.specs.Keywords.{leading}
use Rattle.syntax.specs.Placed.{Each, PlacedBy}
use Rattle.syntax.specs.Program.{Statement, Step, Program}
use Rattle.syntax.specs.Parsing.{for_string, Mentions, Parsed, got}
use Rattle.calls.specs.Literals.{TextWhole, entries-whole}
use Rattle.encoding.specs.Rules.{statement_holds, step_holds, is_program}
use Rattle.encoding.specs.Table.{elements_of, items_of, all_elements, all_items, all_literals}
use Rattle.calls.specs.Producing.{view_of, LiteralsFit}
use Rattle.calls.specs.ProducingForms.{FormedOrNone, statement_produces}
use Rattle.encoding.specs.TableLiterals.{all-literals-append}
use Rattle.calls.specs.ProducingRoles.{Distinct}

-- names that stand at one place in a list are equal
index_injective : (ws : List (List ℕ)) (m n : List ℕ) → any (same m) ws ≡ true → any (same n) ws ≡ true → index_of m ws ≡ index_of n ws
    → m ≡ n
unfolding index_of any
index_injective [] m n h g q = absurd (false≢true h)
index_injective (w ∷ ws) m n h g q =
    let i = index_of m ws in
    let j = index_of n ws in
    test_cases
    (λ t. (t || any (same m) ws) ≡ true
    → ◌≡◌ {A = ℕ} (elim t [ true ↦ 0 | false ↦ suc i ]) (elim (same n w) [ true ↦ 0 | false ↦ suc j ]) → m ≡ n)
    (same m w)
    (λ mw _. test_cases (λ t. ◌≡◌ {A = ℕ} 0 (elim t [ true ↦ 0 | false ↦ suc j ]) → m ≡ n) (same n w)
    (λ nw _. same_true m w mw ∙ sym (same_true n w nw)) (λ _ q. absurd (omega arith)))
    (λ _ h. test_cases
    (λ t. (t || any (same n) ws) ≡ true → ◌≡◌ {A = ℕ} (suc i) (elim t [ true ↦ 0 | false ↦ suc j ]) → m ≡ n) (same n w)
    (λ _ _ q. absurd (omega arith)) (λ _ g q. index_injective ws m n h g (omega arith)) g)
    h q

-- strings of other names have other places
places_distinct : (k : Environment) (i : ℕ) → Distinct (NamesOf k) (resolution k i)
unfolding resolution strings_of
places_distinct k i m n h g differ =
    let ws = names_for for_string k.names in
    ne_eqb (index_of m ws) (index_of n ws) (λ q.
    let equal = index_injective ws m n (names_for_lem for_string m k.names ∙ h) (names_for_lem for_string n k.names ∙ g) q in
    true≢false (sym (same_refl n) ∙ ap (same n) (sym equal) ∙ differ))

-- statements name only strings, numbers and steps of which there are so many, and are in range
abbrev pub StatementsHold : Edition → (strings numbers steps : ℕ) → List Step → Type 0
StatementsHold e s n k ss = all (λ (a : Step). statement_holds e s n k a.statement) ss ≡ true

-- steps that come behind these counts, make up the deck's and hold
record Sound (e : Edition) (whole : Environment) (steps elements items literals : ℕ) (ss : List Step) : Type 0 where
  all-steps : steps + length ss ≡ whole.steps
  all-elements : elements + length (all_elements ss) ≡ whole.elements
  all-items : items + length (all_items ss) ≡ whole.items
  all-literals : literals + length (all_literals (all_elements ss)) ≡ whole.literals
  holds : StatementsHold e (length (strings_of whole)) (length (numbers_of whole)) whole.steps ss

-- a statement goes before the steps behind it
statement_sound : (e : Edition) (whole : Environment) (step : Bool) (s : Option Statement) (m : Mentions) (rest : List ℕ) (card n el it li : ℕ)
    (more : ℕ → List Step) → IsStep step s → FormedOrNone e (deck_sizes whole) s (view_of m) → is8 m ≡ false
    → Sound e whole (cond step (suc n) n) (el + total (λ n. n) m.rows) (it + m.items) (li + m.literals) (more (cond step (suc n) n))
    → Sound e whole n el it li (step_read card (got s m rest) ++ more (elim (step_read card (got s m rest)) [ [] ↦ n | s ∷ ss ↦ suc n ]))
unfolding step_read view_of is8 all_elements all_items all
statement_sound e whole true none m rest card n el it li more step h not8 sound = absurd step
statement_sound e whole true (some a) m rest card n el it li more step h not8 sound =
    let ss = more (suc n) in
    let elements = length-append (elements_of a) (all_elements ss) in
    let literals =
    ap length (all-literals-append (elements_of a) (all_elements ss))
    ∙ length-append (all_literals (elements_of a)) (all_literals (all_elements ss)) in
    let items = length-append (items_of a) (all_items ss) in
    record {
      all-steps = omega arith;
      all-elements = omega arith;
      all-items = omega arith;
      all-literals = omega arith;
      holds = both_pass (h.3 not8) sound.holds;
    }
statement_sound e whole false none m rest card n el it li more step h not8 sound =
    record {
      all-steps = omega arith;
      all-elements = omega arith;
      all-items = omega arith;
      all-literals = omega arith;
      holds = sound.holds;
    }
statement_sound e whole false (some a) m rest card n el it li more step h not8 sound = absurd step

-- entries that pass make steps that hold, with as many elements, items and literal bytes as were counted
again_sound : {e : Edition} {whole k : Environment} {es : List Entry}
    → ((n : ℕ) → PlacedBy (NamesOf whole) (deck_sizes whole) (resolution whole n)) → Each TextWhole es → Again e whole k es
    → Sound e whole k.steps k.elements k.items k.literals (program_steps e whole k.steps es)
unfolding program_steps extend resolution all_elements all_items all_literals all Each
again_sound placed texts ends =
    record { all-steps = omega arith; all-elements = omega arith; all-items = omega arith; all-literals = omega arith; holds = refl }
again_sound placed texts (past j) = again_sound placed texts.1 j
again_sound {e} {whole} placed texts (reads {k} {card} {label} {complete} {text} {es} s m rest q step p used next j) =
    let kind = (leading text).kind in
    let fit : LiteralsFit (NamesOf whole) m = record { used = used; rows = (not10_few (extend k kind m) m p.not10).1 } in
    let form =
    statement_produces e (placed (suc k.steps)) _ label complete text texts.0 s m rest next (places_distinct whole (suc k.steps)) q fit in
    subst
    (λ (read : Parsed (Option Statement)).
    Sound e whole k.steps k.elements k.items k.literals
    (step_read card read ++ program_steps e whole (elim (step_read card read) [ [] ↦ k.steps | s ∷ ss ↦ suc k.steps ]) es))
    (sym q)
    (statement_sound e whole (is_step kind) s m rest card k.steps k.elements k.items k.literals (λ n. program_steps e whole n es)
    step form p.not8 (again_sound placed texts.1 j))

-- a program's totals and statements are in range
pub record TotalsHold (e : Edition) (p : Program) : Type 0 where
  pub elements : length (all_elements p.steps) ≤ Limits.elements
  pub items : length (all_items p.steps) ≤ Limits.items
  pub literals : length (all_literals (all_elements p.steps)) ≤ Limits.literals
  pub holds : StatementsHold e p.strings p.numbers (length p.steps) p.steps

-- those of an accepted program are
pub accepted_totals : (e : Edition) (deck : List ℕ) (p : Program) → judge e deck ≡ accepted p → TotalsHold e p
unfolding program_of empty_environment
accepted_totals e deck p q =
    accepted_program e deck p q (TotalsHold e) (λ k j _ _.
    let again = passed_again j in
    let few = deck_counts j in
    let sound = again_sound again.0 (entries-whole e deck) again.1 in
    let ss = program_steps e k 0 (entries e deck) in
    let count : k.steps ≡ length ss = omega arith in
    record {
      elements = omega arith;
      items = omega arith;
      literals = omega arith;
      holds = subst (λ n. StatementsHold e (length (strings_of k)) (length (numbers_of k)) n ss) count sound.holds;
    })

-- steps hold where their cards are below 2 ^ 16 and their statements hold
steps_hold_lem : (e : Edition) (s n k size : ℕ) → size ≤ longest_deck → (ss : List Step) → Each (λ (a : Step). a.card ≤ size) ss
    → StatementsHold e s n k ss → all (step_holds e s n k) ss ≡ true
unfolding all step_holds Each
steps_hold_lem e s n k size short [] cards h = refl
steps_hold_lem e s n k size short (a ∷ ss) cards h =
    let parts = (and-eq-true_iff (statement_holds e s n k a.statement) _).0 h in
    let first = cards.0 in
    both_pass (both_pass (lt-ltb a.card (2 ^ 16) (omega arith)) parts.0) (steps_hold_lem e s n k size short ss cards.1 parts.1)

-- the program of every accepted deck is in range
pub accepted_is_program : (e : Edition) (deck : List ℕ) (p : Program) → length deck ≤ longest_deck → judge e deck ≡ accepted p
    → is_program e p ≡ true
unfolding is_program
accepted_is_program e deck p short q =
    let counts = accepted_counts e deck p q in
    let range = accepted_totals e deck p q in
    let steps =
    steps_hold_lem e p.strings p.numbers (length p.steps) (length deck) short p.steps (accepted_cards e deck p q) range.holds in
    both_pass (le-leb _ _ counts.1) (both_pass (le-leb _ _ counts.2) (both_pass (le-leb _ _ counts.0)
    (both_pass (le-leb _ _ range.elements) (both_pass (le-leb _ _ range.items) (both_pass (le-leb _ _ range.literals)
    (both_pass (accepted_finishes e deck p q) steps))))))
