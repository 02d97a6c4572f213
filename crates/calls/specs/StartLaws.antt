-- What the deck call leaves of an accepted deck holds its program, and what starting leaves holds the machine before its first step.
-- Assumes nothing.
use Rattle.std.specs.Prelude.{Bool, true, false, cond, List, ◌++◌, ◌≡◌, refl, ℕ, ◌+◌, ◌*◌, ◌-◌, ◌≤◌, ◌<◌, ltb, length, drop, replicate}
use Rattle.std.proofs.Common.{sym, ◌∙◌, ap, subst, arith, length-append, ltb-false, le-ltb}
use Rattle.std.proofs.lemmas.List.{length-replicate}
use Rattle.base.specs.Edition.{Edition}
use Rattle.base.specs.Limits.{longest_deck}
use Rattle.validation.specs.Deck.{Judgement, accepted, refused, judge}
use Rattle.validation.specs.Laws.{judge-answers}
use Rattle.syntax.specs.Program.{Program}
use Rattle.machine.specs.State.{fresh_memory, fresh, most_strings}
use Rattle.values.specs.Conversion.{longest_string}
use Rattle.encoding.specs.BufferLaws.{fresh-image}
use Rattle.encoding.specs.Buffers.{store_size, state_size, store_left, state_left, output_left, first_state}
use Rattle.calls.specs.Calls.{read_judged, read_by, read_call, StartCalled, start_call, Buffers, left_of}
use Rattle.calls.specs.Holding.{Holding, left-holds}
use Rattle.calls.specs.Invariant.{fresh_sound}
use Rattle.encoding.specs.ProgramLaws.{Runs}
use Rattle.encoding.specs.Numerals.{bias}
use Rattle.encoding.specs.Rules.{is_program}
use Rattle.calls.specs.StepLaws.{Tabled}
use Rattle.encoding.specs.Table.{image, literals_at}
use Rattle.encoding.specs.TableLaws.{image-length, program_in-image, image_keeps}

-- of an accepted deck, with both sizes right
accepted_table : (e : Edition) (table : List ℕ) (long short : Bool) (p : Program) → (read_by e table long short (accepted p)).number ≡ 0
    → (read_by e table long short (accepted p)).table ≡ image e p ++ drop e.table_size table
unfolding read_judged
accepted_table e table true short p h = absurd (omega arith)
accepted_table e table false true p h = absurd (omega arith)
accepted_table e table false false p h = refl

-- a deck that the deck call accepts is not too long
pub read_short : (e : Edition) (deck table : List ℕ) → (read_call e deck table).number ≡ 0 → length deck ≤ longest_deck
unfolding read_call
read_short e deck table h = ltb-false longest_deck (length deck) (short (ltb longest_deck (length deck)) h)
  where
    short : (long : Bool) → (read_by e table long (ltb (length table) e.table_size) (judge e deck)).number ≡ 0 → long ≡ false
    short true h = absurd (omega arith)
    short false h = refl

-- a deck that gets 0 is accepted
pub read_accepted : (e : Edition) (deck table : List ℕ) → (read_call e deck table).number ≡ 0 → (p : Program) × (judge e deck ≡ accepted p)
unfolding read_call read_judged
read_accepted e deck table = by_sizes (ltb longest_deck (length deck)) (ltb (length table) e.table_size) (judge e deck) refl
  where
    by_sizes : (long short : Bool) (j : Judgement) → judge e deck ≡ j → (read_by e table long short j).number ≡ 0
        → (p : Program) × (judge e deck ≡ accepted p)
    by_sizes true short j is h = absurd (omega arith)
    by_sizes false true j is h = absurd (omega arith)
    by_sizes false false (accepted p) is h = (p, is)
    by_sizes false false (refused n card) is h = absurd (omega (arith, (judge-answers e deck n card is).low))

-- what the deck call leaves of an accepted deck
read_table : (e : Edition) (deck table : List ℕ) (p : Program) → judge e deck ≡ accepted p → (read_call e deck table).number ≡ 0
    → (read_call e deck table).table ≡ image e p ++ drop e.table_size table
unfolding read_call
read_table e deck table p judged h =
    let long = ltb longest_deck (length deck) in
    let short = ltb (length table) e.table_size in
    ap (λ j. (read_by e table long short j).table) judged
    ∙ accepted_table e table long short p (ap (λ j. (read_by e table long short j).number) (sym judged) ∙ h)

module _ (e : Edition) (limit : e.limit < bias) (size : literals_at + 4096 ≤ e.table_size) where
  -- the table that an accepted deck leaves holds its program
  pub read_tabled : (deck table : List ℕ) (p : Program) → is_program e p ≡ true → judge e deck ≡ accepted p
      → (read_call e deck table).number ≡ 0
      → Tabled e p (read_call e deck table).table
  read_tabled deck table p inside judged h =
      let rest = drop e.table_size table in
      let long : e.table_size ≤ length (image e p ++ rest) = omega (arith, length-append (image e p) rest, image-length e p inside size) in
      subst (Tabled e p) (sym (read_table e deck table p judged h))
      (record { size = long; keeps = image_keeps e p rest limit size inside; reads = program_in-image e p rest limit size inside })

-- the buffers that starting leaves, with the output lent
unfoldable pub started_with : (store output : List ℕ) → Buffers
started_with store output =
    record { store = (start_call store).store; state = (start_call store).state; output = output }

-- R12 "32 cells of 1,026 bytes"
cells_size : 1026 * most_strings ≡ store_size
unfolding most_strings
cells_size = refl

-- what starting leaves is what is left of a machine before its first step
started_left : (store input output : List ℕ) → store_size ≤ length store
    → started_with store output ≡ left_of input (record { store = store; state = replicate state_size 0; output = output }) (fresh input)
unfolding started_with start_call store_left state_left output_left first_state fresh fresh_memory
started_left store input output large =
    let zeroed : StartCalled = record { number = 0; store = replicate store_size 0 ++ drop store_size store; state = first_state } in
    let kept : StartCalled = record { number = 14; store = store; state = first_state } in
    let started : start_call store ≡ zeroed = ap (λ t. cond t kept zeroed) (le-ltb (length store) store_size large) in
    let stores : replicate store_size 0 ++ drop store_size store ≡ store_left store (fresh input) =
    ap (λ l. l ++ drop store_size store) (sym (fresh-image most_strings ∙ ap (λ n. replicate n 0) cells_size)) in
    let none-taken : length input - length input ≡ 0 = omega arith in
    let states : first_state ≡ state_left (replicate state_size 0) input (fresh input) = rw none-taken in
    (λ i. record { store = (started i).store; state = (started i).state; output = output })
    ∙ (λ i. record { store = stores i; state = states i; output = output })

-- a store too small stays
pub started_small : (store output : List ℕ) → ltb (length store) store_size ≡ true → (started_with store output).store ≡ store
unfolding started_with start_call
started_small store output q = rw q

-- a store that is large enough holds, once started, the machine before its first step
pub started_holds : (e : Edition) (limit : e.limit < bias) (wide : longest_string ≤ e.limit) (p : Program) (runs : Runs e p)
    (store input output : List ℕ) → store_size ≤ length store
    → Holding e p (length output) input (fresh input) (started_with store output)
started_holds e limit wide p runs store input output large =
    let lent = length output in
    let base : Buffers = record { store = store; state = replicate state_size 0; output = output } in
    subst (Holding e p lent input (fresh input)) (sym (started_left store input output large))
    (left-holds e limit p lent input (fresh input) (fresh_sound e wide p runs lent input) base (length-replicate {A = ℕ} state_size 0) refl)
