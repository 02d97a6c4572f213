-- What the deck call does: document 01's number, card and table. Assumes nothing.
use Rattle.std.specs.Prelude.{List, [], ◌++◌, ◌≡◌, refl, ℕ, ◌+◌, ◌≤◌, ◌<◌, drop, replicate}
use mathlib.Core.List.{append-nil}
use Rattle.std.proofs.Math.Path.{sym, ap}
use Rattle.std.proofs.Common.{◌∙◌, zero-add}
use Rattle.std.proofs.Math.ListN.{length}
use Rattle.std.proofs.lemmas.List.{length-map, length-replicate}
use borrow.Author.Tests.{lt-ltb, le-ltb}
use Rattle.base.specs.Current.{current, table_size}
use Rattle.base.specs.Limits.{longest_deck}
use Rattle.calls.specs.Accepted.{accepted_is_program}
use Rattle.calls.specs.Calls.{read_call, read_judged}
use Rattle.calls.specs.PromiseLaws.{read_promise}
use Rattle.calls.specs.Promises.{ReadPromise, read_back}
use Rattle.encoding.specs.Conditions.{current_size}
use Rattle.encoding.specs.Splices.{splice, splice_seam}
use Rattle.encoding.specs.Table.{header, image}
use Rattle.encoding.specs.TableLaws.{in_range_lem, image-length}
use Rattle.cards.specs.Entries.{entries}
use Rattle.store.specs.CellLaws.{zeros-front}
use Rattle.validation.specs.Deck.{judge, program_of, program_steps}
use Rattle.validation.specs.Placed.Again.{passed_again}
use Rattle.symbols.specs.Entries.{name_of}
use Rattle.symbols.specs.Environment.{string_keys, number_keys}
use Rattle.symbols.specs.declared.known.Known.{Known}
use Rattle.symbols.specs.declared.known.Symbols.{Symbols}
use Rattle.deck_reader.specs.Judging.{Accepted, DeckJudged}
use Rattle.deck_reader.specs.Steps.{written_at, DeckAccepted}
use Rattle.deck_reader.specs.StepsLaws.{DeckWritten, names_kept}
use Rattle.deck_reader.specs.Writing.{Written, nothing_written, with_steps, counted, with_header, image-written}
use Rattle.deck_reader.specs.Verdicts.{Verdict}
use Rattle.deck_reader.specs.declared.steps.Progress.{Progress}

-- the steps and the header of an accepted deck's program are written
pub record TableWritten (deck : List ℕ) (known : Known) (t t' : List ℕ) : Type 0 where
  pub written : (w : DeckAccepted deck known)
      → t'
      ≡ splice (with_steps (nothing_written t) (program_steps current w.whole 0 (entries current deck))).table 0
      (header (program_of current w.whole (entries current deck)))

-- the deck is judged, and the table left accordingly
pub record DeckRead (deck t : List ℕ) (r : Verdict) (t' : List ℕ) : Type 0 where
  pub is : read_back r.number r.card t' ≡ read_judged current t (judge current deck)
  pub few : r.card ≤ length deck + 1

-- the header is the program's
pub table-written : {deck t : List ℕ} {known : Known} {p : Progress} {known' : Known} {u t' : List ℕ} → DeckWritten deck known t p known' u
    → t' ≡ with_header (written_at p u) (length (string_keys known')) (length (number_keys known'))
    → TableWritten deck known t t'
unfolding with_header header program_of
table-written {deck} {t} {known' = known'} d q =
    record {
      written =
          λ w.
          let steps = program_steps current w.whole 0 (entries current deck) in
          let c = counted (nothing_written t) steps in
          let n = names_kept w.names d.kept in
          let strings = sym (length-map (string_keys known') name_of) ∙ ap length n.strings in
          let numbers = sym (length-map (number_keys known') name_of) ∙ ap length n.numbers in
          q
          ∙ ap (λ (x : Written). with_header x (length (string_keys known')) (length (number_keys known'))) (d.written w)
          ∙ rw (strings, numbers, c.steps ∙ zero-add _, c.elements ∙ zero-add _, c.items ∙ zero-add _, c.literals ∙ zero-add _);
    }

-- an accepted deck with all its names known
pub accepted_whole : {deck : List ℕ} {s : Symbols} → length deck ≤ longest_deck → Accepted deck s → DeckAccepted deck s.known
accepted_whole {deck} small c =
    let h = c.holds in
    record {
      whole = c.known;
      names = record { strings = h.strings; numbers = h.numbers; labels = h.labels; routines = h.routines };
      again = (passed_again c.judging).1;
      fits = in_range_lem current (program_of current c.known (entries current deck)) (accepted_is_program current deck _ small c.is);
    }

-- the whole reading
module _ {deck t : List ℕ} {v : Verdict} {s : Symbols} (small : length deck ≤ longest_deck) (j : DeckJudged deck v s) {u : List ℕ}
    (zeroed : u ≡ splice t 0 (replicate table_size 0)) where
  pub refused_read : (v.number ≡ 0 → ⊥) → DeckRead deck t v u
  unfolding read_judged current
  refused_read z =
      record {
        is = ap (read_back v.number v.card) (zeroed ∙ zeros-front t table_size) ∙ sym (ap (read_judged current t) (j.refuses z));
        few = j.few;
      }

  pub accepted_read : (z : v.number ≡ 0) → {i t' : List ℕ} → TableWritten deck s.known (replicate table_size 0) i → t' ≡ splice u 0 i
      → DeckRead deck t v t'
  unfolding read_judged current program_of accepted_whole
  accepted_read z {i} w e =
      let c = j.accepts z in
      let p = program_of current c.known (entries current deck) in
      let ok = accepted_is_program current deck p small c.is in
      let steps = program_steps current c.known 0 (entries current deck) in
      let blank : List ℕ = replicate table_size 0 in
      let written : i ≡ image current p =
      w.written (accepted_whole small c)
      ∙ ap (λ (x : List ℕ). splice (with_steps (nothing_written x) steps).table 0 (header p)) (sym (append-nil blank))
      ∙ image-written p [] ok
      ∙ append-nil (image current p) in
      let size : length {A = ℕ} (replicate table_size 0) ≡ length (image current p) =
      length-replicate {A = ℕ} table_size 0 ∙ sym (image-length current p ok current_size) in
      let table =
      e
      ∙ ap (λ (x : List ℕ). splice x 0 i) (zeroed ∙ zeros-front t table_size)
      ∙ ap (splice (replicate table_size 0 ++ drop table_size t) 0) written
      ∙ splice_seam [] (replicate table_size 0) (drop table_size t) (image current p) 0 refl size in
      record { is = (λ k. read_back (z k) (j.without z k) (table k)) ∙ sym (ap (read_judged current t) c.is); few = j.few }

-- the call by the sizes of deck and table
module _ (deck table : List ℕ) where
  pub long_deck : longest_deck < length deck → ReadPromise current deck table (read_back 1 0 table)
  unfolding read_call
  long_deck h = read_promise (rw (lt-ltb longest_deck (length deck) h))

  pub small_table : length deck ≤ longest_deck → length table < table_size → ReadPromise current deck table (read_back 2 0 table)
  unfolding read_call current
  small_table h g = read_promise (rw (le-ltb longest_deck (length deck) h, lt-ltb (length table) table_size g))

  pub read-with : {v : Verdict} {t' : List ℕ} {card : ℕ} → length deck ≤ longest_deck → table_size ≤ length table → DeckRead deck table v t' → card ≡ v.card
      → ReadPromise current deck table (read_back v.number card t')
  unfolding read_call current
  read-with {v} {t'} h g r c =
      let judged = read_judged current table (judge current deck) in
      let called : judged ≡ read_call current deck table = rw (le-ltb longest_deck (length deck) h, le-ltb (length table) table_size g) in
      read_promise (ap (λ n. read_back v.number n t') c ∙ r.is ∙ called)
