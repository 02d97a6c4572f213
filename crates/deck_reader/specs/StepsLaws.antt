-- How the steps of a deck come to be written one after the other. Assumes nothing.
use Rattle.std.specs.Prelude as Std
use Rattle.std.specs.Prelude.{Some, None, Bool, true, false, List, [], ◌∷◌, ◌++◌, ◌≡◌, drop}
use Rattle.std.proofs.Math.Bool.{cond}
use Rattle.std.proofs.Math.Option.{Option, none, some}
use Rattle.std.proofs.Math.Path.{refl, sym, ap}
use Rattle.std.proofs.Common.{subst, ◌∙◌}
use Prim.Native.Nat.{ℕ, suc, ◌+◌, ◌≤◌, ◌<◌}
use Rattle.std.proofs.Math.Nat.{add-zero}
use native.Mathlib.Omega.{arith}
use Rattle.std.proofs.Math.ListN.{length, take}
use Rattle.base.specs.Current.{current}
use Rattle.base.specs.Limits.{longest_deck}
use Rattle.branch_parser.specs.Places.{is_number_known}
use Rattle.cards.specs.Cards as Cards
use Rattle.encoding.specs.TableLaws.{ProgramInRange}
use Rattle.cards.specs.Entries.{Entry, skipped, statement, entries_from, entries}
use Rattle.validation.specs.Deck.{program_steps, step_read, index_of, step_of, routine_named, resolution, program_of}
use Rattle.validation.specs.Environment.{Environment, empty_environment, numbers_of, is_one_of, is_step, extend}
use Rattle.validation.specs.Placed.Again.{Again, past, reads, IsStep}
use Rattle.validation.specs.Refusals.{read_statement}
use Rattle.syntax.specs.Keywords.{leading}
use Rattle.syntax.specs.Program.{Statement, Step}
use Rattle.syntax.specs.Parsing.{Mentions, got}
use Rattle.symbols.specs.Environment.{labels_in, routines_in, places_in}
use Rattle.symbols.specs.declared.Mentioned.{Mentioned}
use Rattle.symbols.specs.declared.known.Known.{Known}
use Rattle.card_reader.specs.Gathering.{Gathers, entry_of}
use Rattle.card_reader.specs.LineLaws.{entries-behind}
use Rattle.card_reader.specs.declared.Gathered.{Gathered}
use Rattle.card_reader.specs.declared.PackedStatement.{PackedStatement}
use Rattle.deck_reader.specs.Steps.{written_at, statement_steps, StepOrNoneWritten, Resumes, EntryWritten, entries_left, steps_left, PackedWritten, passed_by, GatheredWritten}
use Rattle.deck_reader.specs.Steps.{next_at, NamesKnown, StepWritten, DeckAccepted, CountsSmall, Writable}
use Rattle.deck_reader.specs.Writing.{Written, nothing_written, with_steps, counted}
use Rattle.deck_reader.specs.declared.steps.Progress.{Progress}

-- a statement read again
pub record Reread (whole k : Environment) (sound : Bool) (label : List ℕ) (complete : Bool) (text : List ℕ) (es : List Entry) : Type 0 where
  pub value : Option Statement
  pub met : Mentions
  pub rest : List ℕ
  pub is : read_statement current (is_one_of (numbers_of whole)) (resolution whole (suc k.steps)) label complete text ≡ got value met rest
  pub step : IsStep (is_step (leading text).kind) value
  pub again : Again current whole (extend k (leading text).kind met) es
  pub whether : sound ≡ true

again_statement : {whole k : Environment} {card : ℕ} {sound : Bool} {label : List ℕ} {complete : Bool} {text : List ℕ} {es : List Entry}
    → Again current whole k (statement card sound label complete text ∷ es) → Reread whole k sound label complete text es
again_statement (reads s m rest q step p used next j) =
    record { value = s; met = m; rest = rest; is = q; step = step; again = j; whether = refl }

again_skipped : {whole k : Environment} {card : ℕ} {sound : Bool} {es : List Entry}
    → Again current whole k (skipped card sound ∷ es) → Again current whole k es
again_skipped (past j) = j

-- the steps known behind a statement
extended_steps : (k : Environment) (card : ℕ) (text : List ℕ) (m : Mentions) (v : Option Statement) → IsStep (is_step (leading text).kind) v
    → (extend k (leading text).kind m).steps ≡ k.steps + length (statement_steps card v)
unfolding extend
extended_steps k card text m v i = counted (is_step (leading text).kind) v i
  where
    counted : (t : Bool) (v : Option Statement) → IsStep t v → cond t (suc k.steps) k.steps ≡ k.steps + length (statement_steps card v)
    counted true none i = absurd i
    counted true (some s) i = omega arith
    counted false none i = omega arith
    counted false (some s) i = absurd i

-- the step that a statement makes, and those behind it
steps_behind : (whole : Environment) (n card : ℕ) (sound : Bool) (label : List ℕ) (complete : Bool) (text : List ℕ) (es : List Entry)
    (v : Option Statement) {m : Mentions} {rest : List ℕ}
    → read_statement current (is_one_of (numbers_of whole)) (resolution whole (suc n)) label complete text ≡ got v m rest
    → program_steps current whole n (statement card sound label complete text ∷ es)
    ≡ statement_steps card v ++ program_steps current whole (n + length (statement_steps card v)) es
unfolding program_steps step_read
steps_behind whole n card sound label complete text es none q =
    ap {B = List Step} (λ x. let read = step_read card x in read ++ program_steps current whole (elim read [ [] ↦ n | s ∷ ss ↦ suc n ]) es) q
    ∙ ap (λ i. program_steps current whole i es) (sym (add-zero n))
steps_behind whole n card sound label complete text es (some s) q =
    let next : suc n ≡ n + 1 = omega arith in
    ap {B = List Step} (λ x. let read = step_read card x in read ++ program_steps current whole (elim read [ [] ↦ n | s ∷ ss ↦ suc n ]) es) q
    ∙ ap (λ i. record { card = card; statement = s } ∷ program_steps current whole i es) next

-- what a statement writes, and the steps behind it
written_behind : (w : Written) (card : ℕ) (v : Option Statement) (ss : List Step)
    → with_steps w (statement_steps card v ++ ss) ≡ with_steps (with_steps w (statement_steps card v)) ss
unfolding with_steps
written_behind w card none ss = refl
written_behind w card (some s) ss = refl

module _ {known : Known} {whole : Environment} (k : NamesKnown known whole) where
  -- the places of the names are those of the whole deck
  places_known : places_in known ≡ resolution whole known.next
  unfolding places_in resolution
  places_known =
      λ t.
      record {
        string = λ n. index_of n (k.strings t);
        number = λ n. index_of n (k.numbers t);
        label = step_of (k.labels t);
        entry = λ n. (routine_named (k.routines t) n).entry;
        exit = λ n. (routine_named (k.routines t) n).exit;
        next = known.next;
      }

  -- what the code reads with is what the deck's program is read with
  read_again : (n : ℕ) → known.next ≡ n → (label : List ℕ) (complete : Bool) (text : List ℕ)
      → read_statement current (is_number_known known) (places_in known) label complete text
      ≡ read_statement current (is_one_of (numbers_of whole)) (resolution whole n) label complete text
  read_again n e label complete text =
      ap (λ (ns : List (List ℕ)). read_statement current (is_one_of ns) (places_in known) label complete text) k.numbers
      ∙ ap (λ at. read_statement current (is_one_of (numbers_of whole)) at label complete text) (places_known ∙ ap (resolution whole) e)

  -- with another next step they are the same
  pub names_kept : {known' : Known} → known' ≡ next_at known known'.next → NamesKnown known' whole
  unfolding labels_in routines_in
  names_kept e =
      subst (λ (z : Known). NamesKnown z whole) (sym e)
      (record { strings = k.strings; numbers = k.numbers; labels = k.labels; routines = k.routines })

-- the entry that the code has gathered
module _ {deck text : List ℕ} {e : Gathered} {p : Progress} (g : Gathers deck p.from text e) (whole : Environment) (again : Resumes deck whole p) where
  abbrev rest : List Entry
  rest = entries_from current (p.card + e.lines) (Cards.lines (drop e.next deck))

  gathered : {x : Std.Option PackedStatement} → e.statement ≡ x → entries_left deck p ≡ entry_of x p.card e.sound g.label text ∷ rest
  gathered is = g.entry p.card ∙ ap (λ x. entry_of x p.card e.sound g.label text ∷ rest) is

  pub skipped_written : (t : List ℕ) → e.statement ≡ None → EntryWritten deck whole p t (passed_by p e p) t
  unfolding entry_of program_steps
  skipped_written t s =
      let here : entries_left deck p ≡ skipped p.card e.sound ∷ rest = gathered s in
      record {
        onward = ap (λ es. with_steps (written_at p t) (program_steps current whole p.steps es)) here;
        again =
            record {
              run = again.run;
              reads = again_skipped (subst (Again current whole again.run) here again.reads);
              steps = again.steps;
            };
        further = g.onward;
        inside = g.inside;
        paced = omega (arith, g.paced);
      }

  module _ (q : PackedStatement) (is : e.statement ≡ Some q) where
    abbrev bytes : List ℕ
    bytes = take q.length text

    here : entries_left deck p ≡ statement p.card e.sound g.label q.whole bytes ∷ rest
    unfolding entry_of
    here = gathered is

    reread : Reread whole again.run e.sound g.label q.whole bytes rest
    reread = again_statement (subst (Again current whole again.run) here again.reads)

    read : read_statement current (is_one_of (numbers_of whole)) (resolution whole (suc p.steps)) g.label q.whole bytes
        ≡ got reread.value reread.met reread.rest
    read =
        ap (λ n. read_statement current (is_one_of (numbers_of whole)) (resolution whole (suc n)) g.label q.whole bytes) (sym again.steps)
        ∙ reread.is

    module _ {t t' : List ℕ} {r : Progress} where
      to-written : StepOrNoneWritten reread.value p t r t' → EntryWritten deck whole p t (passed_by p e r) t'
      to-written w =
          record {
            onward =
                ap (with_steps (written_at p t))
                (ap (program_steps current whole p.steps) here
                ∙ steps_behind whole p.steps p.card e.sound g.label q.whole bytes rest reread.value read
                ∙ ap (λ n. own ++ program_steps current whole n rest) (sym steps))
                ∙ written_behind (written_at p t) p.card reread.value (steps_left deck whole (passed_by p e r))
                ∙ ap (λ z. with_steps z (steps_left deck whole (passed_by p e r))) (sym w.written);
            again =
                record {
                  run = extend again.run (leading bytes).kind reread.met;
                  reads = reread.again;
                  steps =
                      extended_steps again.run p.card bytes reread.met reread.value reread.step
                      ∙ ap (λ n. n + length own) again.steps
                      ∙ sym steps;
                };
            further = g.onward;
            inside = g.inside;
            paced = omega (arith, g.paced);
          }
        where
          own : List Step
          own = statement_steps p.card reread.value

          steps : r.steps ≡ p.steps + length own
          steps = ap (λ (z : Written). z.steps) w.written ∙ (counted (written_at p t) own).steps

      pub statement_written : {known : Known} → NamesKnown known whole → known.next ≡ p.steps + 1
          → PackedWritten bytes known q p t r t' → EntryWritten deck whole p t (passed_by p e r) t'
      statement_written k next w =
          let n : p.steps + 1 ≡ suc p.steps = omega arith in
          to-written
          (w g.label ((g.packs q is).keyed reread.whether) reread.value reread.met reread.rest
          (read_again k (suc p.steps) (next ∙ n) g.label q.whole bytes ∙ read))

-- an entry of an accepted deck is written as it was gathered
pub gathered_steps : {deck text : List ℕ} {known : Known} {m : Mentioned} {e : Gathered} {p : Progress} {t : List ℕ} {r : Progress}
    {known' : Known} {m' : Mentioned} {t' : List ℕ} → Gathers deck p.from text e → GatheredWritten text known m e.statement p t r known' m' t'
    → StepWritten deck known p t (passed_by p e r) known' t'
gathered_steps {deck} {known = known} {e = e} {p} {t} {r} {known'} {t' = t'} g w = by_entry e.statement refl
  where
    by_entry : (x : Std.Option PackedStatement) → e.statement ≡ x → StepWritten deck known p t (passed_by p e r) known' t'
    by_entry None s =
        let x = w.skips s in
        record {
          kept = x.2 ∙ ap (λ (z : Known). next_at known z.next) (sym x.2);
          written =
              λ whole _ again.
              subst (λ (z : Progress). EntryWritten deck whole p t (passed_by p e z) t') (sym x.0)
              (subst (λ (z : List ℕ). EntryWritten deck whole p t (passed_by p e p) z) (sym x.1) (skipped_written g whole again t s));
        }
    by_entry (Some q) f =
        let x = w.writes q f in
        let next : known'.next ≡ p.steps + 1 = ap (λ (z : Known). z.next) x.0 in
        let kept : known' ≡ next_at known known'.next = x.0 ∙ ap (next_at known) (sym next) in
        record { kept = kept; written = λ whole k again. statement_written g whole again q f (names_kept k kept) next x.1 }

-- the entry that is gathered can be written
pub gathered_writable : {deck text : List ℕ} {from : ℕ} {e : Gathered} → Gathers deck from text e → length deck ≤ longest_deck → Writable text e.statement
gathered_writable g small q is =
    let p = g.packs q is in (p.fits, omega (arith, p.fits, g.size), omega (arith, p.spare, g.inside))

-- the steps of the deck are written as those from here on are
pub record Ongoing (deck t₀ : List ℕ) (whole : Environment) (p : Progress) (t : List ℕ) : Type 0 where
  pub again : Resumes deck whole p
  pub same : with_steps (nothing_written t₀) (program_steps current whole 0 (entries current deck))
      ≡ with_steps (written_at p t) (steps_left deck whole p)
  pub inside : p.from ≤ length deck + 1
  pub few : p.card ≤ p.from + 1

-- all steps of the deck are written; of what is known the next step alone is another
pub record DeckWritten (deck : List ℕ) (known : Known) (t : List ℕ) (r : Progress) (known' : Known) (t' : List ℕ) : Type 0 where
  pub kept : known' ≡ next_at known known'.next
  pub written : (w : DeckAccepted deck known)
      → written_at r t' ≡ with_steps (nothing_written t) (program_steps current w.whole 0 (entries current deck))

-- before the first line
abbrev first : Progress
first = record { from = 0; card = 1; steps = 0; elements = 0; items = 0; literals = 0 }

pub ongoing_none : {deck : List ℕ} {known : Known} (t₀ : List ℕ) (w : DeckAccepted deck known) → Ongoing deck t₀ w.whole first t₀
unfolding entries empty_environment
ongoing_none t₀ w =
    record {
      again = record { run = empty_environment; reads = w.again; steps = refl };
      same = refl;
      inside = omega arith;
      few = omega arith;
    }

module _ {deck t₀ : List ℕ} {whole : Environment} {p : Progress} {t : List ℕ} (o : Ongoing deck t₀ whole p t) where
  pub ongoing_small : ProgramInRange current (program_of current whole (entries current deck)) → p.from < length deck → length deck ≤ longest_deck → CountsSmall p
  unfolding program_of
  ongoing_small f h small =
      let all = counted (nothing_written t₀) (program_steps current whole 0 (entries current deck)) in
      let left = counted (written_at p t) (steps_left deck whole p) in
      record {
        items = omega (arith, f.items, all.items, left.items, ap (λ (w : Written). w.items) o.same);
        elements = omega (arith, f.elements, all.elements, left.elements, ap (λ (w : Written). w.elements) o.same);
        literals = omega (arith, f.literals, all.literals, left.literals, ap (λ (w : Written). w.literals) o.same);
        steps = omega (arith, f.steps, all.steps, left.steps, ap (λ (w : Written). w.steps) o.same);
        card = omega (arith, o.few);
      }

  pub ongoing_more : {known : Known} {r : Progress} {known' : Known} {t' : List ℕ} → NamesKnown known whole
      → StepWritten deck known p t r known' t' → Ongoing deck t₀ whole r t' × (p.from < r.from)
  ongoing_more k w =
      let e = w.written whole k o.again in
      (record { again = e.again; same = o.same ∙ e.onward; inside = e.inside; few = omega (arith, e.paced, o.few) }, e.further)

  -- behind the last line there are no steps
  pub ongoing_ends : length deck ≤ p.from
      → written_at p t ≡ with_steps (nothing_written t₀) (program_steps current whole 0 (entries current deck))
  unfolding with_steps program_steps
  ongoing_ends h =
      sym (o.same ∙ ap (λ es. with_steps (written_at p t) (program_steps current whole p.steps es)) (entries-behind deck p.from h p.card))
