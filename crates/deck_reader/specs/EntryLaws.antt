-- How an entry of the deck is judged from its number. Assumes nothing.
use Rattle.std.specs.Prelude as Std
use Rattle.std.specs.Prelude.{Some, None, Bool, List, ◌∷◌, ◌≡◌, refl, ℕ, ◌+◌, ◌≤◌, eqb, length, drop}
use Rattle.std.proofs.Math.Bool.{true, false, cond}
use Rattle.std.proofs.Common.{subst, ◌∙◌, arith, length-take-le}
use Rattle.std.proofs.Math.Path.{sym, ap}
use Rattle.std.proofs.Math.ListN.{take}
use Rattle.base.specs.Current.{current}
use Rattle.base.specs.Limits.{longest_deck}
use Rattle.cards.specs.Cards as Cards
use Rattle.cards.specs.Entries.{Entry, entries_from}
use Rattle.validation.specs.Deck as Deck
use Rattle.validation.specs.Deck.{judge_from, mentions_of, unresolved}
use Rattle.validation.specs.Environment.{Environment, numbers_of, is_one_of, extend}
use Rattle.validation.specs.Refusals.{read_statement, statement_number}
use Rattle.syntax.specs.Keywords.{leading}
use Rattle.symbols.specs.Holding.{SymbolsHold}
use Rattle.symbols.specs.declared.known.Symbols.{Symbols}
use Rattle.card_reader.specs.Gathering.{Gathers, entry_of}
use Rattle.card_reader.specs.declared.Gathered.{Gathered}
use Rattle.card_reader.specs.declared.PackedStatement.{PackedStatement}
use Rattle.name_checks.specs.HoldLaws.{held-shown, shown-held}
use Rattle.deck_reader.specs.Judging.{Held, Entered, PackedNumbered, EntryNumbered, EntryGoing, EntryJudged}

module _ {text : List ℕ} {e : Gathered} {s : Symbols} where
  -- 3
  pub unsound_numbered : e.sound ≡ false → EntryNumbered text e s 3 s
  unfolding statement_number
  unsound_numbered x =
      record {
        skips = λ _. (sym (ap (λ t. cond t 0 3) x), refl);
        judges =
            λ q _ label w.
            record {
              number =
                  λ taken k h.
                  let bs = take q.length text in
                  let read = read_statement current (is_one_of (numbers_of k)) unresolved label q.whole bs in
                  sym (ap (λ t. statement_number k (leading bs).kind t read) x);
              extended = λ z. absurd (omega arith);
            };
      }

  -- a comment or blank line
  pub skipped_numbered : e.sound ≡ true → e.statement ≡ None → EntryNumbered text e s 0 s
  skipped_numbered x t =
      record { skips = λ _. (sym (ap (λ u. cond u 0 3) x), refl); judges = λ q is. absurd (cc (sym t ∙ is)) }

  -- a sound statement
  pub packed_numbered : {q : PackedStatement} {r : ℕ} {s' : Symbols} → e.sound ≡ true → e.statement ≡ Some q
      → PackedNumbered (take q.length text) q true s r s' → EntryNumbered text e s r s'
  packed_numbered {q} {r} {s'} x f n =
      record {
        skips = λ t. absurd (cc (sym t ∙ f));
        judges =
            λ q' is.
            let same : q ≡ q' = cc (sym f ∙ is) in
            subst (λ (z : PackedStatement). PackedNumbered (take z.length text) z e.sound s r s') same
            (subst (λ t. PackedNumbered (take q.length text) q t s r s') (sym x) n);
      }

-- the entry that the code has gathered
module _ {deck : List ℕ} {from : ℕ} {text : List ℕ} {e : Gathered} (g : Gathers deck from text e) where
  pub entered : {s : Symbols} → Held s from → length deck ≤ longest_deck → Entered text e s
  entered h small q is =
      let p = g.packs q is in (
        omega (arith, p.fits, g.size),
        λ x.
            record {
              label = g.label;
              keyed = p.keyed x;
              taken = from;
              known = h.known;
              holds = h.holds;
              small = omega (arith, length-take-le q.length text (omega (arith, p.fits, g.size)), p.fits);
              room = omega (arith, p.spare, g.inside);
            },
      )

  -- how the entries from here on are judged
  module _ {s s' : Symbols} {number : ℕ} (n : EntryNumbered text e s number s') (card : ℕ) (k : Environment) (h : SymbolsHold s from k) where
    abbrev rest : List Entry
    rest = entries_from current (card + e.lines) (Cards.lines (drop e.next deck))

    abbrev here : Deck.Judged
    here = judge_from current k (entries_from current card (Cards.lines (drop from deck)))

    abbrev from_number : Environment → ℕ → Deck.Judged
    from_number known m = elim (eqb m 0) [ true ↦ judge_from current known rest | false ↦ Deck.Judged.failed m card ]

    gathered : (x : Std.Option PackedStatement) → e.statement ≡ x → here ≡ judge_from current k (entry_of x card e.sound g.label text ∷ rest)
    gathered x is = ap (judge_from current k) (g.entry card) ∙ ap (λ x. judge_from current k (entry_of x card e.sound g.label text ∷ rest)) is

    -- a comment or blank line
    skip_going : e.statement ≡ None → EntryGoing deck from card k e number s'
    unfolding judge_from entry_of
    skip_going t =
        record {
          known = k;
          holds =
              λ _.
              subst (λ (b : Symbols). SymbolsHold b e.next k) (sym (n.skips t).1)
              (subst (SymbolsHold s e.next) (held-shown s from k h) (shown-held s from e.next k (omega (arith, g.onward)) h));
          same = gathered None t ∙ by_sound e.sound ∙ ap (from_number k) (sym (n.skips t).0);
        }
      where
        by_sound : (u : Bool) → elim u [ true ↦ judge_from current k rest | false ↦ Deck.Judged.failed 3 card ] ≡ from_number k (cond u 0 3)
        by_sound true = refl
        by_sound false = refl

    -- a statement
    statement_going : (q : PackedStatement) → e.statement ≡ Some q → EntryGoing deck from card k e number s'
    unfolding judge_from entry_of
    statement_going q is =
        let j = n.judges q is g.label (g.packs q is).keyed in
        let bytes = take q.length text in
        let met = mentions_of (read_statement current (is_one_of (numbers_of k)) unresolved g.label q.whole bytes) in
        let known = extend k (leading bytes).kind met in
        record {
          known = known;
          holds = λ z. j.extended z from k h e.next (g.packs q is).spare;
          same = gathered (Some q) is ∙ ap (from_number known) (sym (j.number from k h));
        }

    going : (x : Std.Option PackedStatement) → e.statement ≡ x → EntryGoing deck from card k e number s'
    going None is = skip_going is
    going (Some q) is = statement_going q is

  pub entry-judged : {s s' : Symbols} {number : ℕ} → EntryNumbered text e s number s' → EntryJudged deck from e s number s'
  entry-judged n = record { goes = λ card k h. going n card k h e.statement refl; paced = g.paced; inside = g.inside }
