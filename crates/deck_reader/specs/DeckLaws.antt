-- How the whole deck is judged, entry after entry. Assumes nothing.
use Rattle.std.specs.Prelude.{Bool, List, ◌≡◌, refl, ℕ, ◌+◌, ◌≤◌, ◌<◌, length, drop}
use Rattle.std.proofs.Math.Bool.{true, false, cond}
use Rattle.std.proofs.Common.{sym, ap₂, subst, ◌∙◌, arith, ne_eqb, eq-eqb}
use Rattle.std.proofs.Math.Path.{ap}
use Rattle.base.specs.Current.{current}
use Rattle.base.specs.Limits.{longest_deck}
use Rattle.cards.specs.Cards as Cards
use Rattle.cards.specs.Entries.{entries_from, entries}
use Rattle.link_checks.specs.Held.{Closable}
use Rattle.link_checks.specs.HeldLaws.{closable, held_11, held_12}
use Rattle.validation.specs.Deck as Deck
use Rattle.validation.specs.Deck.{Judgement, accepted, judge, judge_entries, judgement_of, judge_from, passed, is11, is12, program_of}
use Rattle.validation.specs.Environment.{Environment, empty_environment}
use Rattle.validation.specs.Rules as Rules
use Rattle.validation.specs.Rules.{judging}
use Rattle.symbols.specs.Holding.{SymbolsHold}
use Rattle.symbols.specs.declared.known.Symbols.{Symbols}
use Rattle.card_reader.specs.LineLaws.{entries-behind}
use Rattle.card_reader.specs.declared.Gathered.{Gathered}
use Rattle.deck_reader.specs.Judging.{Held, EntryJudged, Passed, ended_in, closed_in, StatementsJudged, DeckJudged}
use Rattle.deck_reader.specs.Verdicts.{Verdict, of_deck}

-- the deck is judged as its entries from here on are, from what the symbol table holds; so many lines are behind
pub record DeckJudging (deck : List ℕ) (s : Symbols) (from card : ℕ) : Type 0 where
  pub known : Environment
  pub holds : SymbolsHold s from known
  pub same : judge_from current empty_environment (entries current deck)
      ≡ judge_from current known (entries_from current card (Cards.lines (drop from deck)))
  pub inside : from ≤ length deck + 1
  pub few : card ≤ from + 1

pub judging_held : {deck : List ℕ} {s : Symbols} {from card : ℕ} → DeckJudging deck s from card → Held s from
judging_held j = record { known = j.known; holds = j.holds }

-- before the first line
pub judging_none : {deck : List ℕ} {s : Symbols} → SymbolsHold s 0 empty_environment → DeckJudging deck s 0 1
unfolding entries
judging_none h = record { known = empty_environment; holds = h; same = refl; inside = omega arith; few = omega arith }

module _ {deck : List ℕ} {s : Symbols} {from card : ℕ} (j : DeckJudging deck s from card) where
  -- behind an entry that passes
  pub judging_more : {e : Gathered} {r : ℕ} {s' : Symbols} → EntryJudged deck from e s r s' → r ≡ 0 → DeckJudging deck s' e.next (card + e.lines)
  judging_more {r = r} p z =
      let g = p.goes card j.known j.holds in
      record {
        known = g.known;
        holds = g.holds z;
        same = j.same ∙ rw (eq-eqb r 0 z) at g.same;
        inside = p.inside;
        few = omega (arith, p.paced, j.few);
      }

  -- at an entry that is refused
  pub judging_refused : {e : Gathered} {r : ℕ} {s' b : Symbols} → EntryJudged deck from e s r s' → (r ≡ 0 → ⊥) → from < length deck
      → StatementsJudged deck (record { number = r; card = card }) b
  judging_refused {r = r} p z h =
      record {
        refuses = λ _. j.same ∙ rw (ne_eqb r 0 z) at (p.goes card j.known j.holds).same;
        passes = λ y. absurd (z y);
        few = omega (arith, j.few);
      }

  -- behind the last entry
  pub judging_ends : {r : Verdict} → length deck ≤ longest_deck → length deck ≤ from → r ≡ ended_in s.known → StatementsJudged deck r s
  unfolding judge_from
  judging_ends small h e =
      subst (λ (v : Verdict). StatementsJudged deck v s) (sym e)
      (by_end s.known.ended
      (j.same
      ∙ ap (judge_from current j.known) (entries-behind deck from h card)
      ∙ ap (λ t. cond t (passed j.known) (Deck.Judged.failed 4 0)) (sym j.holds.ended)))
    where
      by_end : (t : Bool) → judge_from current empty_environment (entries current deck) ≡ cond t (passed j.known) (Deck.Judged.failed 4 0)
          → StatementsJudged deck (cond t (of_deck 0) (of_deck 4)) s
      by_end true is =
          record {
            refuses = λ z. absurd (z refl);
            passes = λ _. record { known = j.known; taken = from; holds = j.holds; few = omega (arith, j.inside); is = is };
            few = omega arith;
          }
      by_end false is = record { refuses = λ _. is; passes = λ z. absurd (omega arith); few = omega arith }

-- the judgement of the deck from that of its statements
judged_by : (deck : List ℕ) {j : Deck.Judged} → judge_from current empty_environment (entries current deck) ≡ j
    → judge current deck ≡ judgement_of current (entries current deck) j
unfolding judge judge_entries
judged_by deck e = ap (judgement_of current (entries current deck)) e

-- refused by 3 to 10
pub deck_refused : {deck : List ℕ} {v : Verdict} {s b : Symbols} → StatementsJudged deck v s → (v.number ≡ 0 → ⊥) → DeckJudged deck v b
unfolding judgement_of
deck_refused {deck} j z =
    record { refuses = λ _. judged_by deck (j.refuses z); accepts = λ e. absurd (z e); few = j.few; without = λ e. absurd (z e) }

module _ {deck : List ℕ} {s : Symbols} (p : Passed deck s) where
  abbrev k : Environment
  k = p.known

  -- what the code asks is the environment
  pub passed_closable : Closable s
  passed_closable = closable s p.taken k p.holds p.few

  -- refused by 11, by 12, or not at all
  pub deck_closed : {v : Verdict} → v ≡ closed_in s → DeckJudged deck v s
  unfolding judgement_of
  deck_closed e =
      subst (λ (v : Verdict). DeckJudged deck v s)
      (sym (e
      ∙ ap₂ {C = Verdict} (λ t u. cond t (of_deck 11) (cond u (of_deck 12) (of_deck 0))) (held_11 s p.taken k p.holds)
      (held_12 s p.taken k p.holds)))
      (by_links (is11 k) (is12 k) (judged_by deck p.is))
    where
      by_links : (t u : Bool)
          → judge current deck
          ≡ cond t (Judgement.refused 11 0) (cond u (Judgement.refused 12 0) (accepted (program_of current k (entries current deck))))
          → DeckJudged deck (cond t (of_deck 11) (cond u (of_deck 12) (of_deck 0))) s
      by_links true u is = record { refuses = λ _. is; accepts = λ z. absurd (omega arith); few = omega arith; without = λ _. refl }
      by_links false true is = record { refuses = λ _. is; accepts = λ z. absurd (omega arith); few = omega arith; without = λ _. refl }
      by_links false false is =
          record {
            refuses = λ z. absurd (z refl);
            accepts =
                λ _.
                record {
                  known = k;
                  taken = p.taken;
                  holds = p.holds;
                  judging = subst (Rules.Judging current empty_environment (entries current deck)) p.is (judging current empty_environment (entries current deck));
                  is = is;
                };
            few = omega arith;
            without = λ _. refl;
          }
