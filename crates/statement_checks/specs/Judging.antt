-- The contracts of judging, put together. Assumes nothing.
use Rattle.std.specs.Prelude.{Bool, true, false, cond, not, ◌||◌, List, map, ◌≡◌, refl, ℕ, ◌≤◌, eqb, length, take, Ok, Err}
use Rattle.std.specs.Bool.{beq}
use Rattle.std.proofs.Common.{sym, ◌∙◌, ap, arith, take_all}
use Rattle.std.proofs.lemmas.List.{length-map}
use Rattle.validation.specs.Environment as Environment
use Rattle.validation.specs.Environment.{Environment, names_for}
use Rattle.validation.specs.Refusals.{mentions_number}
use Rattle.validation.specs.RefusalNumbers.{refusal_number, refusal_number_some}
use Rattle.validation.specs.declared.Refusal.{Refusal}
use Rattle.syntax.specs.Keywords.{same_kind, PROGRAM}
use Rattle.syntax.specs.Parsing.{Purpose, for_number, for_string}
use Rattle.symbols.specs.Entries.{NameEntry, name_of, mentions_in}
use Rattle.symbols.specs.Environment.{most, string_keys, number_keys}
use Rattle.symbols.specs.From.{length_from}
use Rattle.symbols.specs.Holding.{SymbolsHold, names_in}
use Rattle.symbols.specs.declared.Cursor.{Cursor}
use Rattle.symbols.specs.declared.Mentioned.{Mentioned}
use Rattle.symbols.specs.declared.known.Known.{Known}
use Rattle.symbols.specs.declared.known.Names.{Names}
use Rattle.symbols.specs.declared.known.Symbols.{Symbols}
use Rattle.name_checks.specs.ShownLaws.{names_kept}
use Rattle.name_checks.specs.Shown.{environment_in, entry_at, entries_from}
use Rattle.name_checks.specs.Judged.{NamesReady, NamesEntered}
use Rattle.lexer.specs.Kinds.{kind_of}
use Rattle.lexer.specs.declared.keywords.Kind.{Kind}
use Rattle.statement_checks.specs.Counts.{is_over}
use Rattle.statement_checks.specs.Extending.{wrong_in, Extendable, Extended}
use Rattle.statement_checks.specs.Judged.{Judgeable, Tallied, StatementJudged, Misplaced}
use Rattle.statement_checks.specs.JudgedLaws.{misplaced, number_some, number_nine, number_rest, with_names_of, over_is, extended_holds}
use Rattle.statement_checks.specs.Listing.{Listing}

-- 4, by whether the kind is PROGRAM
pub misplaced_by : (known : Known) (kind : Kind) (r : Bool)
    → r ≡ (not (beq (eqb known.statements 0) (same_kind (kind_of kind) PROGRAM)) || known.ended) → Misplaced known kind r
misplaced_by known kind r e =
    record {
      misplaced = λ s is taken k h.
          e
          ∙ ap (λ (l : Known). not (beq (eqb l.statements 0) (same_kind (kind_of kind) PROGRAM)) || l.ended) (sym is)
          ∙ sym (misplaced s taken k h kind);
    }

-- a table that is ready has names to judge
pub names_ready : (s : Symbols) (m : Mentioned) (c : Cursor) → Judgeable s c → NamesReady s.names (entries_from m 0 c.names)
unfolding environment_in
names_ready s m c r =
    record { room = omega (arith, r.held.few_names, r.room, length_from (entry_at m.keys m.tags) 0 c.names); single = r.held.single }

-- the names are refused
pub judged_names : (s : Symbols) (m : Mentioned) (c : Cursor) (names' : Names) {e : Refusal} → NamesEntered s.known s.names (entries_from m 0 c.names) names' (Err e)
    → (kind : Kind) (s' : Symbols) → StatementJudged s m c kind s' (refusal_number e)
judged_names s m c names' {e} names kind s' =
    record {
      number = λ taken k h items rows literals b.
          number_some s taken k h kind (entries_from m 0 c.names) items rows literals (refusal_number e) names.number (refusal_number_some e);
      extended = λ z taken k h items rows literals b taken' room. absurd (refusal_number_some e z);
    }

module _ (s : Symbols) (m : Mentioned) (c : Cursor) (ready : Judgeable s c) (names' : Names)
    (names : NamesEntered s.known s.names (entries_from m 0 c.names) names' (Ok tt)) where
  -- n names of a purpose, by their keys
  listed : (p : Purpose) (keys : List ℕ) → length keys ≤ most → map name_of keys ≡ names_for p (names_in s.names)
      → Listing most names' s.names.count p keys
  unfolding names_in
  listed p keys few held =
      let size = ap length (sym held) ∙ length-map keys name_of in
      record {
        shows =
            held
            ∙ sym (take_all most (names_for p (names_in s.names)) (omega arith))
            ∙ ap (λ ns. take most (names_for p ns))
            (sym (names_kept s.names.keys s.names.purposes names'.keys names'.purposes 0 s.names.count (λ j g. names.keys_kept j (omega arith))
            (λ j g. names.purposes_kept j (omega arith))));
        inside = names.more;
        room = omega (arith, names.few, ready.held.few_names, ready.room, length_from (entry_at m.keys m.tags) 0 c.names);
      }

  -- and can be extended by the statement
  pub extendable : Extendable (with_names_of s names') c.names s.names.count
  unfolding environment_in Environment.strings_of Environment.numbers_of
  extendable =
      let h = ready.held in
      record {
        strings = listed for_string (string_keys s.known) (omega (arith, h.few_strings)) h.strings;
        numbers = listed for_number (number_keys s.known) (omega (arith, h.few_numbers)) h.numbers;
        spacious = omega (arith, h.few_uses, ready.room);
        statements = h.few_statements;
        steps = omega (arith, h.few_steps, h.few_statements);
        labels = omega (arith, h.few_labels);
        routines = h.few_routines;
      }

  module _ (kind : Kind) where
    abbrev es : List NameEntry
    es = entries_from m 0 c.names

    pub judged_nine : (s' : Symbols) → wrong_in kind s.known.scope ≡ true → StatementJudged s m c kind s' 9
    judged_nine s' w =
        record {
          number = λ taken k h items rows literals b.
              number_nine s taken k h kind es items rows literals 0 names.number refl w;
          extended = λ e taken k h items rows literals b taken' room. absurd (omega arith);
        }

    module _ (w : wrong_in kind s.known.scope ≡ false) (s' : Symbols) (l : Extended (with_names_of s names') es c kind s') where
      ten : (t : Bool) → is_over s'.known c.longest ≡ t → (taken : ℕ) (k : Environment) → SymbolsHold s taken k
          → (items : ℕ) (rows : List ℕ) (literals : ℕ) → Tallied k c items rows literals
          → cond t 10 0 ≡ mentions_number k (kind_of kind) (mentions_in es items rows literals)
      ten t e taken k h items rows literals b =
          ap (λ x. cond x 10 0) (sym e ∙ over_is s taken k h kind m c items rows literals b names' names s' l)
          ∙ number_rest s taken k h kind es items rows literals 0 names.number refl w

      pub judged_over : is_over s'.known c.longest ≡ true → StatementJudged s m c kind s' 10
      judged_over e =
          record { number = ten true e; extended = λ f taken k h items rows literals b taken' room. absurd (omega arith) }

      pub judged_zero : is_over s'.known c.longest ≡ false → StatementJudged s m c kind s' 0
      judged_zero e =
          record {
            number = ten false e;
            extended = λ f taken k h items rows literals b taken' room.
                extended_holds s taken k h kind m c items rows literals b names' names s' l e taken' room;
          }
