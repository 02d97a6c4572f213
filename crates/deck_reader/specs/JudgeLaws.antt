-- How a statement's number comes about from what its readers and judges say. Assumes nothing.
use Rattle.std.specs.Prelude as std
use Rattle.std.specs.Prelude.{Some, None, Bool, false, List, ◌≡◌, refl, ℕ, ◌+◌, ◌≤◌, ◌<◌, length}
use Rattle.std.proofs.Math.Bool.{true, cond}
use Rattle.std.proofs.Math.Option.{Option, none, some}
use Rattle.std.proofs.Math.Path.{sym, ap}
use Rattle.std.proofs.Common.{ap₂, subst, ◌∙◌, arith, zero-add}
use Rattle.base.specs.Current.{current}
use Rattle.branch_parser.specs.Places.{is_number_known}
use Rattle.encoding.specs.Table.{all_literals}
use Rattle.encoding.specs.declared.cells.Row.{Row}
use Rattle.statement_parser.specs.Clauses.{Starts, FormWritten, StepWritten, FormAnswer, FormRead, statement_items, elements_in}
use Rattle.statement_parser.specs.Drafts.{Form}
use Rattle.validation.specs.Deck.{mentions_of, unresolved}
use Rattle.validation.specs.Environment.{Environment, numbers_of, is_one_of, extend}
use Rattle.validation.specs.Placed.{number_anywhere, mentions_anywhere}
use Rattle.validation.specs.Refusals.{read_statement, statement_number, form_number, mentions_number}
use Rattle.statement_checks.specs.Callers.{judgeable}
use Rattle.statement_checks.specs.Judged.{StatementJudged, Tallied, Judgeable, Misplaced}
use Rattle.syntax.specs.Keywords.{StatementKind}
use Rattle.syntax.specs.Program.{Statement}
use Rattle.syntax.specs.Parsing.{Parsed, broken}
use Rattle.symbols.specs.Clauses.{names_room}
use Rattle.symbols.specs.Entries.{mentions_in}
use Rattle.symbols.specs.Holding.{SymbolsHold}
use Rattle.symbols.specs.Environment.{places_in}
use Rattle.symbols.specs.declared.Cursor.{Cursor}
use Rattle.symbols.specs.declared.Mentioned.{Mentioned}
use Rattle.symbols.specs.declared.known.Symbols.{Symbols}
use Rattle.name_checks.specs.Shown.{entries_from}
use Rattle.name_checks.specs.HoldLaws.{entries-noted}
use Rattle.card_reader.specs.Letters.{letters}
use Rattle.card_reader.specs.Packs.{longest_text}
use Rattle.lexer.specs.Kinds.{kind_of}
use Rattle.lexer.specs.declared.keywords.Kind.{Kind}
use Rattle.card_reader.specs.declared.PackedStatement.{PackedStatement}
use Rattle.deck_reader.specs.Judging.{start_at, Readied, StatementNumbered}

-- a statement is read up to d, whether it makes a step or not
pub record FormedTo (most : ℕ) (table : List ℕ) (m : Mentioned) (c : Cursor) (x : Parsed (Option Statement)) (table' : List ℕ) (m' : Mentioned)
    (d : Cursor) : Type 0 where
  pub value : Option Statement
  pub formed : FormWritten value most table m c x table' m' d

-- the form by its case
module _ {most : ℕ} {table : List ℕ} {m : Mentioned} {c : Cursor} {x : Parsed (Option Statement)} {r : Form} {table' : List ℕ} {m' : Mentioned}
    (f : FormRead most table m c x r table' m') where
  by_case : {q : Form} → r ≡ q → FormAnswer most table m c x q table' m'
  by_case e = subst (λ (z : Form). FormAnswer most table m c x z table' m') e f.answer

  pub broken_case : r ≡ None → x ≡ broken
  broken_case e = by_case e

  pub no_step_case : {d : Cursor} → r ≡ Some (None, d) → FormWritten none most table m c x table' m' d
  no_step_case e = by_case e

  pub step_case : {row : Row} {d : Cursor} → r ≡ Some (Some row, d) → StepWritten row most table m c x table' m' d
  step_case e = by_case e

  pub formed_case : {o : std.Option Row} {d : Cursor} → r ≡ Some (o, d) → FormedTo most table m c x table' m' d
  formed_case {o = None} e = record { value = none; formed = no_step_case e }
  formed_case {o = Some row} e = let s = step_case e in record { value = some s.statement; formed = s.formed }

-- a statement can be read
pub starts : {s : Symbols} {taken : ℕ} {k : Environment} {text : List ℕ} {c : Cursor} → SymbolsHold s taken k → length text ≤ longest_text
    → letters text < names_room → c ≡ start_at s.known → Starts text c
starts {text = text} h small room e =
    subst (Starts text) (sym e)
    (record {
      text_size = small;
      at = refl;
      names = omega arith;
      room = room;
      items = omega (arith, h.few_items);
      elements = omega (arith, h.few_elements);
      literals = omega (arith, h.few_literals);
    })

-- a statement that is read can be judged
pub formed_judgeable : {text : List ℕ} {e : PackedStatement} {s : Symbols} {v : Option Statement} {table : List ℕ} {m : Mentioned}
    {x : Parsed (Option Statement)} {table' : List ℕ} {m' : Mentioned} {d : Cursor} → Readied text e s
    → FormWritten v (letters text + 1) table m (start_at s.known) x table' m' d → Judgeable s d
formed_judgeable {s = s} {d = d} q f = judgeable s d q.taken q.known (omega (arith, q.room, f.names, f.few)) q.holds

-- the number of a statement of this kind is that of one that leads so
pub numbered_by : {kind lead : StatementKind} {label : List ℕ} {whole : Bool} {text : List ℕ} {sound : Bool} {s : Symbols} {r : ℕ} {s' : Symbols}
    → kind ≡ lead → StatementNumbered kind label whole text sound s r s' → StatementNumbered lead label whole text sound s r s'
numbered_by {label = label} {whole} {text} {sound} {s} {r} {s'} e n =
    subst (λ k. StatementNumbered k label whole text sound s r s') e n

-- the number of a statement
module _ (label : List ℕ) (whole : Bool) (text : List ℕ) (s : Symbols) where
  -- as the code reads it, and as it is judged
  abbrev read : Parsed (Option Statement)
  read = read_statement current (is_number_known s.known) (places_in s.known) label whole text

  abbrev judged : Environment → Parsed (Option Statement)
  judged k = read_statement current (is_one_of (numbers_of k)) unresolved label whole text

  module _ (taken : ℕ) (k : Environment) (h : SymbolsHold s taken k) where
    -- the number is the same
    number_read : (kind : StatementKind) → statement_number k kind true (judged k) ≡ statement_number k kind true read
    number_read kind =
        number_anywhere current (is_one_of (numbers_of k)) (places_in s.known) label whole text k kind true
        ∙ ap (λ (ns : List (List ℕ)). statement_number k kind true (read_statement current (is_one_of ns) (places_in s.known) label whole text))
        (sym h.numbers)

    -- so is what was mentioned
    mentions_read : mentions_of (judged k) ≡ mentions_of read
    mentions_read =
        mentions_anywhere current (is_one_of (numbers_of k)) (places_in s.known) label whole text
        ∙ ap (λ (ns : List (List ℕ)). mentions_of (read_statement current (is_one_of ns) (places_in s.known) label whole text)) (sym h.numbers)

    -- the cursor behind a statement counts what the deck has behind it
    pub cursor_behind : {v : Option Statement} {most : ℕ} {table : List ℕ} {m : Mentioned} {x : Parsed (Option Statement)} {table' : List ℕ}
        {m' : Mentioned} {d : Cursor} → (f : FormWritten v most table m (start_at s.known) x table' m' d)
        → Tallied k d (length (statement_items v)) f.rows (length (all_literals (elements_in v)))
    cursor_behind {v} f =
        record {
          item_count = f.items ∙ ap (λ (n : ℕ). n + length (statement_items v)) h.items;
          element_count = f.elements ∙ ap₂ (λ (n m : ℕ). n + m) h.elements (sym f.counted);
          literal_count = f.literals ∙ ap (λ (n : ℕ). n + length (all_literals (elements_in v))) h.literals;
          longest_row = f.longest;
        }

  module _ {kind : Kind} {b : Bool} (m : Misplaced s.known kind b) where
    abbrev Numbered : ℕ → Symbols → Type 0
    Numbered r s' = StatementNumbered (kind_of kind) label whole text true s r s'

    -- 4
    pub misplaced_numbered : {s' : Symbols} → b ≡ true → Numbered 4 s'
    unfolding statement_number
    misplaced_numbered e =
        record {
          number =
              λ taken k h.
              sym (ap (λ t. cond t 4 (form_number k (kind_of kind) (judged k))) (sym (m.misplaced s refl taken k h) ∙ e));
          extended = λ z. absurd (omega arith);
        }

    module _ (e : b ≡ false) where
      -- that of the form
      placed : (taken : ℕ) (k : Environment) → SymbolsHold s taken k
          → form_number k (kind_of kind) read ≡ statement_number k (kind_of kind) true (judged k)
      unfolding statement_number
      placed taken k h =
          sym (number_read taken k h (kind_of kind)
          ∙ ap (λ t. cond t 4 (form_number k (kind_of kind) read)) (sym (m.misplaced s refl taken k h) ∙ e))

      -- 5
      pub broken_numbered : {s' : Symbols} → read ≡ broken → Numbered 5 s'
      unfolding form_number
      broken_numbered q =
          record {
            number = λ taken k h. ap (form_number k (kind_of kind)) (sym q) ∙ placed taken k h;
            extended = λ z. absurd (omega arith);
          }

      -- by what is mentioned
      pub formed_numbered : {v : Option Statement} {table : List ℕ} {m : Mentioned} {table' : List ℕ} {m' : Mentioned} {d : Cursor}
          {s' : Symbols} {r : ℕ} → FormWritten v (letters text + 1) table m (start_at s.known) read table' m' d
          → StatementJudged s m' d kind s' r → Numbered r s'
      unfolding form_number mentions_of
      formed_numbered {v} {m = m₁} {m' = m₂} {d} {s'} f j =
          let entries : entries_from m₂ 0 d.names ≡ f.entries =
          ap (entries_from m₂ 0) (f.names ∙ zero-add (length f.entries))
          ∙ entries-noted m₁ m₂ f.entries f.noting.keyed f.noting.tagged in
          let met =
          ap (λ es. mentions_in es (length (statement_items v)) f.rows (length (all_literals (elements_in v)))) entries in
          record {
            number =
                λ taken k h.
                j.number taken k h _ _ _ (cursor_behind taken k h f)
                ∙ ap (mentions_number k (kind_of kind)) met
                ∙ ap (form_number k (kind_of kind)) (sym f.is)
                ∙ placed taken k h;
            extended =
                λ z taken k h taken' le.
                subst (λ n. SymbolsHold s' taken' (extend k (kind_of kind) n))
                (met ∙ ap mentions_of (sym f.is) ∙ sym (mentions_read taken k h))
                (j.extended z taken k h _ _ _ (cursor_behind taken k h f) taken' (omega (arith, f.names, f.few, le)));
          }
