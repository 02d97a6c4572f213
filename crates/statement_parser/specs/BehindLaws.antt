-- A form behind names or behind skipped bytes; numbers that are set; statements that are no steps; the form of a kind. Assumes nothing.
use Rattle.std.specs.Prelude.{Some, None, unwrap_or, Bool, cond, ◌&&◌, ◌||◌, ◌≡◌, refl, ltb}
use Rattle.std.specs.Prelude as std
use Rattle.std.proofs.Math.Bool.{true, false, and-eq-true_iff, or-false}
use mathlib.Core.List.{List, [], ◌∷◌, ◌++◌}
use Rattle.std.proofs.Math.Option.{Option, none, some}
use Rattle.std.proofs.Math.Path.{sym, ap, ap₂, subst}
use Rattle.std.proofs.Common.{◌∙◌, arith, drop_of_length-le}
use Prim.Native.Nat.{ℕ, zero, suc, ◌+◌, ◌-◌, ◌≤◌}
use Rattle.std.proofs.Math.Nat.{add-zero, zero-add}
use Rattle.std.proofs.Math.ListN.{length, take, drop, length-append, length-drop}
use Rattle.std.proofs.Math.Seq.{drop-drop}
use borrow.Author.Tests.{ltb-true, ltb-false}
use Rattle.base.specs.Choice.{cond_cases}
use Rattle.base.specs.Current.{current}
use Rattle.base.specs.Limits as Limits
use Rattle.base.specs.ListLaws.{begins_room}
use Rattle.base.specs.Lists.{all, any, begins, total}
use Rattle.base.specs.Text.{bytes}
use Rattle.branch_parser.specs.Places.{is_number_known}
use Rattle.encoding.specs.declared.cells.Row.{Row}
use Rattle.encoding.specs.Kinds.{number_kind, range_number, set_number_kind}
use Rattle.encoding.specs.Table as Table
use Rattle.encoding.specs.Table.{range_value, range_cell, operand_cell, statement_row, items_of, elements_of, all_literals}
use Rattle.syntax.specs.Forms.{step_form, no_step_form, without_unit, sets_number, replacement, program_form, number_form, form_of, statement_form}
use Rattle.syntax.specs.Fuel.{expression_from, numeric_from_lem}
use Rattle.syntax.specs.Keywords as Keywords
use Rattle.syntax.specs.Keywords.{Leading, keywords, longest, is_replacement, leading}
use Rattle.syntax.specs.Program.{Item, Statement, set_number}
use Rattle.syntax.specs.Parsing.{Purpose, for_program, for_number, declaring, Mentions, Parsed, got, broken, ◌>>=◌, mentioning, succeed, expect}
use Rattle.syntax.specs.Strings.{more_of, list_of}
use Rattle.syntax.specs.Lexemes as Words
use Rattle.syntax.specs.Lexemes.{name_as, number_name}
use Rattle.symbols.specs.Elements.{with_elements}
use Rattle.symbols.specs.Entries.{NameEntry, entry, name_of, mentions_in}
use Rattle.symbols.specs.EntryLaws.{mentions_both, name-key, program_declared, number_declared}
use Rattle.symbols.specs.Items.{with_items}
use Rattle.symbols.specs.Environment.{number_keys, keys_have, places_in}
use Rattle.symbols.specs.EnvironmentLaws.{names_have}
use Rattle.symbols.specs.ParsingLaws.{succeed_then, expect_then, expect_broken, got_broken, bind_assoc, bind_same}
use Rattle.symbols.specs.declared.Cursor.{Cursor}
use Rattle.numeric_parser.specs.OperandLaws.{onward_none, noting_more, mentions_nothing, then_broken, chosen, ready_moved, skipped, drop-moved}
use Rattle.numeric_parser.specs.OperandLaws.{named_by, name_mentioned, name_as_broken, word_passed, word_none}
use Rattle.encoding.specs.Meaning.{cell_meaning}
use Rattle.numeric_parser.specs.Operands.{ReaderReady, Gets, NameParsed, Noting, Skips, cursor_moved, behind_word}
use Rattle.numeric_parser.specs.Reads.{GetsItems}
use Rattle.encoding.specs.declared.cells.Cell.{Cell}
use Rattle.card_reader.specs.Keys.{key_of, is_key_byte}
use Rattle.card_reader.specs.Letters.{letters}
use Rattle.string_parser.specs.ElementLaws.{names_elements, elements_none, elements_skip}
use Rattle.string_parser.specs.Elements.{GetsElements}
use Rattle.lexer.specs.Kinds.{kind_of, leads}
use Rattle.lexer.specs.Laws.{name_keys_lem}
use Rattle.lexer.specs.Places.{NameAt}
use Rattle.lexer.specs.declared.keywords.Keyword.{Keyword}
use Rattle.statement_parser.specs.Drafts.{Form}
use Rattle.statement_parser.specs.Clauses.{statement_items, elements_in, FormWritten, FormRead}
use Rattle.statement_parser.specs.Ends.{unstepped_at}
use Rattle.statement_parser.specs.FormLaws.{step-here, step_not, no_step_here, no_step_not, formed_elements}
use Rattle.statement_parser.specs.Rows.{range_in}
use Rattle.statement_parser.specs.StageLaws.{form-same}
use Rattle.statement_parser.specs.Steps.{FormAt, BehindUnit, string_set, assigned_to, number_set, more_numbers}
use Rattle.symbols.specs.declared.known.Known.{Known}
use Rattle.symbols.specs.declared.Mentioned.{Mentioned}
use Rattle.symbols.specs.declared.tags.Tag.{Tag}
use Rattle.symbols.specs.declared.tags.Tag.TheVariants.{ProgramDeclared, NumberDeclared}

-- ---- a form behind names
-- these are noted before it, and nothing else is read
module _ {es : List NameEntry} {table t : List ℕ} {m m₁ m₂ : Mentioned} {c d : Cursor} {x : Parsed (Option Statement)} {most most' : ℕ}
    (noting : Noting m c.names es m₁) (names : d.names ≡ c.names + length es) (items : d.items ≡ c.items) (elements : d.elements ≡ c.elements)
    (literals : d.literals ≡ c.literals) (longest : ltb Limits.row_elements d.longest ≡ ltb Limits.row_elements c.longest)
    (fits : length es + most ≤ most') where
  formed_noted : {v : Option Statement} {e : Cursor} → FormWritten v most table m₁ d x t m₂ e
      → FormWritten v most' table m c (mentioning (mentions_in es 0 [] 0) x) t m₂ e
  unfolding mentioning
  formed_noted {v} f =
      let size = length-append es f.entries in
      let i = length (statement_items v) in
      let l = length (all_literals (elements_in v)) in
      record {
        entries = es ++ f.entries;
        rows = f.rows;
        is =
            ap (mentioning (mentions_in es 0 [] 0)) f.is
            ∙ ap (λ (z : Mentions). got v z [])
            (mentions_both es f.entries 0 i [] f.rows 0 l
            ∙ ap₂ (λ (p q : ℕ). mentions_in (es ++ f.entries) p f.rows q) (zero-add i) (zero-add l));
        counted = f.counted;
        longest = f.longest ∙ ap (λ b. b || any (ltb Limits.row_elements) f.rows) longest;
        written =
            f.written
            ∙ ap (λ n. with_elements (with_items table n (statement_items v)) d.elements d.literals (elements_in v)) items
            ∙ ap₂ (λ (p q : ℕ). with_elements (with_items table c.items (statement_items v)) p q (elements_in v)) elements literals;
        noting = noting_more names noting f.noting;
        names = omega (arith, f.names);
        items = f.items ∙ ap (λ n. n + i) items;
        elements = f.elements ∙ ap (λ n. n + length (elements_in v)) elements;
        literals = f.literals ∙ ap (λ n. n + l) literals;
        few = omega (arith, f.few);
      }

  pub form-noted : (q : Form) → FormRead most table m₁ d x q t m₂
      → FormRead most' table m c (mentioning (mentions_in es 0 [] 0) x) q t m₂
  unfolding mentioning
  form-noted None f = record { answer = ap (mentioning (mentions_in es 0 [] 0)) f.answer }
  form-noted (Some (None, e)) f = record { answer = formed_noted f.answer }
  form-noted (Some (Some row, e)) f =
      let s = f.answer in
      record {
        answer =
            record {
              statement = s.statement;
              made = s.made ∙ ap₂ (λ (p q : ℕ). statement_row p q s.statement) elements items;
              formed = formed_noted s.formed;
            };
      }

-- they are mentioned by a reading
module _ {A : Type 0} {x : Parsed A} {a : A} {text table : List ℕ} {m m₁ : Mentioned} {c d : Cursor}
    (r : GetsElements text table m c x a [] [] table m₁ d) (next : A × List ℕ → Parsed (Option Statement)) where
  pub form-behind : (q : Form) {t : List ℕ} {m₂ : Mentioned} → FormRead (letters (drop d.at text)) table m₁ d (next (a, drop d.at text)) q t m₂
      → FormRead (letters (drop c.at text)) table m c (x >>= next) q t m₂
  unfolding ◌>>=◌ mentioning all_literals any
  form-behind q f =
      let is : (x >>= next) ≡ mentioning (mentions_in r.entries 0 [] 0) (next (a, drop d.at text)) = ap (λ (y : Parsed A). y >>= next) r.is in
      form-same is
      (form-noted r.noting r.goes.names r.goes.items (r.goes.elements ∙ add-zero c.elements)
      (r.goes.literals ∙ add-zero c.literals) (r.goes.longest ∙ or-false (ltb Limits.row_elements c.longest)) r.few q f)

-- behind skipped bytes
pub form_skip : {text table : List ℕ} {m : Mentioned} (n : ℕ) {b c : Cursor} → Skips b n c → ReaderReady text c
    → (x : List ℕ → Parsed (Option Statement)) (q : Form) {t : List ℕ} {m₁ : Mentioned}
    → FormRead (letters (drop c.at text)) table m c (x (drop c.at text)) q t m₁
    → FormRead (letters (drop b.at text)) table m b (x (drop c.at text)) q t m₁
form_skip {text} {table} {m} n {b} {c} s ready x q {t} {m₁} f =
    subst (λ z. FormRead (letters (drop b.at text)) table m b z q t m₁) (succeed_then (tt {0}) (drop c.at text) (λ (_, l). x l))
    (form-behind (elements_skip n s (elements_none (tt {0}) ready)) (λ (_, l). x l) q f)

-- ---- numbers that are set
module _ (known : Known) (place : ℕ) where
  pub assigned_broken : (bs : List ℕ) → expression_from current (places_in known) 0 bs ≡ broken → assigned_to known place bs ≡ broken
  unfolding assigned_to
  assigned_broken bs e = then_broken _ (numeric_from_lem current (places_in known) bs ∙ e)

  abbrev pub number_row : Cell → Row
  number_row right =
      record {
        kind = set_number_kind.number;
        flag = 0;
        branch = record { success = 0; failure = 0 };
        left = record { kind = number_kind.number; place = place; value = 0 };
        right = right;
      }

  module _ {text table t : List ℕ} {m m₁ : Mentioned} {c d : Cursor}
      (a : GetsItems [] text table m c (expression_from current (places_in known) 0 (drop c.at text)) t m₁ d) where
    assigned_is : (y : Parsed (Option Statement)) → step_form (set_number place a.items) (drop d.at text) ≡ y
        → assigned_to known place (drop c.at text) ≡ mentioning (mentions_in a.entries (length a.items) [] 0) y
    unfolding assigned_to ◌>>=◌ mentioning
    assigned_is y e =
        ap (λ (z : Parsed (List Item)). z >>= λ (x, rest). step_form (set_number place x) rest)
        (numeric_from_lem current (places_in known) (drop c.at text) ∙ a.is)
        ∙ ap (mentioning (mentions_in a.entries (length a.items) [] 0)) e

    pub assigned_case : (right : Cell) → right ≡ range_in c.items (d.items - c.items) 0 → (b : Bool) → ltb d.at (length text) ≡ b
        → FormAt (assigned_to known place (drop c.at text)) text table m c
        (elim b [ true ↦ None | false ↦ Some (Some (number_row right), d) ]) t m₁
    unfolding mentioning succeed statement_items elements_in items_of elements_of all_literals with_elements any total statement_row operand_cell range_cell
    assigned_case right e true h =
        record { answer = assigned_is broken (step_not text d.at (ltb-true d.at (length text) h) (set_number place a.items)) }
    assigned_case right e false h =
        let end = ltb-false d.at (length text) h in
        let s = set_number place a.items in
        let met = mentions_in a.entries (length a.items) [] 0 in
        let count : d.items - c.items ≡ length a.items = omega (arith, a.goes.items) in
        let sets : Table.Cell → Table.Row = Table.row_with set_number_kind.number 0 0 0 (Table.cell number_kind.number place 0) in
        record {
          answer =
              record {
                statement = s;
                made =
                    ap (λ (v : Cell). sets (cell_meaning v)) e
                    ∙ ap (λ n. sets (Table.cell range_number 0 (range_value c.items n 0))) count;
                formed =
                    record {
                      entries = a.entries;
                      rows = [];
                      is =
                          assigned_is (succeed (some s) (drop d.at text)) (step-here text d.at end s)
                          ∙ ap (λ (z : Mentions). got (some s) z (drop d.at text)) (mentions_nothing met)
                          ∙ ap (got (some s) met) (drop_of_length-le text end);
                      counted = refl;
                      longest = ap (ltb Limits.row_elements) a.goes.longest ∙ sym (or-false (ltb Limits.row_elements c.longest));
                      written = a.written;
                      noting = a.noting;
                      names = a.goes.names;
                      items = a.goes.items;
                      elements = a.goes.elements ∙ sym (add-zero c.elements);
                      literals = a.goes.literals ∙ sym (add-zero c.literals);
                      few = omega (arith, a.few);
                    };
              };
        }

module _ (known : Known) where
  pub number_broken : (bs : List ℕ) → number_name current (places_in known) bs ≡ broken → number_set known bs ≡ broken
  unfolding number_set
  number_broken bs e = then_broken _ e

  module _ {place : ℕ} {text : List ℕ} {m m₁ : Mentioned} {c d : Cursor}
      (a : Gets (λ j. j) place text m c (number_name current (places_in known) (drop c.at text)) m₁ d) where
    pub number_open : begins (61 ∷ []) (drop d.at text) ≡ false → number_set known (drop c.at text) ≡ broken
    unfolding number_set bytes
    number_open e = got_broken _ a.is (expect_broken (61 ∷ []) (drop d.at text) (λ (_, l). assigned_to known a.value l) e)

    pub number_then : (table : List ℕ) → begins (61 ∷ []) (drop d.at text) ≡ true → (q : Form) {b : Cursor} {t : List ℕ} {m₂ : Mentioned}
        → b ≡ cursor_moved d 1 → FormAt (assigned_to known place (drop b.at text)) text table m₁ b q t m₂
        → FormAt (number_set known (drop c.at text)) text table m c q t m₂
    unfolding number_set bytes
    number_then table e q {b} {t} {m₂} on f =
        form-behind (names_elements table a) (λ (i, rest). expect (61 ∷ []) rest >>= λ (_, l). assigned_to known i l) q
        (subst (λ z. FormRead (letters (drop d.at text)) table m₁ d z q t m₂)
        (sym
        (expect_then (61 ∷ []) (drop d.at text) (λ (_, l). assigned_to known a.value l) e
        ∙ ap₂ (assigned_to known) a.made (sym (drop-moved text d 1 on))))
        (form_skip 1 (skipped d 1 on) (ready_moved (61 ∷ []) a.ready on e) (assigned_to known place) q f))

  -- a name known as a number before `=`
  pub sets_is : {text : List ℕ} {at n key : ℕ} → NameAt text at n → key ≡ key_of (take n (drop at text))
      → sets_number current (is_number_known known) (places_in known) (drop at text)
      ≡ (keys_have key (number_keys known) && begins (61 ∷ []) (drop (at + n) text))
  unfolding sets_number bytes
  sets_is {text} {at} {n} {key} a e =
      let bs = drop at text in
      let shown : all is_key_byte (take n bs) ≡ true = subst (λ j. all is_key_byte (take j bs) ≡ true) (sym a.is) (name_keys_lem bs) in
      let named : take n bs ≡ name_of key = sym (ap name_of e ∙ name-key (take n bs) shown) in
      ap (λ j. is_number_known known (take j bs) && begins (61 ∷ []) (drop j bs)) (sym a.is)
      ∙ ap₂ (λ (w l : List ℕ). is_number_known known w && begins (61 ∷ []) l) named (drop-drop n at text)
      ∙ ap (λ b. b && begins (61 ∷ []) (drop (at + n) text)) (names_have key (number_keys known))

  module _ (bs : List ℕ) where
    pub replacement_number : sets_number current (is_number_known known) (places_in known) bs ≡ true
        → replacement current (is_number_known known) (places_in known) bs ≡ number_set known bs
    unfolding replacement number_set assigned_to
    replacement_number e = chosen _ _ e

    pub replacement-string : sets_number current (is_number_known known) (places_in known) bs ≡ false
        → replacement current (is_number_known known) (places_in known) bs ≡ string_set known bs
    unfolding replacement string_set
    replacement-string e = chosen _ _ e

-- ---- a unit, if it stands here
module _ (text unit : List ℕ) {c d : Cursor} where
  pub unit_here : length unit ≡ 4 → begins unit (drop c.at text) ≡ true → c.at ≤ length text → d ≡ cursor_moved c 4 → BehindUnit text unit c d
  unfolding without_unit
  unit_here size e inside s =
      let at : d.at ≡ c.at + 4 = ap (λ (z : Cursor). z.at) s in
      record {
        size = 4;
        skips = skipped c 4 s;
        is =
            ap {B = List ℕ} (λ b. elim b [ true ↦ drop 4 (drop c.at text) | false ↦ drop c.at text ]) e
            ∙ drop-drop 4 c.at text
            ∙ ap (λ n. drop n text) (sym at);
        inside = omega (arith, begins_room unit (drop c.at text) e, length-drop c.at text);
      }

pub unit_none : (text unit : List ℕ) (c : Cursor) → begins unit (drop c.at text) ≡ false → c.at ≤ length text → BehindUnit text unit c c
unfolding without_unit
unit_none text unit c e inside =
    record {
      size = 0;
      skips = record { at = sym (add-zero c.at); goes = onward_none c };
      is = ap {B = List ℕ} (λ b. elim b [ true ↦ drop 4 (drop c.at text) | false ↦ drop c.at text ]) e;
      inside = inside;
    }

pub unit_passed : (text unit : List ℕ) (c : Cursor) (r : std.Option Cursor) → length unit ≡ 4 → c.at ≤ length text → r ≡ behind_word text unit c
    → BehindUnit text unit c (unwrap_or r c)
unit_passed text unit c (Some d) size inside e =
    let here = word_passed text unit c e in unit_here text unit size here.0 inside (here.1 ∙ ap (cursor_moved c) size)
unit_passed text unit c None size inside e = unit_none text unit c (word_none text unit c e) inside

-- ---- statements that are no steps
unstepped_case : {text table : List ℕ} {m : Mentioned} {c : Cursor} → ReaderReady text c → (b : Bool) → ltb c.at (length text) ≡ b
    → FormAt (no_step_form (drop c.at text)) text table m c
    (elim b [ true ↦ None | false ↦ Some (None, c) ]) table m
unfolding statement_items elements_in total
unstepped_case {text} {c = c} ready true e = record { answer = no_step_not text c.at (ltb-true c.at (length text) e) }
unstepped_case {text} {table} {m} {c} ready false e =
    let end = ltb-false c.at (length text) e in
    record {
      answer =
          subst (λ (z : Parsed (Option Statement)). FormWritten none (letters (drop c.at text)) table m c z table m c)
          (sym (no_step_here text c.at end)) (formed_elements (elements_none none ready) end refl refl refl);
    }

pub unstepped_read : {text table : List ℕ} {m : Mentioned} {c : Cursor} → ReaderReady text c
    → FormAt (no_step_form (drop c.at text)) text table m c (unstepped_at text c) table m
unstepped_read {text} {c = c} ready = unstepped_case ready (ltb c.at (length text)) refl

-- a name that is declared
module _ {text : List ℕ} {m m₁ : Mentioned} {c d : Cursor} {key : ℕ} where
  declared_name : (tag : Tag) (p : Purpose)
      → ((n : List ℕ) → all is_key_byte n ≡ true → mentions_in (entry (key_of n) tag ∷ []) 0 [] 0 ≡ declaring p n)
      → NameParsed text m c tag key m₁ d → Gets (λ n. n) (name_of key) text m c (name_as (declaring p) (drop c.at text)) m₁ d
  declared_name tag p says n =
      name_mentioned (declaring p) (λ w. w) (name_of key) n
      (ap (λ j. mentions_in (entry j tag ∷ []) 0 [] 0) n.keyed ∙ says n.bytes n.shown) (sym (named_by n))

  number_named : NameParsed text m c NumberDeclared key m₁ d
      → Gets (λ n. n) (name_of key) text m c (name_as (declaring for_number) (drop c.at text)) m₁ d
  number_named = declared_name NumberDeclared for_number number_declared

  pub program_read : (known : Known) (table : List ℕ) → NameParsed text m c ProgramDeclared key m₁ d
      → FormAt (program_form current (is_number_known known) (places_in known) (drop c.at text)) text table m c (unstepped_at text d) table m₁
  unfolding program_form
  program_read known table n =
      form-behind (names_elements table (declared_name ProgramDeclared for_program program_declared n)) (λ (_, rest). no_step_form rest)
      (unstepped_at text d) (unstepped_read n.ready)

pub program_broken : (known : Known) (bs : List ℕ) → Words.name bs ≡ broken
    → program_form current (is_number_known known) (places_in known) bs ≡ broken
unfolding program_form
program_broken known bs e = then_broken _ (name_as_broken (declaring for_program) bs e)

-- names parted by commas, to the end
list_left : {B : Type 0} (x : Parsed (List ℕ)) (more : List ℕ → Parsed (List (List ℕ))) (next : List ℕ → Parsed B)
    → ((x >>= λ (n, rest). more rest >>= λ (ns, l). succeed (n ∷ ns) l) >>= λ (_, rest). next rest)
    ≡ (x >>= λ (n, rest). more rest >>= λ (_, l). next l)
list_left x more next =
    bind_assoc x (λ (n, rest). more rest >>= λ (ns, l). succeed (n ∷ ns) l) (λ (_, rest). next rest)
    ∙ bind_same x _ _ (λ n rest.
    bind_assoc (more rest) (λ (ns, l). succeed (n ∷ ns) l) (λ (_, l). next l)
    ∙ bind_same (more rest) _ _ (λ ns l. succeed_then (n ∷ ns) l (λ (_, l). next l)))

numbers-is : (known : Known) (bs : List ℕ) → number_form current (is_number_known known) (places_in known) bs
    ≡ (name_as (declaring for_number) bs >>= λ (_, rest). more_numbers (length rest) rest)
unfolding number_form list_of more_numbers
numbers-is known bs =
    list_left (name_as (declaring for_number) bs) (λ rest. more_of (name_as (declaring for_number)) (length rest) rest) no_step_form

module _ (bs : List ℕ) where
  left_end : (k : ℕ) → begins (44 ∷ []) bs ≡ false → more_numbers k bs ≡ no_step_form bs
  unfolding more_numbers more_of bytes
  left_end zero e = succeed_then [] bs (λ (_, l). no_step_form l)
  left_end (suc k) e =
      ap (λ (y : Parsed (List (List ℕ))). y >>= λ (_, l). no_step_form l) (chosen _ _ e) ∙ succeed_then [] bs (λ (_, l). no_step_form l)

  left-more : (k : ℕ) → begins (44 ∷ []) bs ≡ true
      → more_numbers (suc k) bs ≡ (name_as (declaring for_number) (drop 1 bs) >>= λ (_, rest). more_numbers k rest)
  unfolding more_numbers more_of bytes
  left-more k e =
      ap (λ (y : Parsed (List (List ℕ))). y >>= λ (_, l). no_step_form l) (chosen _ _ e)
      ∙ list_left (name_as (declaring for_number) (drop 1 bs)) (λ rest. more_of (name_as (declaring for_number)) k rest) no_step_form

module _ {text : List ℕ} (table : List ℕ) {m : Mentioned} {c : Cursor} where
  pub numbers_end : ReaderReady text c → begins (44 ∷ []) (drop c.at text) ≡ false → (k : ℕ)
      → FormAt (more_numbers k (drop c.at text)) text table m c (unstepped_at text c) table m
  numbers_end ready e k =
      subst (λ z. FormRead (letters (drop c.at text)) table m c z (unstepped_at text c) table m)
      (sym (left_end (drop c.at text) k e))
      (unstepped_read ready)

  pub numbers-first : (known : Known) {key : ℕ} {m₁ m₂ : Mentioned} {d : Cursor} → NameParsed text m c NumberDeclared key m₁ d → (q : Form)
      → FormAt (more_numbers (length (drop d.at text)) (drop d.at text)) text table m₁ d q table m₂
      → FormAt (number_form current (is_number_known known) (places_in known) (drop c.at text)) text table m c q table m₂
  numbers-first known {m₂ = m₂} n q f =
      subst (λ z. FormRead (letters (drop c.at text)) table m c z q table m₂) (sym (numbers-is known (drop c.at text)))
      (form-behind (names_elements table (number_named n)) (λ (_, rest). more_numbers (length rest) rest) q f)

  -- behind a comma
  module _ (comma : begins (44 ∷ []) (drop c.at text) ≡ true) where
    pub numbers_more : ReaderReady text c → {b : Cursor} → b ≡ cursor_moved c 1 → {key : ℕ} {m₁ m₂ : Mentioned} {d : Cursor}
        → NameParsed text m b NumberDeclared key m₁ d → (q : Form)
        → ((k : ℕ) → length (drop d.at text) ≤ k → FormAt (more_numbers k (drop d.at text)) text table m₁ d q table m₂) → (k : ℕ)
        → length (drop c.at text) ≤ k → FormAt (more_numbers k (drop c.at text)) text table m c q table m₂
    numbers_more ready s n q f zero h = absurd (omega (arith, begins_room (44 ∷ []) (drop c.at text) comma))
    numbers_more ready {b} s {m₂ = m₂} {d} n q f (suc k) h =
        let skips = skipped c 1 s in
        let enough : length (drop d.at text) ≤ k =
        omega (arith, length-drop d.at text, length-drop c.at text, n.further, n.ready.inside, skips.at) in
        let on = ready_moved (44 ∷ []) ready s comma in
        subst (λ z. FormRead (letters (drop c.at text)) table m c z q table m₂)
        (sym
        (left-more (drop c.at text) k comma
        ∙ ap (λ (l : List ℕ). name_as (declaring for_number) l >>= λ (_, rest). more_numbers k rest) (sym (drop-moved text c 1 s))))
        (form_skip 1 skips on (λ l. name_as (declaring for_number) l >>= λ (_, rest). more_numbers k rest) q
        (form-behind (names_elements table (number_named n)) (λ (_, rest). more_numbers k rest) q (f k enough)))

-- where no name stands behind the comma
module _ (text : List ℕ) (c : Cursor) (comma : begins (44 ∷ []) (drop c.at text) ≡ true) where
  pub numbers_broken : {b : Cursor} → b ≡ cursor_moved c 1 → Words.name (drop b.at text) ≡ broken → (k : ℕ) → length (drop c.at text) ≤ k
      → more_numbers k (drop c.at text) ≡ broken
  numbers_broken s e zero h = absurd (omega (arith, begins_room (44 ∷ []) (drop c.at text) comma))
  numbers_broken {b} s e (suc k) h =
      left-more (drop c.at text) k comma
      ∙ then_broken _
      (ap (name_as (declaring for_number)) (sym (drop-moved text c 1 s)) ∙ name_as_broken (declaring for_number) (drop b.at text) e)

pub numbers_none : (known : Known) (bs : List ℕ) → Words.name bs ≡ broken → number_form current (is_number_known known) (places_in known) bs ≡ broken
numbers_none known bs e = numbers-is known bs ∙ then_broken _ (name_as_broken (declaring for_number) bs e)

-- ---- the form of a kind
-- a keyword is no longer than the text
longest_fits : (ws : List (List ℕ × Keywords.StatementKind)) (bs : List ℕ) (best : Leading)
    → best.size ≤ length bs → (longest ws bs best).size ≤ length bs
unfolding longest
longest_fits [] bs best h = h
longest_fits ((w, k) ∷ ws) bs best h =
    longest_fits ws bs (cond (begins w bs && ltb best.size (length w)) (record { kind = k; size = length w }) best)
    (cond_cases (λ (l : Leading). l.size ≤ length bs) (begins w bs && ltb best.size (length w))
    (λ e. begins_room w bs ((and-eq-true_iff (begins w bs) (ltb best.size (length w))).0 e).0) (λ _. h))

pub leading_fits : (bs : List ℕ) → (leading bs).size ≤ length bs
unfolding leading
leading_fits bs =
    cond_cases (λ (l : Leading). l.size ≤ length bs) (is_replacement bs) (λ _. omega arith)
    (λ _. longest_fits keywords bs (record { kind = Keywords.UNKNOWN; size = 0 }) (omega arith))

module _ (text : List ℕ) (c : Cursor) (lead : Keyword) (is : leads lead ≡ leading text) (start : c.at ≡ 0) where
  pub lead_fits : c.at + lead.size ≤ length text
  lead_fits = omega (arith, ap (λ (l : Leading). l.size) is, leading_fits text)

  pub of_kind : (known : Known) {table : List ℕ} {m : Mentioned} (kind : Keywords.StatementKind) → kind_of lead.kind ≡ kind
      → {d : Cursor} → d ≡ cursor_moved c lead.size → ReaderReady text d → (q : Form) {t : List ℕ} {m₁ : Mentioned}
      → FormAt (form_of current (is_number_known known) (places_in known) kind (drop d.at text)) text table m d q t m₁
      → FormRead (letters text) table m c (statement_form current (is_number_known known) (places_in known) text) q t m₁
  unfolding statement_form
  of_kind known {table} {m} kind e {d} s ready q {t} {m₁} f =
      let forms = form_of current (is_number_known known) (places_in known) in
      let at : d.at ≡ (leading text).size =
      ap (λ (z : Cursor). z.at) s ∙ ap (λ n. n + lead.size) start ∙ zero-add lead.size ∙ ap (λ (l : Leading). l.size) is in
      let most : letters (drop c.at text) ≡ letters text = ap (λ i. letters (drop i text)) start in
      subst (λ n. FormRead n table m c (forms (leading text).kind (drop (leading text).size text)) q t m₁) most
      (subst (λ z. FormRead (letters (drop c.at text)) table m c z q t m₁)
      (ap₂ (λ (j : Keywords.StatementKind) (n : ℕ). forms j (drop n text)) (sym e ∙ ap (λ (l : Leading). l.kind) is) at)
      (form_skip lead.size (skipped c lead.size s) ready (forms kind) q f))
