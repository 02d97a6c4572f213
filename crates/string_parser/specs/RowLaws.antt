-- Literals, elements and rows of them: how each is read and written. Assumes nothing.
use Rattle.std.specs.Prelude.{Option, Some, None, true, false, not, ◌||◌, ◌≡◌, max, eqb, ltb, drop}
use Rattle.std.proofs.Math.Bool.{or-false}
use mathlib.Core.List.{List, [], ◌∷◌, ◌++◌, map, append-nil, map-id}
use Rattle.std.proofs.Math.Path.{refl, sym, ap, subst}
use Rattle.std.proofs.Common.{ap₂, ◌∙◌, add-zero, arith, drop_of_length-le, drop-drop, length-take-le, take-take, ltb-true}
use Rattle.std.proofs.Common.{ltb-false, lt-ltb, le-ltb, ne_eqb}
use Prim.Native.Nat.{ℕ, zero, suc, ◌+◌, ◌-◌, ◌≤◌, ◌<◌}
use Rattle.std.proofs.Math.ListN.{length, take, length-drop}
use Rattle.std.proofs.lemmas.List.{length-map}
use Rattle.base.specs.Choice.{test_cases}
use Rattle.base.specs.Current.{current}
use Rattle.base.specs.Limits as Limits
use Rattle.base.specs.Lists.{any, begins}
use Rattle.base.specs.ListLaws.{begins_iff, begins_inside}
use Rattle.base.specs.Text.{bytes}
use Rattle.encoding.specs.Kinds.{literal_kind, parts}
use Rattle.encoding.specs.Table as Table
use Rattle.encoding.specs.Table.{part_cell, range_value, pattern_cell, literal_in, all_literals}
use Rattle.cards.specs.Bytes.{quote}
use Rattle.syntax.specs.Program.{literal, part, PatternElement, value}
use Rattle.syntax.specs.Parsing.{Role, Mentions, merge_mentions, one_row, one_literal, Parsed, got, broken, ◌>>=◌, mentioning, succeed}
use Rattle.syntax.specs.Strings as Strings
use Rattle.syntax.specs.Strings.{literal_at, nothing_here, more_of, list_of, row_parser, text_call, filler_at}
use Rattle.syntax.specs.Lexemes.{Resolution, run_length, no_role, part_name}
use Rattle.symbols.specs.Elements.{with_element, with_literals, elements-one}
use Rattle.symbols.specs.Entries.{NameEntry, role_of, gather, mentions_in}
use Rattle.symbols.specs.EntryLaws.{mentions_more}
use Rattle.symbols.specs.Environment.{places_in}
use Rattle.symbols.specs.declared.Cursor.{Cursor}
use Rattle.symbols.specs.declared.Mentioned.{Mentioned}
use Rattle.symbols.specs.declared.known.Known.{Known}
use Rattle.symbols.specs.declared.tags.Role.TheVariants.{Sought}
use Rattle.encoding.specs.declared.cells.Cell.{Cell}
use Rattle.numeric_parser.specs.OperandLaws.{noting_none, skipped, drop-moved, ready_here, then_broken, cell-made, cell_skip, chosen}
use Rattle.numeric_parser.specs.Operands.{cursor_moved, ReaderReady, OperandRead}
use Rattle.card_reader.specs.Letters.{letters_on}
use Rattle.string_parser.specs.CellLaws.{Bare, Always, always_got, text_bare, part_bare, filler-bare}
use Rattle.string_parser.specs.Cells.{bare_cell}
use Rattle.string_parser.specs.ElementLaws.{elements_none, elements-succeed, elements_then, elements_broken, elements_skip}
use Rattle.string_parser.specs.Elements.{GetsElements, rows_of, GetsRow, RowRead, cell_written, celled, LiteralWritten, LiteralRead, GetsOne}
use Rattle.string_parser.specs.Elements.{ReadsOne, ElementRead, PatternElementRead, OneRead, ReadsMany, MoreFollow, ended_row, row_ended, shown}
use Rattle.string_parser.specs.Elements.{read_one, RowsRead}
use Rattle.string_parser.specs.declared.Elements.{Elements}
use Rattle.string_parser.specs.declared.Elements.TheVariants.{OfString, OfPattern}

-- by the same reading, and of a value made of another
pub one_same : {A : Type 0} {f : A → PatternElement} {text table : List ℕ} {m : Mentioned} {c : Cursor} {x y : Parsed A} {r : Option Cursor}
    {t : List ℕ} {m₁ : Mentioned} → x ≡ y → ReadsOne f text table m c y r t m₁ → ReadsOne f text table m c x r t m₁
one_same {f = f} {text} {table} {m} {c} {r = r} {t} {m₁} e a = subst (λ z. ReadsOne f text table m c z r t m₁) (sym e) a

one-made : {A B : Type 0} (g : A → B) (h : B → PatternElement) {text table : List ℕ} {m : Mentioned} {c : Cursor} {x : Parsed A}
    {t : List ℕ} {m₁ : Mentioned} {d : Cursor} → GetsOne (λ a. h (g a)) text table m c x t m₁ d
    → GetsOne h text table m c (x >>= λ (a, rest). succeed (g a) rest) t m₁ d
one-made g h a =
    record { element = g a.element; gets = elements-succeed a.gets _ (g a.element) refl; further = a.further }

-- a literal of n bytes behind the quote at the cursor
pub literal_spelt : {text table : List ℕ} {m : Mentioned} {c : Cursor} (n size : ℕ) {t : List ℕ} {d : Cursor} → ReaderReady text c
    → c.at + 1 + n ≤ length text → c.at + size ≤ length text → n < size
    → literal_at (drop (c.at + 1) text) ≡ got (take n (drop (c.at + 1) text)) (one_literal n) (drop (c.at + size) text)
    → LiteralWritten text table c n size t d → LiteralRead text table m c t d
unfolding one_literal mentions_in gather all_literals literal_in pattern_cell any
literal_spelt {text} {table} {m} {c} n size {t} {d} ready inside end more is s =
    let w = take n (drop (c.at + 1) text) in
    let count : length w ≡ n = length-take-le n (drop (c.at + 1) text) (omega (arith, length-drop (c.at + 1) text)) in
    let all : length (w ++ []) ≡ n = ap length (append-nil w) ∙ count in
    let at : d.at ≡ c.at + size = ap (λ (z : Cursor). z.at) s.goes in
    let names : d.names ≡ c.names = ap (λ (z : Cursor). z.names) s.goes in
    let items : d.items ≡ c.items = ap (λ (z : Cursor). z.items) s.goes in
    let elements : d.elements ≡ c.elements + 1 = ap (λ (z : Cursor). z.elements) s.goes in
    let literals : d.literals ≡ c.literals + n = ap (λ (z : Cursor). z.literals) s.goes in
    let fewer = letters_on text c.at d.at (omega arith) in
    record {
      element = w;
      gets =
          record {
            entries = [];
            is =
                is
                ∙ ap₂ (λ (i j : ℕ). got w (mentions_in [] 0 [] i) (drop j text)) (sym all) (sym at);
            written =
                s.written
                ∙ ap (λ j. with_element (with_literals table c.literals w) c.elements (Table.cell literal_kind.number 0 (range_value c.literals j 0))) (sym count)
                ∙ sym (elements-one table c.elements c.literals (value (literal w)));
            noting = noting_none c.names;
            goes =
                record {
                  names = names ∙ sym (add-zero c.names);
                  items = items;
                  elements = elements;
                  literals = literals ∙ ap (λ j. c.literals + j) (sym all);
                  longest =
                      ap (λ (z : Cursor). ltb Limits.row_elements z.longest) s.goes ∙ sym (or-false (ltb Limits.row_elements c.longest));
                };
            ready =
                record {
                  text_size = ready.text_size;
                  inside = omega arith;
                  names = omega (arith, ready.names, fewer);
                  items = omega (arith, ready.items);
                  elements = omega (arith, ready.elements);
                  literals = omega (arith, ready.literals);
                };
            few = omega (arith, fewer);
            short = omega arith;
          };
      further = omega arith;
    }

-- the bytes of a literal: one quote, or those before the next one
module _ (bs : List ℕ) where
  pub literal_quote : begins (34 ∷ (34 ∷ [])) bs ≡ true → literal_at bs ≡ got (take 1 bs) (one_literal 1) (drop 2 bs)
  unfolding literal_at bytes quote
  literal_quote e =
      let two : take 2 bs ≡ 34 ∷ (34 ∷ []) = (begins_iff (34 ∷ (34 ∷ [])) bs).0 e in
      let one : take 1 bs ≡ 34 ∷ [] = sym (take-take 1 2 bs (omega arith)) ∙ ap (take 1) two in
      chosen _ _ e ∙ ap (λ (w : List ℕ). got w (one_literal 1) (drop 2 bs)) (sym one)

  pub literal_run : {n : ℕ} → begins (34 ∷ (34 ∷ [])) bs ≡ false → n ≡ run_length (λ b. not (eqb b quote)) bs
      → literal_at bs ≡ got (take n bs) (one_literal n) (drop (n + 1) bs)
  unfolding literal_at bytes
  literal_run e is = chosen _ _ e ∙ ap (λ n. got (take n bs) (one_literal n) (drop (n + 1) bs)) (sym is)

-- where a literal ends: behind its last quote, or at the end of the text
module _ (text : List ℕ) (at n : ℕ) where
  pub literal_ends : (j size : ℕ) → j + 1 ≡ size
      → got (take n (drop (at + 1) text)) (one_literal n) (drop j (drop (at + 1) text))
      ≡ got (take n (drop (at + 1) text)) (one_literal n) (drop (at + size) text)
  literal_ends j size e =
      let place : at + 1 + j ≡ at + size = omega arith in
      ap (got (take n (drop (at + 1) text)) (one_literal n)) (drop-drop j (at + 1) text ∙ ap (λ i. drop i text) place)

  pub literal_open : length text ≤ at + 1 + n
      → got (take n (drop (at + 1) text)) (one_literal n) (drop (n + 1) (drop (at + 1) text))
      ≡ got (take n (drop (at + 1) text)) (one_literal n) (drop (at + (n + 1)) text)
  literal_open h =
      let behind : length text ≤ at + 1 + (n + 1) = omega arith in
      let end : length text ≤ at + (n + 1) = omega arith in
      ap (got (take n (drop (at + 1) text)) (one_literal n))
      (drop-drop (n + 1) (at + 1) text ∙ drop_of_length-le text behind ∙ sym (drop_of_length-le text end))

-- a cell that was read is one element with no literal bytes
pub cell-element : {A : Type 0} (f : A → PatternElement) {text : List ℕ} (table : List ℕ) {m : Mentioned} {c : Cursor} {x : Parsed A}
    (r : Option (Cell × Cursor)) {m₁ : Mentioned} → ReaderReady text c
    → Always (λ a. Bare (f a)) x → OperandRead (λ a. pattern_cell 0 (f a)) text m c x r m₁
    → ReadsOne f text table m c x (cell_written r) (celled table r) m₁
unfolding all_literals with_literals any
cell-element f {text} table {c = c} {x} (Some (v, d)) {m₁} ready bare a =
    let r = a.answer in
    let e = f r.value in
    let b = always_got (subst (Always (λ a. Bare (f a))) r.is bare) in
    let zero : length (literal_in e ++ []) ≡ 0 = ap (λ (l : List ℕ). length (l ++ [])) b.none in
    record {
      answer =
          record {
            element = r.value;
            gets =
                record {
                  entries = r.entries;
                  is = r.is ∙ ap (λ j. got r.value (mentions_in r.entries 0 [] j) (drop d.at text)) (sym zero);
                  written =
                      ap₂ (λ (j : ℕ) (w : Table.Cell). with_element table j w) r.goes.elements (sym r.made ∙ sym (b.same c.literals))
                      ∙ ap (λ (l : List ℕ). with_element (with_literals table c.literals l) c.elements (pattern_cell c.literals e)) (sym b.none)
                      ∙ sym (elements-one table c.elements c.literals e);
                  noting = r.noting;
                  goes =
                      record {
                        names = r.goes.names;
                        items = r.goes.items ∙ add-zero c.items;
                        elements = ap (λ j. j + 1) r.goes.elements;
                        literals = r.goes.literals ∙ sym (add-zero c.literals) ∙ ap (λ j. c.literals + j) (sym zero);
                        longest = ap (ltb Limits.row_elements) r.goes.longest ∙ sym (or-false (ltb Limits.row_elements c.longest));
                      };
                  ready =
                      ready_here r.ready refl refl r.ready.items (omega (arith, ready.elements, r.goes, r.further))
                      r.ready.literals;
                  few = r.few;
                  short = omega (arith, r.further);
                };
            further = r.further;
          };
    }
cell-element f table None ready bare a = record { answer = a.answer }

-- the code's outcome is this one
pub one_written : {A : Type 0} {f : A → PatternElement} {text table : List ℕ} {m : Mentioned} {c : Cursor} {x : Parsed A}
    (q : Option (Cell × Cursor)) {r : Option Cursor} {t : List ℕ} {m₁ : Mentioned} → (r ≡ cell_written q) × (t ≡ celled table q)
    → ReadsOne f text table m c x (cell_written q) (celled table q) m₁
    → ReadsOne f text table m c x r t m₁
one_written {f = f} {text} {table} {m} {c} {x} q {r} {t} {m₁} e a =
    subst (λ z. ReadsOne f text table m c x z t m₁) (sym e.0)
    (subst (λ (z : List ℕ). ReadsOne f text table m c x (cell_written q) z m₁) (sym e.1) a)

-- an element by its first bytes
module _ (p : Resolution) (roles : List ℕ → List Role) {text table : List ℕ} {m : Mentioned} {c : Cursor} (ready : ReaderReady text c) where
  pub element_literal : {t : List ℕ} {d : Cursor} → begins (34 ∷ []) (drop c.at text) ≡ true → LiteralRead text table m c t d
      → ReadsOne value text table m c (Strings.element current p roles (drop c.at text)) (Some d) t m
  unfolding Strings.element bytes
  element_literal e a =
      one_same (chosen _ _ e ∙ ap (λ (l : List ℕ). literal_at l >>= λ (w, rest). succeed (literal w) rest) (drop-drop 1 c.at text))
      (record { answer = one-made literal value a })

  module _ (no : begins (34 ∷ []) (drop c.at text) ≡ false) where
    pub element_text : (q : Option (Cell × Cursor)) {d : Cursor} {m₁ : Mentioned} → d ≡ cursor_moved c 7
        → begins (bytes "STRING(") (drop c.at text) ≡ true
        → OperandRead bare_cell text m d (text_call current p (drop d.at text)) q m₁
        → ReadsOne value text table m c (Strings.element current p roles (drop c.at text)) (cell_written q) (celled table q) m₁
    unfolding Strings.element bytes
    element_text q {d} s e a =
        one_same (chosen _ _ no ∙ chosen _ _ e ∙ ap (text_call current p) (sym (drop-moved text c 7 s)))
        (cell-element value table q ready (text_bare p (drop d.at text)) (cell_skip 7 q (skipped c 7 s) a))

    pub element_part : (q : Option (Cell × Cursor)) {m₁ : Mentioned} → begins (bytes "STRING(") (drop c.at text) ≡ false
        → OperandRead (part_cell parts) text m c (part_name current p roles (drop c.at text)) q m₁
        → ReadsOne value text table m c (Strings.element current p roles (drop c.at text)) (cell_written q) (celled table q) m₁
    unfolding Strings.element bytes pattern_cell part_cell
    element_part q e a =
        one_same (chosen _ _ no ∙ chosen _ _ e)
        (cell-element value table q ready (part_bare p roles (drop c.at text)) (cell-made part bare_cell q (λ _. refl) a))

-- an element of a pattern
module _ (p : Resolution) {text table : List ℕ} {m : Mentioned} {c : Cursor} where
  pub pattern-filler : ReaderReady text c → (q : Option (Cell × Cursor)) {d : Cursor} {m₁ : Mentioned} → d ≡ cursor_moved c 1
      → begins (40 ∷ []) (drop c.at text) ≡ true
      → OperandRead (pattern_cell 0) text m d (filler_at current p (drop d.at text)) q m₁
      → ReadsOne (λ x. x) text table m c (Strings.pattern_element current p (drop c.at text)) (cell_written q) (celled table q) m₁
  unfolding Strings.pattern_element bytes
  pattern-filler ready q {d} s e a =
      one_same (chosen _ _ e ∙ ap (filler_at current p) (sym (drop-moved text c 1 s)))
      (cell-element (λ x. x) table q ready (filler-bare p (drop d.at text)) (cell_skip 1 q (skipped c 1 s) a))

  pub pattern_value : (r : Option Cursor) {t : List ℕ} {m₁ : Mentioned} → begins (40 ∷ []) (drop c.at text) ≡ false
      → ReadsOne value text table m c (Strings.element current p (role_of (Some Sought)) (drop c.at text)) r t m₁
      → ReadsOne (λ x. x) text table m c (Strings.pattern_element current p (drop c.at text)) r t m₁
  unfolding Strings.pattern_element bytes role_of
  pattern_value (Some d) e a = one_same (chosen _ _ e) (record { answer = one-made value (λ x. x) a.answer })
  pattern_value None e a = record { answer = chosen _ _ e ∙ then_broken _ a.answer }

-- an element of either
module _ (known : Known) {text table : List ℕ} {m : Mentioned} {c : Cursor} {elements : Elements} {r : Option Cursor}
    {t : List ℕ} {m₁ : Mentioned} where
  pub one-string : elements ≡ OfString → ElementRead text known table m c None r t m₁ → OneRead text known table m c elements r t m₁
  unfolding role_of no_role
  one-string e a = subst (λ z. OneRead text known table m c z r t m₁) (sym e) a

  pub one-pattern : elements ≡ OfPattern → PatternElementRead text known table m c r t m₁ → OneRead text known table m c elements r t m₁
  one-pattern e a = subst (λ z. OneRead text known table m c z r t m₁) (sym e) a

-- where a comma stands one turn is taken
abbrev turn : ℕ → ℕ
turn zero = 0
turn (suc n) = n

turns : (text : List ℕ) (d : Cursor) (n : ℕ) → begins (44 ∷ []) (drop d.at text) ≡ true → length text ≤ n + d.at → n ≡ suc (turn n)
turns text d zero comma h = absurd (omega (arith, begins_inside 44 [] text d.at comma))
turns text d (suc n) comma h = refl

module _ {A : Type 0} (one : List ℕ → Parsed A) where
  abbrev after : ℕ → A × List ℕ → Parsed (List A)
  after n = λ (x, rest). more_of one n rest >>= λ (xs, rest). succeed (x ∷ xs) rest

  begun : (text : List ℕ) (d : Cursor) {b : Cursor} → b ≡ cursor_moved d 1 → begins (44 ∷ []) (drop d.at text) ≡ true → (n : ℕ)
      → one (drop b.at text) >>= after n ≡ more_of one (suc n) (drop d.at text)
  unfolding more_of bytes
  begun text d s comma n = ap (λ (l : List ℕ). one l >>= after n) (drop-moved text d 1 s) ∙ sym (chosen _ _ comma)

-- more behind commas
module _ {A : Type 0} (f : A → PatternElement) (one : List ℕ → Parsed A) {text table : List ℕ} {m : Mentioned} {d : Cursor} where
  pub follows_end : ReaderReady text d → begins (44 ∷ []) (drop d.at text) ≡ false
      → MoreFollow f one text table m d (Some d) table m
  unfolding more_of bytes
  follows_end ready e zero h = record { answer = record { values = []; gets = elements_none [] ready } }
  follows_end ready e (suc n) h =
      record {
        answer =
            record {
              values = [];
              gets =
                  subst (λ y. GetsElements {A = List A} text table m d y [] [] [] table m d) (sym (chosen _ _ e))
                  (elements_none [] ready);
            };
      }

  module _ (comma : begins (44 ∷ []) (drop d.at text) ≡ true) {b : Cursor} (s : b ≡ cursor_moved d 1) where
    pub follows_broken : one (drop b.at text) ≡ broken → {t : List ℕ} {m₁ : Mentioned}
        → MoreFollow f one text table m d None t m₁
    follows_broken e n h =
        record {
          answer =
              ap (λ j. more_of one j (drop d.at text)) (turns text d n comma h)
              ∙ sym (begun one text d s comma (turn n))
              ∙ then_broken (after one (turn n)) e;
        }

    module _ {t : List ℕ} {m₁ : Mentioned} {e : Cursor} (a : GetsOne f text table m b (one (drop b.at text)) t m₁ e) where
      followed : (r : Option Cursor) {t₂ : List ℕ} {m₂ : Mentioned} (n : ℕ)
          → ReadsMany f text t m₁ e (more_of one n (drop e.at text)) r t₂ m₂
          → ReadsMany f text table m d (one (drop b.at text) >>= after one n) r t₂ m₂
      followed (Some z) n many =
          let q = many.answer in
          record {
            answer =
                record {
                  values = a.element ∷ q.values;
                  gets =
                      elements_then (elements_skip 1 (skipped d 1 s) a.gets) (after one n)
                      (elements-succeed q.gets (λ (xs, rest). succeed (a.element ∷ xs) rest) (a.element ∷ q.values) refl);
                };
          }
      followed None n many =
          record {
            answer = elements_broken a.gets (after one n) (then_broken (λ (xs, rest). succeed (a.element ∷ xs) rest) many.answer);
          }

      pub follows_more : (r : Option Cursor) {t₂ : List ℕ} {m₂ : Mentioned} → MoreFollow f one text t m₁ e r t₂ m₂
          → MoreFollow f one text table m d r t₂ m₂
      follows_more r {t₂} {m₂} more n h =
          let taken = turns text d n comma h in
          let far : length text ≤ turn n + e.at = omega (arith, taken, a.further, ap (λ (z : Cursor). z.at) s) in
          subst (λ y. ReadsMany f text table m d y r t₂ m₂)
          (begun one text d s comma (turn n) ∙ ap (λ j. more_of one j (drop d.at text)) (sym taken))
          (followed r (turn n) (more (turn n) far))

-- the code is at d, and what is read from there leads to all that is read from c on
pub record RowPassing {A : Type 0} (f : A → PatternElement) (one : List ℕ → Parsed A) (text table₀ : List ℕ) (m₀ : Mentioned) (c : Cursor)
    (table : List ℕ) (m : Mentioned) (d : Cursor) : Type 0 where
  pub ready : ReaderReady text d
  pub leads : (r : Option Cursor) (t : List ℕ) (m' : Mentioned) → MoreFollow f one text table m d r t m' → MoreFollow f one text table₀ m₀ c r t m'

module _ {A : Type 0} (f : A → PatternElement) (one : List ℕ → Parsed A) {text table₀ : List ℕ} {m₀ : Mentioned} {c : Cursor} where
  pub passing_none : ReaderReady text c → RowPassing f one text table₀ m₀ c table₀ m₀ c
  passing_none ready = record { ready = ready; leads = λ r t m' more. more }

  module _ {table : List ℕ} {m : Mentioned} {d : Cursor} (p : RowPassing f one text table₀ m₀ c table m d) where
    pub passing_more : begins (44 ∷ []) (drop d.at text) ≡ true → {b : Cursor} → b ≡ cursor_moved d 1 → {t : List ℕ} {m₁ : Mentioned} {e : Cursor}
        → GetsOne f text table m b (one (drop b.at text)) t m₁ e
        → RowPassing f one text table₀ m₀ c t m₁ e
    passing_more comma s a =
        record { ready = a.gets.ready; leads = λ r t' m' more. p.leads r t' m' (follows_more f one comma s a r more) }

    pub passing_broken : begins (44 ∷ []) (drop d.at text) ≡ true → {b : Cursor} → b ≡ cursor_moved d 1 → one (drop b.at text) ≡ broken
        → {t : List ℕ} {m₁ : Mentioned} → MoreFollow f one text table₀ m₀ c None t m₁
    passing_broken comma s e = p.leads None _ _ (follows_broken f one comma s e)

    pub passing_end : begins (44 ∷ []) (drop d.at text) ≡ false
        → MoreFollow f one text table₀ m₀ c (Some d) table m
    passing_end e = p.leads (Some d) table m (follows_end f one p.ready e)

pub more_lost : {A : Type 0} (f : A → PatternElement) (one : List ℕ → Parsed A) {text table : List ℕ} {m : Mentioned} {c : Cursor} {r : Option Cursor}
    {t : List ℕ} {m₁ : Mentioned} → r ≡ None → MoreFollow f one text table m c None t m₁ → MoreFollow f one text table m c r t m₁
more_lost f one {text} {table} {m} {c} {t = t} {m₁} e a =
    subst (λ z. MoreFollow f one text table m c z t m₁) (sym e) a

-- which of two rows is the longer
longest-row : (l n : ℕ) → ltb Limits.row_elements (max l n) ≡ (ltb Limits.row_elements l || (ltb Limits.row_elements n || false))
longest-row l n =
    test_cases (λ b. ltb 20 l ≡ b → ltb 20 (max l n) ≡ (b || (ltb 20 n || false))) (ltb 20 l)
    (λ _ h. lt-ltb 20 (max l n) (omega (arith, ltb-true 20 l h)))
    (λ _ h.
    test_cases (λ b. ltb 20 n ≡ b → ltb 20 (max l n) ≡ (b || false)) (ltb 20 n)
    (λ _ g. lt-ltb 20 (max l n) (omega (arith, ltb-true 20 n g)))
    (λ _ g. le-ltb 20 (max l n) (omega (arith, ltb-false 20 l h, ltb-false 20 n g))) refl) refl

-- a row of some elements is mentioned as one
rows_some : (n : ℕ) → rows_of (suc n) ≡ suc n ∷ []
unfolding rows_of
rows_some n = rw (ne_eqb (suc n) 0 (λ e. omega arith))

row_mentioned : (es : List NameEntry) (n l : ℕ) → merge_mentions (mentions_in es 0 [] l) (one_row n) ≡ mentions_in es 0 (n ∷ []) l
unfolding one_row mentions_in gather
row_mentioned es n l = mentions_more es 0 0 [] (n ∷ []) l 0 ∙ ap (mentions_in es 0 (n ∷ [])) (add-zero l)

-- a row that is read whole
module _ {A : Type 0} (f : A → PatternElement) (one : List ℕ → Parsed A) {text table : List ℕ} {m : Mentioned} {c : Cursor}
    (some : nothing_here (drop c.at text) ≡ false) where
  module _ (x : A) (xs : List A) {t : List ℕ} {m₁ : Mentioned} (z : Cursor)
      (a : GetsElements text table m c (list_of one (drop c.at text)) (x ∷ xs) (map f (x ∷ xs)) [] t m₁ z) where
    row_counted : GetsRow (map f) text table m c (row_parser one (drop c.at text)) t m₁ (ended_row c.elements z)
    unfolding row_parser ◌>>=◌ mentioning any
    row_counted =
        let n = length (x ∷ xs) in
        let l = length (all_literals (map f (x ∷ xs))) in
        let count : z.elements - c.elements ≡ n = omega (arith, a.goes.elements, length-map (x ∷ xs) f) in
        record {
          values = x ∷ xs;
          gets =
              subst
              (λ rows.
              GetsElements text table m c (row_parser one (drop c.at text)) (x ∷ xs) (map f (x ∷ xs)) rows t m₁ (ended_row c.elements z))
              (sym (rows_some (length xs)))
              (record {
                entries = a.entries;
                is =
                    chosen _ _ some
                    ∙ ap (λ (y : Parsed (List A)). y >>= λ (xs, rest). got xs (one_row (length xs)) rest) a.is
                    ∙ ap (λ (m : Mentions). got (x ∷ xs) m (drop z.at text)) (row_mentioned a.entries n l);
                written = a.written;
                noting = a.noting;
                goes =
                    record {
                      names = a.goes.names;
                      items = a.goes.items;
                      elements = a.goes.elements;
                      literals = a.goes.literals;
                      longest =
                          ap (λ j. ltb Limits.row_elements (max z.longest j)) count
                          ∙ longest-row z.longest n
                          ∙ ap (λ b. b || (ltb Limits.row_elements n || false)) (a.goes.longest ∙ or-false (ltb Limits.row_elements c.longest));
                    };
                ready = ready_here a.ready refl refl a.ready.items a.ready.elements a.ready.literals;
                few = a.few;
                short = a.short;
              });
          size = a.goes.elements ∙ ap (λ i. c.elements + i) (length-map (x ∷ xs) f);
        }

  pub row-got : {t : List ℕ} {m₁ : Mentioned} {d : Cursor} → GetsOne f text table m c (one (drop c.at text)) t m₁ d
      → (r : Option Cursor) {t₂ : List ℕ} {m₂ : Mentioned} → MoreFollow f one text t m₁ d r t₂ m₂
      → RowRead (map f) text table m c (row_parser one (drop c.at text)) (row_ended c.elements r) t₂ m₂
  unfolding row_parser list_of
  row-got {d = d} a (Some z) more =
      let far : length text ≤ length (drop d.at text) + d.at = omega (arith, length-drop d.at text) in
      let q = (more (length (drop d.at text)) far).answer in
      record {
        answer =
            row_counted a.element q.values z
            (elements_then a.gets (λ (x, rest). more_of one (length rest) rest >>= λ (xs, rest). succeed (x ∷ xs) rest)
            (elements-succeed q.gets (λ (xs, rest). succeed (a.element ∷ xs) rest) (a.element ∷ q.values) refl));
      }
  row-got {d = d} a None more =
      let far : length text ≤ length (drop d.at text) + d.at = omega (arith, length-drop d.at text) in
      record {
        answer =
            chosen _ _ some
            ∙ then_broken _
            (elements_broken a.gets (λ (x, rest). more_of one (length rest) rest >>= λ (xs, rest). succeed (x ∷ xs) rest)
            (then_broken (λ (xs, rest). succeed (a.element ∷ xs) rest) (more (length (drop d.at text)) far).answer));
      }

  -- more elements stand behind the first of the row
  pub row-behind : {t : List ℕ} {m₁ : Mentioned} {d : Cursor} → GetsOne f text table m c (one (drop c.at text)) t m₁ d → {z : Cursor}
      {t₂ : List ℕ} {m₂ : Mentioned} → MoreFollow f one text t m₁ d (Some z) t₂ m₂ → c.elements ≤ z.elements
  row-behind {d = d} a more =
      let q = (more (length text) (omega arith)).answer in
      omega (arith, a.gets.goes.elements, q.gets.goes.elements)

pub row_broken : {A : Type 0} (one : List ℕ → Parsed A) (bs : List ℕ) → nothing_here bs ≡ false → one bs ≡ broken → row_parser one bs ≡ broken
unfolding row_parser list_of
row_broken one bs some e = chosen _ _ some ∙ then_broken _ (then_broken _ e)

-- nothing stands there
pub row_nothing : {A : Type 0} (f : A → PatternElement) (one : List ℕ → Parsed A) {text table : List ℕ} {m : Mentioned} {c : Cursor}
    → ReaderReady text c → nothing_here (drop c.at text) ≡ true
    → RowRead (map f) text table m c (row_parser one (drop c.at text)) (Some c) table m
unfolding row_parser rows_of
row_nothing {A} f one {text} {table} {m} {c} ready e =
    record {
      answer =
          record {
            values = [];
            gets =
                subst (λ y. GetsElements {A = List A} text table m c y [] [] [] table m c) (sym (chosen _ _ e))
                (elements_none [] ready);
            size = sym (add-zero c.elements);
          };
    }

-- a broken row
pub rows_lost : (elements : Elements) (known : Known) {text table : List ℕ} {m : Mentioned} {c : Cursor} {r : Option Cursor}
    {t : List ℕ} {m₁ : Mentioned} → r ≡ None → RowsRead text known table m c elements None t m₁ → RowsRead text known table m c elements r t m₁
rows_lost elements known {text} {table} {m} {c} {t = t} {m₁} e a =
    subst (λ z. RowsRead text known table m c elements z t m₁) (sym e) a

-- a row of elements is a string expression, or a pattern, whose elements are its values
pub row-whole : (elements : Elements) (known : Known) {text table : List ℕ} {m : Mentioned} {c : Cursor} (r : Option Cursor)
    {t : List ℕ} {m₁ : Mentioned}
    → RowRead (map (shown elements)) text table m c (row_parser (read_one elements (places_in known)) (drop c.at text)) r t m₁
    → RowsRead text known table m c elements r t m₁
unfolding Strings.pattern Strings.string_expression
row-whole OfString known r a = a
row-whole OfPattern known {text} {table} {m} {c} (Some d) {t} {m₁} a =
    let q = a.answer in
    let x = row_parser (read_one OfPattern (places_in known)) (drop c.at text) in
    record {
      answer =
          record {
            values = q.values;
            gets =
                subst (λ es. GetsElements text table m c x q.values es (rows_of (length q.values)) t m₁ d)
                (map-id q.values) q.gets;
            size = q.size;
          };
    }
row-whole OfPattern known None a = record { answer = a.answer }
