-- Forms read part by part: what is read so far and what is still to be read, up to the end of the statement. Assumes nothing.
use Rattle.std.specs.Prelude.{Some, None, Bool, ◌≡◌, refl, ℕ, ◌+◌, ◌≤◌, ◌<◌, ltb, length, drop}
use Rattle.std.proofs.Math.Bool.{true, false}
use mathlib.Core.List.{List, [], ◌∷◌, ◌++◌}
use Rattle.std.proofs.Math.Option.{Option, none, some}
use Rattle.std.proofs.Common.{sym, ap₂, ◌∙◌, add-zero, arith, length-append, length-drop, drop_of_length-le}
use Rattle.std.proofs.Math.Path.{ap, subst}
use borrow.Author.Tests.{ltb-true, ltb-false}
use Rattle.base.specs.Lists.{total}
use Rattle.encoding.specs.Meaning.{row_meaning}
use Rattle.encoding.specs.declared.cells.Row.{Row}
use Rattle.encoding.specs.Table as Table
use Rattle.encoding.specs.Table.{statement_row, items_of, elements_of, all_literals}
use Rattle.calls.specs.Producing.{total-append}
use Rattle.syntax.specs.Forms.{step_form, no_step_form}
use Rattle.syntax.specs.Program.{Item, PatternElement, Statement}
use Rattle.syntax.specs.Parsing.{Parsed, got, broken, ◌>>=◌, succeed, end_of_text}
use Rattle.symbols.specs.Elements.{with_elements}
use Rattle.symbols.specs.Entries.{mentions_in}
use Rattle.symbols.specs.Items.{with_items}
use Rattle.symbols.specs.declared.Cursor.{Cursor}
use Rattle.symbols.specs.ParsingLaws.{succeed_then, bind_assoc, bind_same}
use Rattle.numeric_parser.specs.OperandLaws.{then_broken}
use Rattle.numeric_parser.specs.Operands.{ReaderReady, Skips}
use Rattle.card_reader.specs.Letters.{letters}
use Rattle.string_parser.specs.ElementLaws.{elements_none, elements-succeed, elements_then, elements_broken, elements_skip}
use Rattle.string_parser.specs.Elements.{GetsElements}
use Rattle.statement_parser.specs.Drafts.{Draft}
use Rattle.statement_parser.specs.Clauses.{statement_items, elements_in, FormWritten, FormRead}
use Rattle.statement_parser.specs.Ends.{ended_by}
use Rattle.statement_parser.specs.Stages.{Drawn, StageRead}
use Rattle.symbols.specs.declared.Mentioned.{Mentioned}

-- ---- a form so far
pub record FormGoing {A S : Type 0} (form : Parsed S) (left : A → List ℕ → Parsed S) (mk : A → Table.Row) (es : A → List PatternElement)
    (text table : List ℕ) (m : Mentioned) (c : Cursor) (row : Row) (table' : List ℕ) (m' : Mentioned) (d : Cursor) : Type 0 where
  pub value : A
  pub before : Parsed A
  pub rows : List ℕ
  pub counted : total (λ n. n) rows ≡ length (es value)
  pub gets : GetsElements text table m c before value (es value) rows table' m' d
  pub made : row_meaning row ≡ mk value
  pub whole : form ≡ (before >>= λ (a, rest). left a rest)

abbrev pub GoingAnswer : {A S : Type 0} (form : Parsed S) (left : A → List ℕ → Parsed S) (mk : A → Table.Row) (es : A → List PatternElement)
    (text table : List ℕ) (m : Mentioned) (c : Cursor) → Draft → (table' : List ℕ) (m' : Mentioned) → Type 0
GoingAnswer form left mk es text table m c (Some (row, d)) table' m' =
    FormGoing form left mk es text table m c row table' m' d
GoingAnswer form left mk es text table m c None table' m' = form ≡ broken

-- of the form this is left to be read; the row so far is what mk makes of the values so far, and es are their elements
pub record FormGoesOn {A S : Type 0} (form : Parsed S) (left : A → List ℕ → Parsed S) (mk : A → Table.Row) (es : A → List PatternElement)
    (text table : List ℕ) (m : Mentioned) (c : Cursor) (r : Draft) (table' : List ℕ) (m' : Mentioned) : Type 0 where
  pub answer : GoingAnswer form left mk es text table m c r table' m'

-- nothing is read yet
pub going_start : {S : Type 0} {form : Parsed S} (left : List ℕ → Parsed S) {text table : List ℕ} {m : Mentioned} {c : Cursor} (n : ℕ) {row : Row}
    {d : Cursor} → Skips c n d → ReaderReady text d → form ≡ left (drop d.at text)
    → FormGoesOn {A = Unit {0}} form (λ _ rest. left rest) (λ _. row_meaning row) (λ _. []) text table m c (Some (row, d))
    table m
unfolding total
going_start left {text} n {d = d} s ready e =
    record {
      answer =
          record {
            value = tt;
            before = succeed tt (drop d.at text);
            rows = [];
            counted = refl;
            gets = elements_skip n s (elements_none tt ready);
            made = refl;
            whole = e ∙ sym (succeed_then tt (drop d.at text) _);
          };
    }

-- a value with the one read behind it
abbrev pairs : {A U : Type 0} (y : List ℕ → Parsed U) → A → List ℕ → Parsed (A × U)
pairs y a bs = y bs >>= λ (u, rest). succeed (a, u) rest

pairs-left : {A U S : Type 0} (y : List ℕ → Parsed U) (left : A × U → List ℕ → Parsed S) (a : A) (bs : List ℕ)
    → (y bs >>= λ (u, rest). left (a, u) rest) ≡ (pairs y a bs >>= λ (p, rest). left p rest)
pairs-left y left a bs =
    sym (bind_assoc (y bs) _ _ ∙ bind_same (y bs) _ _ (λ u rest. succeed_then (a, u) rest (λ (p, l). left p l)))

-- one part more
module _ {A U S : Type 0} {form : Parsed S} {left : A → List ℕ → Parsed S} {mk : A → Table.Row} {es : A → List PatternElement}
    (y : List ℕ → Parsed U) (puts : ℕ → U → Table.Row → Table.Row) (eu : U → List PatternElement) (left' : A × U → List ℕ → Parsed S)
    (mk' : A × U → Table.Row) (es' : A × U → List PatternElement) {text table : List ℕ} {m : Mentioned} {c : Cursor}
    (next : (a : A) (bs : List ℕ) → left a bs ≡ (y bs >>= λ (u, rest). left' (a, u) rest))
    (makes : (a : A) (u : U) → puts (c.elements + length (es a)) u (mk a) ≡ mk' (a, u))
    (sum : (a : A) (u : U) → es a ++ eu u ≡ es' (a, u)) where
  more-got : {row row' : Row} {b d : Cursor} {t t' : List ℕ} {m₁ m₂ : Mentioned}
      → FormGoing form left mk es text table m c row t m₁ b
      → Drawn (y (drop b.at text)) (puts b.elements) eu text t m₁ row b row' t' m₂ d
      → FormGoing form left' mk' es' text table m c row' t' m₂ d
  more-got {row} {row'} {b} {d} {t' = t'} {m₂ = m₂} a s =
      let p : A × U = (a.value, s.value) in
      let rows = a.rows ++ s.rows in
      let x : Parsed (A × U) = a.before >>= λ (z, rest). pairs y z rest in
      record {
        value = p;
        before = x;
        rows = rows;
        counted =
            total-append (λ n. n) a.rows s.rows
            ∙ ap₂ (λ (i j : ℕ). i + j) a.counted s.counted
            ∙ sym (length-append (es a.value) (eu s.value))
            ∙ ap length (sum a.value s.value);
        gets =
            subst (λ (l : List PatternElement). GetsElements text table m c x p l rows t' m₂ d) (sum a.value s.value)
            (elements_then a.gets (λ (z, rest). pairs y z rest) (elements-succeed s.gets _ p refl));
        made =
            s.made
            ∙ ap (λ (n : ℕ). puts n s.value (row_meaning row)) a.gets.goes.elements
            ∙ ap (puts (c.elements + length (es a.value)) s.value) a.made
            ∙ makes a.value s.value;
        whole =
            a.whole
            ∙ bind_same a.before _ _ (λ z rest. next z rest ∙ pairs-left y left' z rest)
            ∙ sym (bind_assoc a.before (λ (z, rest). pairs y z rest) (λ (z, rest). left' z rest));
      }

  pub going_more : (r q : Draft) {t t' : List ℕ} {m₁ m₂ : Mentioned} → FormGoesOn form left mk es text table m c r t m₁
      → StageRead y puts eu text t m₁ r q t' m₂ → FormGoesOn form left' mk' es' text table m c q t' m₂
  going_more (Some (row, b)) (Some (row', d)) a s = record { answer = more-got a.answer s.answer }
  going_more (Some (row, b)) None a s =
      let going = a.answer in
      record {
        answer =
            going.whole
            ∙ elements_broken going.gets _ (next going.value (drop b.at text) ∙ then_broken _ s.answer);
      }
  going_more None (Some (row', d)) a s = absurd s.answer
  going_more None None a s = record { answer = a.answer }

-- ---- the end of a statement
drop_something : (n : ℕ) (bs : List ℕ) → n < length bs → end_of_text (drop n bs) ≡ broken
unfolding end_of_text
drop_something n bs h = some_left (drop n bs) (omega (arith, length-drop n bs))
  where
    some_left : (l : List ℕ) → 0 < length l → end_of_text l ≡ broken
    some_left [] h = absurd (omega arith)
    some_left (x ∷ l) h = refl

module _ (text : List ℕ) (at : ℕ) where
  module _ (e : length text ≤ at) where
    end_here : {B : Type 0} (b : B) → (end_of_text (drop at text) >>= λ (_, rest). succeed b rest) ≡ succeed b (drop at text)
    unfolding end_of_text
    end_here b =
        ap (λ (l : List ℕ). end_of_text l >>= λ (_, rest). succeed b rest) (drop_of_length-le text e)
        ∙ succeed_then tt [] (λ (_, rest). succeed b rest)
        ∙ ap (succeed b) (sym (drop_of_length-le text e))

    pub step-here : (s : Statement) → step_form s (drop at text) ≡ succeed (some s) (drop at text)
    unfolding step_form
    step-here s = end_here (some s)

    pub no_step_here : no_step_form (drop at text) ≡ succeed none (drop at text)
    unfolding no_step_form
    no_step_here = end_here none

  module _ (e : at < length text) where
    pub step_not : (s : Statement) → step_form s (drop at text) ≡ broken
    unfolding step_form
    step_not s = then_broken _ (drop_something at text e)

    pub no_step_not : no_step_form (drop at text) ≡ broken
    unfolding no_step_form
    no_step_not = then_broken _ (drop_something at text e)

-- a statement with no items, read to the end
pub formed_elements : {v : Option Statement} {es : List PatternElement} {rows : List ℕ} {text table : List ℕ} {m : Mentioned} {c : Cursor}
    {x : Parsed (Option Statement)} {t : List ℕ} {m₁ : Mentioned} {d : Cursor} → GetsElements text table m c x v es rows t m₁ d → length text ≤ d.at
    → total (λ n. n) rows ≡ length es → es ≡ elements_in v → [] ≡ statement_items v → FormWritten v (letters (drop c.at text)) table m c x t m₁ d
unfolding with_items
formed_elements {v} {es} {rows} {text} {table} {m} {c} {x} {t} {m₁} {d} a end counted same none' =
    let size : length es ≡ length (elements_in v) = ap length same in
    let bytes : length (all_literals es) ≡ length (all_literals (elements_in v)) = ap (λ (l : List PatternElement). length (all_literals l)) same in
    let items : 0 ≡ length (statement_items v) = ap (λ (l : List Item). length l) none' in
    record {
      entries = a.entries;
      rows = rows;
      is =
          a.is
          ∙ ap (got v (mentions_in a.entries 0 rows (length (all_literals es)))) (drop_of_length-le text end)
          ∙ ap₂ (λ (i j : ℕ). got v (mentions_in a.entries i rows j) []) items bytes;
      counted = counted ∙ size;
      longest = a.goes.longest;
      written =
          a.written
          ∙ ap (with_elements table c.elements c.literals) same
          ∙ ap (λ (l : List Item). with_elements (with_items table c.items l) c.elements c.literals (elements_in v)) none';
      noting = a.noting;
      names = a.goes.names;
      items = a.goes.items ∙ sym (add-zero c.items) ∙ ap (λ n. c.items + n) items;
      elements = a.goes.elements ∙ ap (λ n. c.elements + n) size;
      literals = a.goes.literals ∙ ap (λ n. c.literals + n) bytes;
      few = omega (arith, a.few);
    }

-- the whole form is a step
module _ {A : Type 0} {form : Parsed (Option Statement)} {left : A → List ℕ → Parsed (Option Statement)} {mk : A → Table.Row}
    {es : A → List PatternElement} (step : A → Statement) {text table : List ℕ} {m : Mentioned} {c : Cursor} {t : List ℕ} {m₁ : Mentioned}
    (ends : (a : A) (bs : List ℕ) → left a bs ≡ step_form (step a) bs) (makes : (a : A) → mk a ≡ statement_row c.elements c.items (step a))
    (same : (a : A) → es a ≡ elements_of (step a)) (none' : (a : A) → [] ≡ items_of (step a)) where
  ended_case : (row : Row) (d : Cursor) (b : Bool) → ltb d.at (length text) ≡ b → FormGoing form left mk es text table m c row t m₁ d
      → FormRead (letters (drop c.at text)) table m c form
      (elim b [ true ↦ None | false ↦ Some (Some row, d) ]) t m₁
  unfolding statement_items elements_in
  ended_case row d true e a =
      record {
        answer =
            a.whole
            ∙ elements_broken a.gets _
            (ends a.value (drop d.at text) ∙ step_not text d.at (ltb-true d.at (length text) e) (step a.value));
      }
  ended_case row d false e a =
      let end = ltb-false d.at (length text) e in
      let s = step a.value in
      record {
        answer =
            record {
              statement = s;
              made = a.made ∙ makes a.value;
              formed =
                  subst (λ (z : Parsed (Option Statement)). FormWritten (some s) (letters (drop c.at text)) table m c z t m₁ d) (sym a.whole)
                  (formed_elements
                  (elements-succeed a.gets (λ (z, rest). left z rest) (some s)
                  (ends a.value (drop d.at text) ∙ step-here text d.at end s)) end a.counted (same a.value) (none' a.value));
            };
      }

  pub going_ended : (r : Draft) → FormGoesOn form left mk es text table m c r t m₁
      → FormRead (letters (drop c.at text)) table m c form (ended_by text r) t m₁
  going_ended (Some (row, d)) a = ended_case row d (ltb d.at (length text)) refl a.answer
  going_ended None a = record { answer = a.answer }
