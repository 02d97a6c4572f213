-- How the parts of forms answer: by the case of the draft they go on from, and of what they read. Assumes nothing.
use Rattle.std.specs.Prelude.{Some, None, Bool, true, false, ◌≡◌, refl, ℕ, ◌+◌, ◌-◌, drop}
use mathlib.Core.List.{List, [], ◌∷◌, map}
use Rattle.std.proofs.Math.Option.{Option, none, some}
use Rattle.std.proofs.Math.Path.{sym, ap, subst}
use Rattle.std.proofs.Common.{◌∙◌, arith, drop-drop}
use Rattle.std.proofs.Math.ListN.{length}
use Rattle.std.proofs.lemmas.List.{length-map}
use Rattle.base.specs.Current.{current}
use Rattle.base.specs.Lists.{begins, total}
use Rattle.base.specs.Text.{bytes}
use Rattle.branch_parser.specs.Places.{is_number_known}
use Rattle.encoding.specs.Meaning.{row_meaning, cell_meaning}
use Rattle.branch_parser.specs.Tests.{rowed_at}
use Rattle.encoding.specs.declared.cells.Row.{Row}
use Rattle.encoding.specs.Kinds.{range_number, replace_kind}
use Rattle.encoding.specs.Table as Table
use Rattle.encoding.specs.Table.{replacement_of, range_value, range_cell}
use Rattle.syntax.specs.Forms.{branch, branch_if_any, replacement_if_any}
use Rattle.syntax.specs.Program.{Branch, Element, PatternElement, value, Statement}
use Rattle.syntax.specs.Parsing.{Parsed, broken, ◌>>=◌, succeed, expect}
use Rattle.syntax.specs.Strings.{string_expression}
use Rattle.symbols.specs.Environment.{places_in}
use Rattle.symbols.specs.declared.Cursor.{Cursor}
use Rattle.numeric_parser.specs.OperandLaws.{ready_moved, skipped, chosen, then_broken}
use Rattle.numeric_parser.specs.Operands.{ReaderReady, Gets, cursor_moved}
use Rattle.encoding.specs.declared.cells.Cell.{Cell}
use Rattle.string_parser.specs.ElementLaws.{names_elements, elements_none, elements-succeed, elements_skip, rows_total}
use Rattle.string_parser.specs.Elements.{GetsElements, GetsRow, rows_of, RowElement, shown_row}
use Rattle.string_parser.specs.declared.Elements.{Elements}
use Rattle.string_parser.specs.declared.Elements.TheVariants.{OfString, OfPattern}
use Rattle.statement_parser.specs.Drafts.{Draft, Form}
use Rattle.statement_parser.specs.Clauses.{FormRead}
use Rattle.statement_parser.specs.Rows.{with_steps, with_branch, with_left, with_range, with_replacement}
use Rattle.statement_parser.specs.Rows.{draft_steps, draft_left, draft_right, range_in}
use Rattle.statement_parser.specs.Stages.{DraftStanding, marked_by, Drawn, StageRead}
use Rattle.symbols.specs.declared.known.Known.{Known}
use Rattle.symbols.specs.declared.Mentioned.{Mentioned}

-- a stage from the same draft
pub from_draft : {U : Type 0} {y : List ℕ → Parsed U} {puts : ℕ → U → Table.Row → Table.Row} {es : U → List PatternElement}
    {text table : List ℕ} {m : Mentioned} {r r' q : Draft} {t : List ℕ} {m₁ : Mentioned} → r ≡ r' → StageRead y puts es text table m r q t m₁
    → StageRead y puts es text table m r' q t m₁
from_draft {U} {y} {puts} {es} {text} {table} {m} {q = q} {t = t} {m₁ = m₁} e a =
    subst (λ z. StageRead y puts es text table m z q t m₁) e a

-- a stage to the same draft
pub to_draft : {U : Type 0} {y : List ℕ → Parsed U} {puts : ℕ → U → Table.Row → Table.Row} {es : U → List PatternElement}
    {text table : List ℕ} {m : Mentioned} {r q q' : Draft} {t : List ℕ} {m₁ : Mentioned} → q ≡ q' → StageRead y puts es text table m r q' t m₁
    → StageRead y puts es text table m r q t m₁
to_draft {U} {y} {puts} {es} {text} {table} {m} {r} {t = t} {m₁ = m₁} e a =
    subst (λ z. StageRead y puts es text table m r z t m₁) (sym e) a

-- by the case of its draft
module _ {U : Type 0} (y : List ℕ → Parsed U) (puts : ℕ → U → Table.Row → Table.Row) (es : U → List PatternElement) {text table : List ℕ}
    {m : Mentioned} {r : Draft} where
  module _ {row : Row} {c : Cursor} (e : r ≡ Some (row, c)) {t : List ℕ} {m₁ : Mentioned} where
    pub stage_broken : y (drop c.at text) ≡ broken → StageRead y puts es text table m r None t m₁
    stage_broken h = from_draft (sym e) (record { stands = tt; answer = h })

    pub stage_got : {row' : Row} {d : Cursor}
        → Drawn (y (drop c.at text)) (puts c.elements) es text table m row c row' t m₁ d
        → StageRead y puts es text table m r (Some (row', d)) t m₁
    stage_got a = from_draft (sym e) (record { stands = a.gets.ready; answer = a })

-- names alone are drawn with any table
pub drawn_names : {U C : Type 0} {f : U → C} {v : C} {y : Parsed U} (puts : U → Table.Row → Table.Row) {text : List ℕ} {m : Mentioned} {row : Row}
    {c : Cursor} {row' : Row} {m₁ : Mentioned} {d : Cursor} (table : List ℕ) (a : Gets f v text m c y m₁ d)
    → row_meaning row' ≡ puts a.value (row_meaning row)
    → Drawn y puts (λ _. []) text table m row c row' table m₁ d
unfolding total
drawn_names puts table a made =
    record { value = a.value; rows = []; counted = refl; gets = names_elements table a; made = made }

-- a mark
marked_case : (text : List ℕ) (mark : ℕ) {table : List ℕ} {m : Mentioned} (row : Row) (c : Cursor) (b : Bool) → ReaderReady text c
    → begins (mark ∷ []) (drop c.at text) ≡ b
    → StageRead (expect (mark ∷ [])) (λ _ _ z. z) (λ _. []) text table m (Some (row, c))
    (rowed_at row (elim b [ true ↦ Some (cursor_moved c 1) | false ↦ None ])) table m
unfolding expect total
marked_case text mark {table} {m} row c true ready e =
    let on = ready_moved (mark ∷ []) ready refl e in
    record {
      stands = on;
      answer =
          record {
            value = tt;
            rows = [];
            counted = refl;
            gets =
                subst (λ (x : Parsed (Unit {0})). GetsElements text table m c x tt [] [] table m (cursor_moved c 1))
                (sym
                (chosen {b = true} (succeed tt (drop 1 (drop c.at text))) broken e
                ∙ ap (succeed tt) (drop-drop 1 c.at text)))
                (elements_skip 1 (skipped c 1 refl) (elements_none tt on));
            made = refl;
          };
    }
marked_case text mark row c false ready e =
    record { stands = tt; answer = chosen {b = false} (succeed tt (drop 1 (drop c.at text))) broken e }

pub marked_stage : (text : List ℕ) (mark : ℕ) {table : List ℕ} {m : Mentioned} (r : Draft) → DraftStanding text r
    → StageRead (expect (mark ∷ [])) (λ _ _ z. z) (λ _. []) text table m r (marked_by text mark r) table m
marked_stage text mark (Some (row, c)) ready = marked_case text mark row c (begins (mark ∷ []) (drop c.at text)) ready refl
marked_stage text mark None ready = record { stands = tt; answer = tt }

-- a broken draft stays so
pub unread : {U : Type 0} {y : List ℕ → Parsed U} {puts : ℕ → U → Table.Row → Table.Row} {es : U → List PatternElement}
    {text table : List ℕ} {m : Mentioned} {t : List ℕ} {m₁ : Mentioned} → StageRead y puts es text table m None None t m₁
unread = record { stands = tt; answer = tt }

-- a stage of one reader is that of another that reads the same here
pub stage_same : {U : Type 0} {y z : List ℕ → Parsed U} {puts : ℕ → U → Table.Row → Table.Row} {es : U → List PatternElement}
    {text table : List ℕ} {m : Mentioned} {row : Row} {c : Cursor} (q : Draft) {t : List ℕ} {m₁ : Mentioned} → z (drop c.at text) ≡ y (drop c.at text)
    → StageRead y puts es text table m (Some (row, c)) q t m₁
    → StageRead z puts es text table m (Some (row, c)) q t m₁
stage_same {U} {puts = puts} {es = es} {text} {table} {m} {row} {c} (Some (row', d)) {t} {m₁} h a =
    record {
      stands = a.stands;
      answer = subst (λ (x : Parsed U). Drawn x (puts c.elements) es text table m row c row' t m₁ d) (sym h) a.answer;
    }
stage_same None h a = record { stands = tt; answer = h ∙ a.answer }

-- a branch field, if there is one
module _ (known : Known) where
  pub branch-any : (bs : List ℕ) → begins (47 ∷ []) bs ≡ true
      → branch_if_any current (is_number_known known) (places_in known) bs ≡ branch current (is_number_known known) (places_in known) bs
  unfolding branch_if_any bytes
  branch-any bs e = chosen _ _ e

  pub branch_not : {text : List ℕ} (table : List ℕ) {m : Mentioned} (row row' : Row) (c : Cursor) → ReaderReady text c
      → begins (47 ∷ []) (drop c.at text) ≡ false
      → row_meaning row' ≡ with_branch (record { success = (places_in known).next; failure = (places_in known).next }) (row_meaning row)
      → Drawn (branch_if_any current (is_number_known known) (places_in known) (drop c.at text)) with_branch (λ _. []) text table m row c row'
      table m c
  unfolding branch_if_any bytes total
  branch_not {text} table {m} row row' c ready e made =
      let next : Branch = record { success = (places_in known).next; failure = (places_in known).next } in
      record {
        value = next;
        rows = [];
        counted = refl;
        gets =
            subst (λ (x : Parsed Branch). GetsElements text table m c x next [] [] table m c)
            (sym (chosen _ _ e)) (elements_none next ready);
        made = made;
      }

-- as many elements as a row has values
pub shown_size : (e : Elements) (xs : List (RowElement e)) → length (shown_row e xs) ≡ length xs
shown_size OfString xs = length-map xs value
shown_size OfPattern xs = refl

-- a row of elements, and the range it has
pub drawn_row : {A : Type 0} {f : List A → List PatternElement} (sized : (xs : List A) → length (f xs) ≡ length xs) {y : Parsed (List A)}
    {text table : List ℕ} {m : Mentioned} (row : Row) {c : Cursor} {row' : Row} {cell : _} {t : List ℕ} {m₁ : Mentioned} {d : Cursor}
    → GetsRow f text table m c y t m₁ d → row' ≡ draft_right row row.kind cell → cell ≡ range_in c.elements (d.elements - c.elements) 0
    → Drawn y (λ xs. with_range c.elements xs) f text table m row c row' t m₁ d
unfolding range_cell
drawn_row sized row {c} {d = d} a put made =
    let count : d.elements - c.elements ≡ length a.values = omega (arith, a.size) in
    record {
      value = a.values;
      rows = rows_of (length a.values);
      counted = rows_total (length a.values) ∙ sym (sized a.values);
      gets = a.gets;
      made =
          ap row_meaning put
          ∙ ap (λ v. row_meaning (draft_right row row.kind v)) made
          ∙ ap
          (λ n.
          Table.row_with row.kind row.flag row.branch.success row.branch.failure (cell_meaning row.left)
          (Table.cell range_number 0 (range_value c.elements n 0)))
          count;
    }

-- a replacement, if there is one
abbrev pub replacement_at : (known : Known) (text : List ℕ) → ℕ → Parsed (Option (List Element))
replacement_at known text at = replacement_if_any current (is_number_known known) (places_in known) (drop at text)

module _ (known : Known) (text : List ℕ) (at : ℕ) where
  replacement-is : begins (61 ∷ []) (drop at text) ≡ true
      → replacement_at known text at
      ≡ (string_expression current (places_in known) (drop (at + 1) text) >>= λ (xs, rest). succeed (some xs) rest)
  unfolding replacement_if_any bytes
  replacement-is e =
      chosen _ _ e
      ∙ ap (λ (l : List ℕ). string_expression current (places_in known) l >>= λ (xs, rest). succeed (some xs) rest) (drop-drop 1 at text)

  pub replaced_broken : begins (61 ∷ []) (drop at text) ≡ true → string_expression current (places_in known) (drop (at + 1) text) ≡ broken
      → replacement_at known text at ≡ broken
  replaced_broken e h = replacement-is e ∙ then_broken _ h

module _ (known : Known) (from : ℕ) {text table : List ℕ} {m : Mentioned} {row : Row} {c : Cursor} where
  pub replaced_not : ReaderReady text c → begins (61 ∷ []) (drop c.at text) ≡ false
      → Drawn (replacement_at known text c.at) (with_replacement from c.elements) (λ o. map value (replacement_of o)) text table
      m row c row table m c
  unfolding replacement_if_any bytes total replacement_of
  replaced_not ready e =
      record {
        value = none;
        rows = [];
        counted = refl;
        gets =
            subst (λ (x : Parsed (Option (List Element))). GetsElements text table m c x none [] [] table m c) (sym (chosen _ _ e))
            (elements_none none ready);
        made = refl;
      }

  pub replaced_got : begins (61 ∷ []) (drop c.at text) ≡ true → {row' : Row} {cell : _} {t : List ℕ} {m₁ : Mentioned} {d : Cursor}
      → GetsRow (map value) text table m (cursor_moved c 1) (string_expression current (places_in known) (drop (c.at + 1) text)) t m₁ d
      → row' ≡ draft_right row replace_kind.number cell → cell ≡ range_in from (c.elements - from) (d.elements - c.elements)
      → Drawn (replacement_at known text c.at) (with_replacement from c.elements) (λ o. map value (replacement_of o)) text table
      m row c row' t m₁ d
  unfolding replacement_of range_cell
  replaced_got e {row'} {cell} {t} {m₁} {d} a put made =
      let count : d.elements - c.elements ≡ length a.values = omega (arith, a.size) in
      record {
        value = some a.values;
        rows = rows_of (length a.values);
        counted = rows_total (length a.values) ∙ sym (length-map a.values value);
        gets =
            subst
            (λ (x : Parsed (Option (List Element))).
            GetsElements text table m c x (some a.values) (map value a.values) (rows_of (length a.values)) t m₁ d)
            (sym (replacement-is known text c.at e))
            (elements-succeed (elements_skip 1 (skipped c 1 refl) a.gets) _ (some a.values) refl);
        made =
            ap row_meaning put
            ∙ ap (λ v. row_meaning (draft_right row replace_kind.number v)) made
            ∙ ap
            (λ n.
            Table.row_with replace_kind.number row.flag row.branch.success row.branch.failure (cell_meaning row.left)
            (Table.cell range_number 0 (range_value from (c.elements - from) n)))
            count;
      }

-- the table's row of a row that was changed
module _ (row : Row) {row' : Row} where
  pub steps-made : {s f : ℕ} → row' ≡ draft_steps row s f → row_meaning row' ≡ with_steps s f (row_meaning row)
  steps-made e = ap row_meaning e

  pub left-made : {v : Cell} → row' ≡ draft_left row v → row_meaning row' ≡ with_left (cell_meaning v) (row_meaning row)
  left-made e = ap row_meaning e

-- a form that ends in the same way or reads the same
pub form_ends : {most : ℕ} {table t : List ℕ} {m m₁ : Mentioned} {c : Cursor} {x : Parsed (Option Statement)} {q r : Form} → q ≡ r
    → FormRead most table m c x r t m₁ → FormRead most table m c x q t m₁
form_ends {most} {table} {t} {m} {m₁} {c} {x} e a =
    subst (λ z. FormRead most table m c x z t m₁) (sym e) a

pub form_lost : {most : ℕ} {table t : List ℕ} {m m₁ : Mentioned} {c : Cursor} {x : Parsed (Option Statement)} {r : Form} → r ≡ None
    → x ≡ broken → FormRead most table m c x r t m₁
form_lost {most} {table} {t} {m} {m₁} {c} {x} e h =
    subst (λ z. FormRead most table m c x z t m₁) (sym e) (record { answer = h })

pub form-same : {most : ℕ} {table t : List ℕ} {m m₁ : Mentioned} {c : Cursor} {x y : Parsed (Option Statement)} {q : Form} → x ≡ y
    → FormRead most table m c y q t m₁ → FormRead most table m c x q t m₁
form-same {most} {table} {t} {m} {m₁} {c} {q = q} e a =
    subst (λ z. FormRead most table m c z q t m₁) (sym e) a
