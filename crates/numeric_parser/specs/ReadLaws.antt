-- How a factor is read: an operand as one item, or an expression in parentheses.
-- Assumes nothing.
use Rattle.std.specs.Prelude.{Some, true, false, ◌≡◌, ℕ, suc, ◌+◌, ltb, length, drop}
use mathlib.Core.List.{List, [], ◌∷◌}
use Rattle.std.proofs.Math.Path.{refl, ap}
use Rattle.std.proofs.Common.{sym, ◌∙◌, add-zero, arith, drop-drop}
use Rattle.base.specs.Current.{current}
use Rattle.base.specs.Lists.{begins}
use Rattle.base.specs.Text.{bytes}
use Rattle.encoding.specs.Table as Table
use Rattle.encoding.specs.Table.{operand_cell, item_cell}
use Rattle.syntax.specs.Fuel.{expression_from, factor_from, factor_by, factor_is}
use Rattle.syntax.specs.Numeric.{deepest, plain_factor}
use Rattle.syntax.specs.Program.{Operand, Item, operand}
use Rattle.syntax.specs.Parsing.{Mentions, one_item, succeed, expect, Parsed, got, broken, ◌>>=◌, mentioning}
use Rattle.syntax.specs.Lexemes.{Resolution}
use Rattle.symbols.specs.Entries.{gather, mentions_in}
use Rattle.symbols.specs.EntryLaws.{mentions_more}
use Rattle.symbols.specs.Items.{with_item, with_items}
use Rattle.symbols.specs.ParsingLaws.{expect_then, expect_broken}
use Rattle.symbols.specs.declared.Cursor.{Cursor}
use Rattle.symbols.specs.declared.Mentioned.{Mentioned}
use Rattle.card_reader.specs.Letters.{letters, letters_on}
use Rattle.numeric_parser.specs.OperandLaws.{onward-moved, onward_then, skipped, ready_here, ready_moved, then_broken, chosen, mentions_nothing}
use Rattle.numeric_parser.specs.Kinds.{PutsCell}
use Rattle.encoding.specs.Meaning.{cell_meaning}
use Rattle.numeric_parser.specs.Operands.{cursor_moved, ReaderReady, Gets}
use Rattle.numeric_parser.specs.Reads.{GetsItems, ItemsRead}
use Rattle.encoding.specs.declared.cells.Cell.{Cell}

-- an operand is one item
pub operand_written : (p : Resolution) (depth : ℕ) {text table : List ℕ} {m : Mentioned} {c : Cursor} (v : Cell) {m₁ : Mentioned} {d : Cursor}
    → ReaderReady text c → begins (bytes "(") (drop c.at text) ≡ false
    → Gets operand_cell (cell_meaning v) text m c (plain_factor current p (drop c.at text)) m₁ d → {t : List ℕ} {e : Cursor}
    → PutsCell table d (cell_meaning v) t e
    → ItemsRead [] text table m c (factor_from current p depth (drop c.at text)) (Some e) t m₁
unfolding factor_by ◌>>=◌ mentioning with_items item_cell operand_cell one_item mentions_in gather
operand_written p depth {text} {table} {c = c} v {d = d} ready open' a {t} {e} put =
    let on = put.goes in
    record {
      answer =
          record {
            items = operand a.value ∷ [];
            entries = a.entries;
            is =
                factor_is current p depth (drop c.at text)
                ∙ chosen _ _ open'
                ∙ ap (λ (z : Parsed Operand). z >>= λ (x, rest). got (operand x ∷ []) one_item rest) a.is
                ∙ ap (λ (z : Mentions). got (operand a.value ∷ []) z (drop d.at text)) (mentions_more a.entries 0 1 [] [] 0 0)
                ∙ ap (λ j. got (operand a.value ∷ []) (mentions_in a.entries 1 [] 0) (drop j text)) (sym put.at);
            written =
                put.written
                ∙ ap (λ (x : Table.Cell). with_item table d.items x) (sym a.made)
                ∙ ap (λ j. with_item table j (operand_cell a.value)) (a.goes.items ∙ add-zero c.items);
            noting = a.noting;
            goes = onward_then a.goes on (omega arith) refl;
            ready =
                ready_here a.ready put.at (omega (arith, on)) (omega (arith, ready, on, a.goes, a.further, put.at))
                (omega (arith, a.ready, on, put.at)) (omega (arith, a.ready, on, put.at));
            few = omega (arith, a.few, ap (λ i. letters (drop i text)) put.at);
            short = omega (arith, a.further, put.at);
          };
    }

-- an expression in parentheses
module _ (p : Resolution) (depth : ℕ) (bs : List ℕ) (paren : begins (bytes "(") bs ≡ true) where
  pub too_deep : ltb depth deepest ≡ false → factor_from current p depth bs ≡ broken
  unfolding factor_by
  too_deep e = factor_is current p depth bs ∙ chosen _ _ paren ∙ chosen _ _ e

  inside : ltb depth deepest ≡ true
      → factor_from current p depth bs
      ≡ (expression_from current p (suc depth) (drop 1 bs) >>= λ (x, rest). expect (bytes ")") rest >>= λ (_, rest). succeed x rest)
  unfolding factor_by
  inside e = factor_is current p depth bs ∙ chosen _ _ paren ∙ chosen _ _ e

  pub inside_broken : ltb depth deepest ≡ true → expression_from current p (suc depth) (drop 1 bs) ≡ broken
      → factor_from current p depth bs ≡ broken
  inside_broken e h = inside e ∙ then_broken _ h

module _ (p : Resolution) (depth : ℕ) (c : Cursor) {text table : List ℕ} {m : Mentioned} {t : List ℕ} {m₁ : Mentioned} {d : Cursor}
    (paren : begins (bytes "(") (drop c.at text) ≡ true) (shallow : ltb depth deepest ≡ true)
    (a : GetsItems [] text table m (cursor_moved c 1) (expression_from current p (suc depth) (drop (c.at + 1) text)) t m₁ d) where
  closing : (r : Parsed (List Item))
      → (expect (bytes ")") (drop d.at text) >>= λ (_, rest). succeed a.items rest) ≡ r
      → factor_from current p depth (drop c.at text) ≡ mentioning (mentions_in a.entries (length a.items) [] 0) r
  unfolding ◌>>=◌ mentioning
  closing r e =
      inside p depth (drop c.at text) paren shallow
      ∙ ap
      (λ (l : List ℕ).
      expression_from current p (suc depth) l >>= λ (x, rest). expect (bytes ")") rest >>= λ (_, rest). succeed x rest)
      (drop-drop 1 c.at text)
      ∙ ap (λ (z : Parsed (List Item)). z >>= λ (x, rest). expect (bytes ")") rest >>= λ (_, rest). succeed x rest) a.is
      ∙ ap (mentioning (mentions_in a.entries (length a.items) [] 0)) e

  pub inside_then : begins (41 ∷ []) (drop d.at text) ≡ true
      → GetsItems [] text table m c (factor_from current p depth (drop c.at text)) t m₁ (cursor_moved d 1)
  unfolding bytes mentioning succeed
  inside_then e =
      record {
        items = a.items;
        entries = a.entries;
        is =
            closing _
            (expect_then (41 ∷ []) (drop d.at text) (λ (_, rest). succeed a.items rest) e ∙ ap (succeed a.items) (drop-drop 1 d.at text))
            ∙ ap (λ (z : Mentions). got a.items z (drop (d.at + 1) text)) (mentions_nothing (mentions_in a.entries (length a.items) [] 0));
        written = a.written;
        noting = a.noting;
        goes = onward_then (skipped c 1 refl).goes (onward-moved 1 a.goes) (omega arith) (omega arith);
        ready = ready_moved (41 ∷ []) a.ready refl e;
        few = omega (arith, a.few, letters_on text c.at (c.at + 1) (omega arith), letters_on text d.at (d.at + 1) (omega arith));
        short = omega (arith, a.short);
      }

  pub inside_open : begins (41 ∷ []) (drop d.at text) ≡ false → factor_from current p depth (drop c.at text) ≡ broken
  unfolding bytes mentioning
  inside_open e = closing broken (expect_broken (41 ∷ []) (drop d.at text) (λ (_, rest). succeed a.items rest) e)
