-- Kinds of signs and operators, the items they stand for, and the outcomes of the readers by their case.
-- Assumes nothing.
use Rattle.std.specs.Prelude.{Option, Some, None, is_some, Bool, false, ◌||◌, ◌≡◌, ℕ, suc, ◌+◌, ◌<◌, ltb, drop}
use Rattle.std.proofs.lemmas.Bool.{false≢true}
use Rattle.std.proofs.Math.Bool.{true}
use mathlib.Core.List.{List, [], ◌∷◌}
use Rattle.std.proofs.Math.Path.{refl, ap}
use Rattle.std.proofs.Common.{sym, subst, ◌∙◌, add-zero, arith, drop-drop}
use Rattle.std.proofs.Math.ListN.{length}
use Rattle.base.specs.Choice.{test_cases, cond_cases, true_behind}
use Rattle.base.specs.Current.{current}
use Rattle.base.specs.ListLaws.{begins_inside}
use Rattle.base.specs.Lists.{begins}
use Rattle.base.specs.Text.{bytes}
use Rattle.encoding.specs.Table as Table
use Rattle.encoding.specs.Table.{item_cell}
use Rattle.syntax.specs.Fuel.{expression_from, factor_from, factor_by, factor_is}
use Rattle.syntax.specs.Numeric.{deepest, plain_factor, leading_sign, sum_operator, product_operator}
use Rattle.syntax.specs.Program.{Item, Operator, operator, sign, plus, minus, times, over, positive, negative}
use Rattle.syntax.specs.Parsing.{Parsed, got, broken, one_item, succeed, no_mentions}
use Rattle.syntax.specs.Lexemes.{Resolution, is_sign}
use Rattle.symbols.specs.Entries.{gather, mentions_in}
use Rattle.symbols.specs.Items.{with_item, with_items}
use Rattle.symbols.specs.declared.Cursor.{Cursor}
use Rattle.symbols.specs.declared.Mentioned.{Mentioned}
use Rattle.numeric_parser.specs.Kinds.{mark_at, SignAt, OperatorAt, SumAt, ProductAt, PutsCell, ItemsPut, closes}
use Rattle.numeric_parser.specs.OperandLaws.{onward_none, chosen, then_broken}
use Rattle.numeric_parser.specs.Operands.{cursor_moved}
use Rattle.numeric_parser.specs.ReadLaws.{inside_then, inside_open, inside_broken}
use Rattle.numeric_parser.specs.Reads.{GetsItems, ItemsAnswer, ItemsRead, mark_item, waiting}
use Rattle.numeric_parser.specs.declared.Mark.{Mark}
use Rattle.numeric_parser.specs.declared.Mark.TheVariants.{Plus, Minus, Times, Over, Positive, Negative}

-- a mark that stands waits as one item
pub waiting_one : (mark : Option Mark) → is_some mark ≡ true → 1 ≡ length (waiting mark)
waiting_one (Some m) e = refl
waiting_one None e = absurd (false≢true e)

-- the item that waits is written; nothing where none waits
module _ {table : List ℕ} {c : Cursor} {mark : Option Mark} where
  pub puts_waiting : {k : Mark} {v : Table.Cell} {table' : List ℕ} {d : Cursor} → mark ≡ Some k → v ≡ item_cell (mark_item k)
      → PutsCell table c v table' d → ItemsPut table c (waiting mark) table' d
  unfolding with_items
  puts_waiting {table' = table'} {d} e is p =
      subst (λ k. ItemsPut table c (waiting k) table' d) (sym e)
      (record { written = p.written ∙ ap (with_item table c.items) is; goes = p.goes; at = p.at })

  pub puts_nothing : mark ≡ None → ItemsPut table c (waiting mark) table c
  unfolding with_items
  puts_nothing e = subst (λ k. ItemsPut table c (waiting k) table c) (sym e) (record { written = refl; goes = onward_none c; at = refl })

-- what holds of a mark, by which stands
told : (P : Option Mark → Type 0) (w : ℕ) (k : Mark) (v : ℕ) (l : Mark) (text : List ℕ) (at : ℕ)
    → (begins (w ∷ []) (drop at text) ≡ true → P (Some k))
    → (begins (w ∷ []) (drop at text) ≡ false → begins (v ∷ []) (drop at text) ≡ true → P (Some l))
    → (begins (w ∷ []) (drop at text) ≡ false → begins (v ∷ []) (drop at text) ≡ false → P None) → {mark : Option Mark}
    → mark ≡ mark_at w k v l text at → P mark
told P w k v l text at one two none' e =
    subst P (sym e)
    (cond_cases P (begins (w ∷ []) (drop at text)) one
    (λ no. cond_cases P (begins (v ∷ []) (drop at text)) (two no) (none' no)))

-- the signs by the mark that stands
module _ (text : List ℕ) (at : ℕ) where
  sign_plus : begins (43 ∷ []) (drop at text) ≡ true → SignAt text at (Some Positive)
  unfolding leading_sign bytes one_item mentions_in gather
  sign_plus e =
      record {
        is = chosen _ _ e ∙ ap (got (sign positive ∷ []) one_item) (drop-drop 1 at text);
        inside = λ _. omega (arith, begins_inside 43 [] text at e);
      }

  module _ (no : begins (43 ∷ []) (drop at text) ≡ false) where
    sign_minus : begins (45 ∷ []) (drop at text) ≡ true → SignAt text at (Some Negative)
    unfolding leading_sign bytes one_item mentions_in gather
    sign_minus e =
        record {
          is = chosen _ _ no ∙ chosen _ _ e ∙ ap (got (sign negative ∷ []) one_item) (drop-drop 1 at text);
          inside = λ _. omega (arith, begins_inside 45 [] text at e);
        }

    sign_none : begins (45 ∷ []) (drop at text) ≡ false → SignAt text at None
    unfolding leading_sign bytes succeed no_mentions mentions_in gather
    sign_none e =
        record {
          is = chosen _ _ no ∙ chosen _ _ e ∙ ap (λ j. succeed {A = List Item} [] (drop j text)) (sym (add-zero at));
          inside = λ h. omega arith;
        }

  pub sign_told : {mark : Option Mark} → mark ≡ mark_at 43 Positive 45 Negative text at → SignAt text at mark
  sign_told = told (SignAt text at) 43 Positive 45 Negative text at sign_plus sign_minus sign_none

-- the operator by which of two marks stands
module _ (text : List ℕ) (at w v : ℕ) where
  abbrev marked : Bool
  marked = begins (w ∷ []) (drop at text) || begins (v ∷ []) (drop at text)

  abbrev marked_by : Operator → Operator → Parsed Operator
  marked_by a b = elim (begins (w ∷ []) (drop at text)) [
    | true ↦ got a one_item (drop 1 (drop at text))
    | false ↦ elim (begins (v ∷ []) (drop at text)) [ true ↦ got b one_item (drop 1 (drop at text)) | false ↦ broken ]
  ]

  operator_at : {x : Parsed Operator} (o : Operator) {mark : Option Mark} → waiting mark ≡ operator o ∷ [] → is_some mark ≡ true → at < length text
      → marked ≡ true → x ≡ got o one_item (drop 1 (drop at text)) → OperatorAt marked x text at mark
  operator_at o waits some further test is =
      record {
        none = λ z. absurd (false≢true (sym z ∙ some));
        sign = λ _. test;
        stands =
            λ _. record { which = o; waits = waits; is = is ∙ ap (got o one_item) (drop-drop 1 at text); further = further };
      }

  module _ (a b : Operator) {mark : Option Mark} where
    first-mark : waiting mark ≡ operator a ∷ [] → is_some mark ≡ true → begins (w ∷ []) (drop at text) ≡ true
        → OperatorAt marked (marked_by a b) text at mark
    first-mark waits some e =
        operator_at a waits some (omega (arith, begins_inside w [] text at e)) (ap (λ t. t || begins (v ∷ []) (drop at text)) e) (chosen _ _ e)

    second-mark : waiting mark ≡ operator b ∷ [] → is_some mark ≡ true → begins (w ∷ []) (drop at text) ≡ false
        → begins (v ∷ []) (drop at text) ≡ true → OperatorAt marked (marked_by a b) text at mark
    second-mark waits some other e =
        operator_at b waits some (omega (arith, begins_inside v [] text at e)) (true_behind (begins (w ∷ []) (drop at text)) _ e)
        (chosen _ _ other ∙ chosen _ _ e)

  no_mark : {x : Parsed Operator} → begins (w ∷ []) (drop at text) ≡ false → begins (v ∷ []) (drop at text) ≡ false
      → OperatorAt marked x text at None
  no_mark other e =
      record {
        none = λ _. ap (λ t. t || begins (v ∷ []) (drop at text)) other ∙ e;
        sign = λ h. absurd (false≢true h);
        stands = λ h. absurd (false≢true h);
      }

module _ (text : List ℕ) (at : ℕ) where
  sum_plus : begins (43 ∷ []) (drop at text) ≡ true → SumAt text at (Some Plus)
  unfolding sum_operator bytes is_sign
  sum_plus = first-mark text at 43 45 plus minus refl refl

  sum_minus : begins (43 ∷ []) (drop at text) ≡ false → begins (45 ∷ []) (drop at text) ≡ true → SumAt text at (Some Minus)
  unfolding sum_operator bytes is_sign
  sum_minus = second-mark text at 43 45 plus minus refl refl

  sum_none : begins (43 ∷ []) (drop at text) ≡ false → begins (45 ∷ []) (drop at text) ≡ false → SumAt text at None
  unfolding bytes is_sign
  sum_none = no_mark text at 43 45

  product-times : begins (42 ∷ []) (drop at text) ≡ true → ProductAt text at (Some Times)
  unfolding product_operator bytes
  product-times = first-mark text at 42 47 times over refl refl

  product_over : begins (42 ∷ []) (drop at text) ≡ false → begins (47 ∷ []) (drop at text) ≡ true → ProductAt text at (Some Over)
  unfolding product_operator bytes
  product_over = second-mark text at 42 47 times over refl refl

  product_none : begins (42 ∷ []) (drop at text) ≡ false → begins (47 ∷ []) (drop at text) ≡ false → ProductAt text at None
  unfolding bytes
  product_none = no_mark text at 42 47

  pub sum_told : {mark : Option Mark} → mark ≡ mark_at 43 Plus 45 Minus text at → SumAt text at mark
  sum_told = told (SumAt text at) 43 Plus 45 Minus text at sum_plus sum_minus sum_none

  pub product_told : {mark : Option Mark} → mark ≡ mark_at 42 Times 47 Over text at → ProductAt text at mark
  product_told = told (ProductAt text at) 42 Times 47 Over text at product-times product_over product_none

-- the outcome by its case
module _ {before : List Item} {text table : List ℕ} {m : Mentioned} {c : Cursor} {x : Parsed (List Item)} {r : Option Cursor} {t : List ℕ}
    {m₁ : Mentioned} (a : ItemsRead before text table m c x r t m₁) where
  pub items_case : {d : Cursor} → r ≡ Some d → GetsItems before text table m c x t m₁ d
  items_case e = subst (λ z. ItemsAnswer before text table m c x z t m₁) e a.answer

  pub items_none : r ≡ None → x ≡ broken
  items_none e = subst (λ z. ItemsAnswer before text table m c x z t m₁) e a.answer

-- broken items
pub items_lost : {before : List Item} {text table : List ℕ} {m : Mentioned} {c : Cursor} {x : Parsed (List Item)} {r : Option Cursor}
    {t : List ℕ} {m₁ : Mentioned} → r ≡ None → x ≡ broken → ItemsRead before text table m c x r t m₁
items_lost {before} {text} {table} {m} {c} {x} {t = t} {m₁} e h =
    subst (λ z. ItemsRead before text table m c x z t m₁) (sym e) (record { answer = h })

-- an expression in parentheses
module _ (p : Resolution) (depth : ℕ) (c : Cursor) {text table : List ℕ} {m : Mentioned} {t : List ℕ} {m₁ : Mentioned}
    (paren : begins (bytes "(") (drop c.at text) ≡ true) (shallow : ltb depth deepest ≡ true) where
  pub inside_closed : (r : Option Cursor)
      → ItemsRead [] text table m (cursor_moved c 1) (expression_from current p (suc depth) (drop (c.at + 1) text)) r t m₁
      → ItemsRead [] text table m c (factor_from current p depth (drop c.at text)) (closes text r) t m₁
  inside_closed (Some d) a =
      test_cases
      (λ b.
      begins (41 ∷ []) (drop d.at text) ≡ b
      → ItemsRead [] text table m c (factor_from current p depth (drop c.at text))
      (elim b [ true ↦ Some (cursor_moved d 1) | false ↦ None ]) t m₁)
      (begins (41 ∷ []) (drop d.at text))
      (λ _ e. record { answer = inside_then p depth c paren shallow a.answer e })
      (λ _ e. record { answer = inside_open p depth c paren shallow a.answer e }) refl
  inside_closed None a =
      record {
        answer =
            inside_broken p depth (drop c.at text) paren shallow
            (ap (expression_from current p (suc depth)) (drop-drop 1 c.at text) ∙ a.answer);
      }

-- an operand that is broken
pub operand_broken : (p : Resolution) (depth : ℕ) (bs : List ℕ) → begins (bytes "(") bs ≡ false → plain_factor current p bs ≡ broken
    → factor_from current p depth bs ≡ broken
unfolding factor_by
operand_broken p depth bs open' h = factor_is current p depth bs ∙ chosen _ _ open' ∙ then_broken _ h

-- an expression one deeper, as the code counts
pub deeper : (p : Resolution) (depth : ℕ) {text table : List ℕ} {m : Mentioned} (c : Cursor) {b : Cursor} {r : Option Cursor} {t : List ℕ}
    {m₁ : Mentioned} → b ≡ cursor_moved c 1
    → ItemsRead [] text table m b (expression_from current p (depth + 1) (drop b.at text)) r t m₁
    → ItemsRead [] text table m (cursor_moved c 1) (expression_from current p (suc depth) (drop (c.at + 1) text)) r t m₁
deeper p depth {text} {table} {m} c {r = r} {t} {m₁} e a =
    let next : depth + 1 ≡ suc depth = omega arith in
    subst
    (λ (j : ℕ). ItemsRead [] text table m (cursor_moved c 1) (expression_from current p j (drop (c.at + 1) text)) r t m₁) next
    (subst (λ (z : Cursor). ItemsRead [] text table m z (expression_from current p (depth + 1) (drop z.at text)) r t m₁) e a)
