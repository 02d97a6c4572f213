-- How the tests of IF are read, part by part. Assumes nothing.
use Rattle.std.specs.Prelude.{Option, Some, None, Bool, ◌||◌, ◌≡◌, get_or}
use Rattle.std.proofs.Math.Bool.{true, false}
use mathlib.Core.List.{List, [], ◌∷◌}
use Rattle.std.proofs.Math.Path.{refl, ap, ap₂, subst}
use Rattle.std.proofs.Common.{sym, ◌∙◌}
use Prim.Native.Nat.{ℕ, ◌+◌}
use Rattle.std.proofs.Math.ListN.{drop}
use Rattle.base.specs.Current.{current}
use Rattle.base.specs.Lists.{begins}
use Rattle.base.specs.Text.{bytes}
use Rattle.encoding.specs.Kinds.{constant_kind, parts, null_kind, numeric_kind, compare_kind}
use Rattle.encoding.specs.Table as Table
use Rattle.encoding.specs.Table.{part_cell, operand_cell, comparison_number, statement_row, no_cell}
use Rattle.cards.specs.Bytes.{is_digit}
use Rattle.syntax.specs.Numeric.{called_or_number, comparison, if_operand, test}
use Rattle.syntax.specs.Program as Program
use Rattle.syntax.specs.Program.{Test, is_null, is_numeric, compares}
use Rattle.syntax.specs.Parsing.{Parsed, broken, ◌>>=◌, succeed, expect}
use Rattle.syntax.specs.Lexemes.{Resolution, is_sign, no_role, string_name, part_name}
use Rattle.numbers.specs.Numbers.{comparison_meaning}
use Rattle.symbols.specs.Entries.{role_of}
use Rattle.symbols.specs.ParsingLaws.{succeed_then, got_broken}
use Rattle.symbols.specs.declared.Cursor.{Cursor}
use Rattle.symbols.specs.declared.Mentioned.{Mentioned}
use Rattle.numeric_parser.specs.OperandLaws.{gets_succeed, gets_then, gets_skip, skipped, drop-moved, then_broken, chosen}
use Rattle.numeric_parser.specs.OperandLaws.{cell_same, cell-made, place-cell, cell_skip, gets_closed, gets_open}
use Rattle.encoding.specs.Meaning.{cell_meaning, row_meaning}
use Rattle.numeric_parser.specs.Operands.{Gets, cursor_moved, OperandRead, PlaceRead, placed_in, SignedRead}
use Rattle.encoding.specs.declared.cells.Cell.{Cell}
use Rattle.encoding.specs.declared.cells.Row.{Row}
use Rattle.branch_parser.specs.Rows.{DraftRead, draft_same}
use Rattle.branch_parser.specs.Tests.{SignStands, test_alone, one_cell, rowed_at, tested_by, compared_to, comparing_at}
use Rattle.branch_parser.specs.declared.tests.Sign.{Sign}

-- an operand of IF
module _ (p : Resolution) {text : List ℕ} {m : Mentioned} {c : Cursor} where
  pub if_signed : {r : Option (Cell × Cursor)} → (is_digit (get_or (drop c.at text) 0 0) || is_sign (drop c.at text)) ≡ true → SignedRead text m c constant_kind.number 0 r
      → OperandRead operand_cell text m c (if_operand current p (drop c.at text)) r m
  unfolding if_operand operand_cell
  if_signed {r} e a = cell_same (chosen _ _ e) (cell-made Program.constant operand_cell r (λ _. refl) a)

  pub if_called : {r : Option (Cell × Cursor)} {m₁ : Mentioned} → (is_digit (get_or (drop c.at text) 0 0) || is_sign (drop c.at text)) ≡ false
      → OperandRead operand_cell text m c (called_or_number current p (drop c.at text)) r m₁
      → OperandRead operand_cell text m c (if_operand current p (drop c.at text)) r m₁
  unfolding if_operand
  if_called e a = cell_same (chosen _ _ e) a

-- behind the left operand
module _ (p : Resolution) (a : Program.Operand) where
  pub compared_none : (bs : List ℕ) → comparison bs ≡ broken → compared_to p a bs ≡ broken
  unfolding compared_to
  compared_none bs e = then_broken _ e

  module _ {text : List ℕ} (c : Cursor) {r : Sign} (s : SignStands text c.at r) {b : Cursor} (moved : b ≡ cursor_moved c r.size) where
    compared_is : compared_to p a (drop c.at text)
        ≡ (if_operand current p (drop b.at text) >>= λ (b, rest). succeed (compares a (comparison_meaning r.which) b) rest)
    unfolding compared_to
    compared_is =
        let next : Program.Comparison × List ℕ → Parsed Test = λ (w, rest). if_operand current p rest >>= λ (b, rest). succeed (compares a w b) rest in
        ap (λ (y : Parsed Program.Comparison). y >>= next) s.is
        ∙ succeed_then (comparison_meaning r.which) (drop (c.at + r.size) text) next
        ∙ ap (λ (z : Cursor). next (comparison_meaning r.which, drop z.at text)) (sym moved)

    pub compared_broken : if_operand current p (drop b.at text) ≡ broken → compared_to p a (drop c.at text) ≡ broken
    compared_broken e = compared_is ∙ then_broken _ e

    pub compared-got : (left right : Cell) {m m₁ : Mentioned} {d : Cursor} {flag : ℕ} → flag ≡ comparison_number (comparison_meaning r.which)
        → operand_cell a ≡ cell_meaning left → Gets operand_cell (cell_meaning right) text m b (if_operand current p (drop b.at text)) m₁ d
        → Gets test_alone (Table.row_with compare_kind.number flag 0 0 (cell_meaning left) (cell_meaning right)) text m c
        (compared_to p a (drop c.at text)) m₁ d
    unfolding statement_row
    compared-got left right {m} {m₁} {d} {flag} f e g =
        let compare : ℕ → Table.Cell → Table.Cell → Table.Row = λ n x y. Table.row_with compare_kind.number n 0 0 x y in
        let row = compare flag (cell_meaning left) (cell_meaning right) in
        subst (λ y. Gets test_alone row text m c y m₁ d) (sym compared_is)
        (gets_skip r.size (skipped c r.size moved)
        (gets_succeed _ test_alone row (compares a (comparison_meaning r.which) g.value) g refl
        (ap (λ n. compare n (operand_cell a) (operand_cell g.value)) (sym f)
        ∙ ap₂ (λ (x y : Table.Cell). compare flag x y) e g.made)))

-- a draft behind another reading
pub draft_then : {A B C : Type 0} {f : A → C} {v : C} (h : B → Table.Row) {text : List ℕ} {m : Mentioned} {c : Cursor} {x : Parsed A} {m₁ : Mentioned}
    {d : Cursor} (next : A × List ℕ → Parsed B) (r : Option (Row × Cursor)) {m₂ : Mentioned} → (a : Gets f v text m c x m₁ d)
    → DraftRead h text m₁ d (next (a.value, drop d.at text)) r m₂ → DraftRead h text m c (x >>= next) r m₂
draft_then h next (Some (v, e)) a b = record { answer = gets_then next h (row_meaning v) a b.answer }
draft_then h next None a b = record { answer = got_broken next a.is b.answer }

-- two operands and a sign
module _ (p : Resolution) {text : List ℕ} {m : Mentioned} {c : Cursor} where
  pub comparing_then : (left : Cell) {m₁ : Mentioned} {d : Cursor}
      → Gets operand_cell (cell_meaning left) text m c (if_operand current p (drop c.at text)) m₁ d → (r : Option (Row × Cursor)) {m₂ : Mentioned}
      → ((a : Program.Operand) → operand_cell a ≡ cell_meaning left → DraftRead test_alone text m₁ d (compared_to p a (drop d.at text)) r m₂)
      → DraftRead test_alone text m c (comparing_at p (drop c.at text)) r m₂
  unfolding comparing_at
  comparing_then left a r b = draft_then test_alone _ r a (b a.value a.made)

pub comparing_broken : (p : Resolution) (bs : List ℕ) → if_operand current p bs ≡ broken → comparing_at p bs ≡ broken
unfolding comparing_at
comparing_broken p bs e = then_broken _ e

-- a test of one cell before `)`
module _ {A : Type 0} {f : A → Table.Cell} (g : A → Test) (kind : ℕ) (same : (a : A) → test_alone (g a) ≡ Table.row_with kind 0 0 0 (f a) no_cell)
    {text : List ℕ} {m : Mentioned} {c : Cursor} {x : Parsed A} {m₁ : Mentioned} where
  tested_case : (v : Cell) (d : Cursor) (b : Bool) → begins (41 ∷ []) (drop d.at text) ≡ b → Gets f (cell_meaning v) text m c x m₁ d
      → DraftRead test_alone text m c (x >>= λ (a, rest). expect (bytes ")") rest >>= λ (_, rest). succeed (g a) rest)
      (rowed_at (one_cell kind v) (elim b [ true ↦ Some (cursor_moved d 1) | false ↦ None ])) m₁
  unfolding no_cell
  tested_case v d true e a =
      record { answer = gets_closed g a test_alone e (same a.value ∙ ap (λ (z : Table.Cell). Table.row_with kind 0 0 0 z no_cell) a.made) }
  tested_case v d false e a = record { answer = gets_open g a e }

  tested-cell : (r : Option (Cell × Cursor)) → OperandRead f text m c x r m₁
      → DraftRead test_alone text m c (x >>= λ (a, rest). expect (bytes ")") rest >>= λ (_, rest). succeed (g a) rest) (tested_by text kind r) m₁
  tested-cell (Some (v, d)) a = tested_case v d (begins (41 ∷ []) (drop d.at text)) refl a.answer
  tested-cell None a = record { answer = then_broken _ a.answer }

module _ (p : Resolution) {text : List ℕ} {m : Mentioned} {c : Cursor} {m₁ : Mentioned} where
  pub test_null : {d : Cursor} → d ≡ cursor_moved c 5 → begins (bytes "NULL(") (drop c.at text) ≡ true → (q : Option (ℕ × Cursor))
      → PlaceRead text m d (string_name current p (role_of None) (drop d.at text)) q m₁
      → DraftRead test_alone text m c (test current p (drop c.at text)) (tested_by text null_kind.number (placed_in parts 0 q)) m₁
  unfolding test statement_row part_cell role_of no_role
  test_null s e q a =
      let closes : List ℕ → Parsed Test =
      λ l. string_name current p no_role l >>= λ (s, rest). expect (bytes ")") rest >>= λ (_, rest). succeed (is_null s) rest in
      draft_same (chosen _ _ e ∙ ap closes (sym (drop-moved text c 5 s)))
      (tested-cell is_null null_kind.number (λ _. refl) (placed_in parts 0 q)
      (cell_skip 5 (placed_in parts 0 q) (skipped c 5 s) (place-cell parts 0 q a)))

  pub test_numeric : {d : Cursor} → d ≡ cursor_moved c 8 → begins (bytes "NULL(") (drop c.at text) ≡ false
      → begins (bytes "NUMERIC(") (drop c.at text) ≡ true → (q : Option (Cell × Cursor))
      → OperandRead (part_cell parts) text m d (part_name current p (role_of None) (drop d.at text)) q m₁
      → DraftRead test_alone text m c (test current p (drop c.at text)) (tested_by text numeric_kind.number q) m₁
  unfolding test statement_row role_of no_role
  test_numeric s e₁ e q a =
      let closes : List ℕ → Parsed Test =
      λ l. part_name current p no_role l >>= λ (s, rest). expect (bytes ")") rest >>= λ (_, rest). succeed (is_numeric s) rest in
      draft_same (chosen _ _ e₁ ∙ chosen _ _ e ∙ ap closes (sym (drop-moved text c 8 s)))
      (tested-cell is_numeric numeric_kind.number (λ _. refl) q (cell_skip 8 q (skipped c 8 s) a))

  pub test_compares : begins (bytes "NULL(") (drop c.at text) ≡ false → begins (bytes "NUMERIC(") (drop c.at text) ≡ false
      → (r : Option (Row × Cursor)) → DraftRead test_alone text m c (comparing_at p (drop c.at text)) r m₁
      → DraftRead test_alone text m c (test current p (drop c.at text)) r m₁
  unfolding test comparing_at compared_to
  test_compares e₁ e₂ r a = draft_same (chosen _ _ e₁ ∙ chosen _ _ e₂) a
