-- What a numeric expression of two operands and an operator comes to. Assumes nothing.
use mathlib.Core.Bool.{true, false≢true, and-eq-true_iff}
use mathlib.Core.List.{List, [], ◌∷◌}
use mathlib.Core.Path.{◌≡◌, refl, sym, ap, ◌∙◌}
use Prim.Native.Nat.{ℕ, suc, ◌+◌, ◌*◌}
use native.Mathlib.Nat.{add-zero}
use native.Mathlib.Omega.{arith}
use lib.Dec.{ltb}
use lib.IntN.{ℤ}
use Rattle.base.specs.Current.{current}
use Rattle.encoding.specs.Rules.{most_waiting, balanced}
use Rattle.encoding.specs.Table.{items_at}
use Rattle.encoding.specs.Table as Table
use Rattle.encoding.specs.TableReading.{cell_at, operand_of_cell, item_of_cell, read_items}
use Rattle.syntax.specs.Program.{Operand, Operator, Item, operand, operator}
use Rattle.machine.specs.Expressions.{operand_in, operation, combined, item_in, numeric_in}
use Rattle.machine.specs.State.{Memory}
use Rattle.decoder.specs.Holds.{ItemsHold, OperandHolds, StretchHas}
use Rattle.decoder.specs.Meaning.{operand_meaning, items_meaning}
use Rattle.decoder.specs.Reading.{operator_of_kind}
use Rattle.decoder.specs.ReadingLaws.{item_cases, item_behind}
use Rattle.decoder.specs.declared.Operand as rows
use Rattle.decoder.specs.declared.Item.TheVariants as items
use Rattle.decoder.specs.declared.Stretch.{Stretch}
use Rattle.values.specs.Result.{Result, done, stop, with_notes, pure, ◌>>=◌}
use Rattle.evaluator.specs.Pairs.{PairAt}
use Rattle.evaluator.proofs.Working.{numeric_from, numeric_begins, numeric_more, numeric_stops, numeric_ends}

-- the first item of a balanced expression is an operand
first_operand : (c : Table.Cell) (is : List Item) → balanced 0 (item_of_cell c ∷ is) ≡ true → item_of_cell c ≡ operand (operand_of_cell c)
unfolding balanced
first_operand c is =
    item_cases c (λ (x : Item). balanced 0 (x ∷ is) ≡ true → x ≡ operand (operand_of_cell c)) (λ h. absurd (false≢true h))
    (λ _ h. absurd (false≢true h)) (λ _. refl)

-- the item that leaves one number of two is an operator
last_operator : (c : Table.Cell) → balanced 2 (item_of_cell c ∷ []) ≡ true → item_of_cell c ≡ operator (operator_of_kind c.kind)
unfolding balanced most_waiting
last_operator c =
    item_cases c (λ (x : Item). balanced 2 (x ∷ []) ≡ true → x ≡ operator (operator_of_kind c.kind)) (λ _. refl)
    (λ _ h. absurd (false≢true h)) (λ h. absurd (false≢true h))

-- two operands and the operator behind them
abbrev pub pair_of : Operand → Operand → Operator → List Item
pair_of a b o = operand a ∷ (operand b ∷ (operator o ∷ []))

-- behind an operand one number more is known
balanced-behind : (a : Operand) (known : ℕ) (is : List Item) → balanced known (operand a ∷ is) ≡ true → balanced (suc known) is ≡ true
unfolding balanced
balanced-behind a known is e = ((and-eq-true_iff (ltb known most_waiting) (balanced (suc known) is)).0 e).1

-- the items of a pair
module _ {t : List ℕ} {s : Stretch} (hold : ItemsHold t s) where
  abbrev cell_of : ℕ → Table.Cell
  cell_of k = cell_at t (items_at + 8 * k)

  -- an operand, as the code reads it
  operand_holds_lem : (k : ℕ) → StretchHas s k → item_of_cell (cell_of k) ≡ operand (operand_of_cell (cell_of k)) → (a : rows.Operand)
      → operand_meaning a ≡ operand_of_cell (cell_of k) → OperandHolds a
  operand_holds_lem k within own a read = hold.each k (items.Operand a) within (ap operand read ∙ sym own)

  module _ (p : PairAt t s) where
    abbrev pub first : Table.Cell
    first = cell_of s.from

    abbrev pub second : Table.Cell
    second = cell_of (s.from + 1)

    abbrev pub third : Table.Cell
    third = cell_of (s.from + 2)

    three-items : items_meaning t s ≡ item_of_cell first ∷ (item_of_cell second ∷ (item_of_cell third ∷ []))
    unfolding read_items
    three-items =
        let next : s.from + 1 + 1 ≡ s.from + 2 = omega arith in
        ap (read_items t s.from) p.three
        ∙ ap (λ (k : ℕ). item_of_cell first ∷ (item_of_cell second ∷ (item_of_cell (cell_of k) ∷ []))) next

    balanced-items : balanced 0 (item_of_cell first ∷ (item_of_cell second ∷ (item_of_cell third ∷ []))) ≡ true
    balanced-items = ap (balanced 0) (sym three-items) ∙ hold.whole

    first_item : item_of_cell first ≡ operand (operand_of_cell first)
    first_item = first_operand first (item_of_cell second ∷ (item_of_cell third ∷ [])) balanced-items

    second_item : item_of_cell second ≡ operand (operand_of_cell second)
    second_item = item_behind second p.middle

    third_item : item_of_cell third ≡ operator (operator_of_kind third.kind)
    third_item =
        let rest = item_of_cell second ∷ (item_of_cell third ∷ []) in
        let one =
        balanced-behind (operand_of_cell first) 0 rest
        (ap (λ (x : Item). balanced 0 (x ∷ rest)) (sym first_item) ∙ balanced-items) in
        last_operator third
        (balanced-behind (operand_of_cell second) 1 (item_of_cell third ∷ [])
        (ap (λ (x : Item). balanced 1 (x ∷ (item_of_cell third ∷ []))) (sym second_item) ∙ one))

    pub pair_items : items_meaning t s ≡ pair_of (operand_of_cell first) (operand_of_cell second) (operator_of_kind third.kind)
    pair_items = three-items ∙ (λ i. first_item i ∷ (second_item i ∷ (third_item i ∷ [])))

    -- its operands, as the code reads them
    pub first_holds : (a : rows.Operand) → operand_meaning a ≡ operand_of_cell first → OperandHolds a
    first_holds = operand_holds_lem s.from (record { low = omega arith; high = omega (arith, p.three) }) first_item

    pub second_holds : (b : rows.Operand) → operand_meaning b ≡ operand_of_cell second → OperandHolds b
    second_holds = operand_holds_lem (s.from + 1) (record { low = omega arith; high = omega (arith, p.three) }) second_item

-- the value of a pair
module _ (m : Memory) {is : List Item} {a b : Operand} {o : Operator} (items : is ≡ pair_of a b o) where
  operand_known : (c : Operand) (known : List ℤ) {x : ℤ} {n : ℕ} → operand_in current m c ≡ done x n
      → item_in current m known (operand c) ≡ done (x ∷ known) (n + 0)
  unfolding item_in ◌>>=◌ with_notes pure
  operand_known c known e = ap (λ (w : Result ℤ). w >>= λ z. pure (z ∷ known)) e

  operand_stops : (c : Operand) (known : List ℤ) {k : ℕ} → operand_in current m c ≡ stop k
      → item_in current m known (operand c) ≡ stop k
  unfolding item_in ◌>>=◌
  operand_stops c known e = ap (λ (w : Result ℤ). w >>= λ z. pure (z ∷ known)) e

  -- the operator makes what is left of two numbers
  operator_works : (x y : ℤ) (notes : ℕ) (w : Result ℤ) → operation current o x y ≡ w
      → numeric_from m notes (y ∷ (x ∷ [])) (operator o ∷ []) ≡ with_notes notes w
  unfolding item_in combined ◌>>=◌ with_notes pure
  operator_works x y notes (done z n) e =
      let item : item_in current m (y ∷ (x ∷ [])) (operator o) ≡ done (z ∷ []) (n + 0) =
      ap (λ (w : Result ℤ). w >>= λ v. pure (v ∷ [])) e in
      numeric_more m notes (n + 0) (y ∷ (x ∷ [])) (z ∷ []) (operator o) [] item
      ∙ numeric_ends m (notes + (n + 0)) z []
      ∙ ap (λ (k : ℕ). done z (notes + k)) (add-zero n)
  operator_works x y notes (stop k) e =
      numeric_stops m notes k (y ∷ (x ∷ [])) (operator o) []
      (ap (λ (w : Result ℤ). w >>= λ v. pure (v ∷ [])) e)

  module _ {x : ℤ} {n : ℕ} (one : operand_in current m a ≡ done x n) where
    first-known : numeric_in current m is ≡ numeric_from m n (x ∷ []) (operand b ∷ (operator o ∷ []))
    first-known =
        let count : 0 + (n + 0) ≡ n = omega arith in
        ap (numeric_in current m) items
        ∙ numeric_begins m (pair_of a b o)
        ∙ numeric_more m 0 (n + 0) [] (x ∷ []) (operand a) (operand b ∷ (operator o ∷ [])) (operand_known a [] one)
        ∙ ap (λ (k : ℕ). numeric_from m k (x ∷ []) (operand b ∷ (operator o ∷ []))) count

    pub pair_works : {y : ℤ} {k : ℕ} → operand_in current m b ≡ done y k
        → numeric_in current m is ≡ with_notes (n + k) (operation current o x y)
    pair_works {y} {k} two =
        let count : n + (k + 0) ≡ n + k = omega arith in
        first-known
        ∙ numeric_more m n (k + 0) (x ∷ []) (y ∷ (x ∷ [])) (operand b) (operator o ∷ []) (operand_known b (x ∷ []) two)
        ∙ ap (λ (l : ℕ). numeric_from m l (y ∷ (x ∷ [])) (operator o ∷ [])) count
        ∙ operator_works x y (n + k) (operation current o x y) refl

    pub pair_second_stops : {k : ℕ} → operand_in current m b ≡ stop k → numeric_in current m is ≡ stop k
    pair_second_stops {k} two =
        first-known ∙ numeric_stops m n k (x ∷ []) (operand b) (operator o ∷ []) (operand_stops b (x ∷ []) two)

  pub pair_first_stops : {k : ℕ} → operand_in current m a ≡ stop k → numeric_in current m is ≡ stop k
  pair_first_stops {k} one =
      ap (numeric_in current m) items
      ∙ numeric_begins m (pair_of a b o)
      ∙ numeric_stops m 0 k [] (operand a) (operand b ∷ (operator o ∷ [])) (operand_stops a [] one)
