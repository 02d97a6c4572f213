-- The tests of items one behind the other ask for what the rules say: their cells stand at their places, they hold, and they are
-- balanced. Assumes nothing.
use Rattle.std.specs.Prelude.{Bool, ◌&&◌, ◌≡◌, ltb, length, get_or, Option, Some, None, option_and_then}
use Rattle.std.proofs.Math.Bool.{true, cond}
use mathlib.Core.List.{List, [], ◌∷◌}
use Rattle.std.proofs.Math.Path.{refl, sym, ap}
use Rattle.std.proofs.lemmas.Option.{none-some, same_Some}
use Rattle.std.proofs.Common.{◌∙◌, arith}
use Prim.Native.Nat.{ℕ, zero, suc, ◌+◌, ◌*◌, ◌-◌, ◌^◌, ◌≤◌, ◌<◌}
use Rattle.std.proofs.Math.Dec.{leb}
use borrow.Author.Tests.{ltb-true, leb-true, eqb-true, lt-ltb, le-leb, eq-eqb}
use Rattle.base.specs.Choice.{test_cases, both_true, both_pass}
use Rattle.base.specs.Current.{current, table_size}
use Rattle.base.specs.Lists.{all}
use Rattle.syntax.specs.Program.{constantly, numbered, whole, first, constant, variable, length_of, number_of}
use Rattle.syntax.specs.Program.{plus, minus, times, over, positive, negative, Item, operand, operator, sign}
use Rattle.encoding.specs.CellLaws.{cell-read, item_kept}
use Rattle.encoding.specs.Conditions.{current-limit}
use Rattle.encoding.specs.KindLaws.{item_class, item_plain, found_plain}
use Rattle.encoding.specs.Kinds.{item_kinds, spell_item}
use Rattle.encoding.specs.RowLaws.{EachFrom}
use Rattle.encoding.specs.Rules.{balanced, most_waiting, item_holds}
use Rattle.encoding.specs.Table.{Cell, cell_bytes, item_cell, items_at}
use Rattle.encoding.specs.TableReading.{cell_at, item_of_cell, read_items}
use Rattle.verifier.specs.CellTests.{cell_test, cell-found, class_back, class_forth, plain_fits}
use Rattle.verifier.specs.Classes.{items_told, items_within}
use Rattle.verifier.specs.Same.{ItemSame}
use Rattle.verifier.specs.Written.{cell-written, piece_stands}

-- how many numbers an item takes: an operator two, a sign one, an operand none
unfoldable pub item_used : ℕ → ℕ
item_used k = cond (ltb k 24) 2 (cond (ltb k 32) 1 0)

unfoldable used : Item → ℕ
used (operand a) = 0
used (operator o) = 2
used (sign s) = 1

item_used_lem : (x : Item) → item_used (item_cell x).kind ≡ used x
unfolding item_used used item_cell
item_used_lem (operator plus) = refl
item_used_lem (operator minus) = refl
item_used_lem (operator times) = refl
item_used_lem (operator over) = refl
item_used_lem (sign positive) = refl
item_used_lem (sign negative) = refl
item_used_lem (operand (constant z)) = refl
item_used_lem (operand (variable i)) = refl
item_used_lem (operand (length_of s)) = refl
item_used_lem (operand (number_of (whole s))) = refl
item_used_lem (operand (number_of (first s (constantly z)))) = refl
item_used_lem (operand (number_of (first s (numbered i)))) = refl

-- an item that finds its numbers is balanced where those behind it are, and the other way round
balanced-more : (x : Item) (known : ℕ) (is : List Item) → used x ≤ known → known + 1 - used x ≤ 64
    → balanced known (x ∷ is) ≡ balanced (known + 1 - used x) is
unfolding balanced used most_waiting
balanced-more (operand a) known is low high =
    let next : suc known ≡ known + 1 - 0 = omega arith in
    rw (lt-ltb known 64 (omega arith), next)
balanced-more (operator o) known is low high =
    let next : known - 1 ≡ known + 1 - 2 = omega arith in
    rw (le-leb 2 known low, next)
balanced-more (sign s) known is low high =
    let next : known ≡ known + 1 - 1 = omega arith in
    rw (le-leb 1 known low, ← next)

balanced_finds : (x : Item) (known : ℕ) (is : List Item) → known ≤ 64 → balanced known (x ∷ is) ≡ true
    → (used x ≤ known) × (known + 1 - used x ≤ 64)
unfolding balanced used most_waiting
balanced_finds (operand a) known is small h =
    omega (arith, ltb-true known 64 (both_true (ltb known 64) (balanced (suc known) is) h).0)
balanced_finds (operator o) known is small h =
    omega (arith, leb-true 2 known (both_true (leb 2 known) (balanced (known - 1) is) h).0)
balanced_finds (sign s) known is small h =
    omega (arith, leb-true 1 known (both_true (leb 1 known) (balanced known is) h).0)

module _ (strings numbers steps : ℕ) where
  unfoldable pub item_test : (known : ℕ) → Cell → Bool
  item_test known c =
      cell_test strings numbers 16 63 c && (leb (item_used c.kind) known && leb (known + 1 - item_used c.kind) 64)

  -- how many numbers wait behind an item, and behind so many, from item k on; none where an item breaks a rule
  unfoldable pub item_end : (known : ℕ) → Cell → Option ℕ
  item_end known c = cond (item_test known c) (Some (known + 1 - item_used c.kind)) None

  unfoldable pub items_end : List ℕ → (k known count : ℕ) → Option ℕ
  items_end t k known zero = Some known
  items_end t k known (suc m) = option_and_then (λ left. items_end t (k + 1) left m) (item_end known (cell_at t (items_at + 8 * k)))

  -- the tests one by one
  pub item_tests : (known : ℕ) (c : Cell) → item_test known c ≡ true
      → (cell_test strings numbers 16 63 c ≡ true) × (item_used c.kind ≤ known) × (known + 1 - item_used c.kind ≤ 64)
  unfolding item_test
  item_tests known c h =
      let low = leb (item_used c.kind) known in
      let high = leb (known + 1 - item_used c.kind) 64 in
      let one = both_true (cell_test strings numbers 16 63 c) (low && high) h in
      let two = both_true low high one.1 in
      (one.0, leb-true (item_used c.kind) known two.0, leb-true (known + 1 - item_used c.kind) 64 two.1)

  abbrev pub item_ok : Item → Bool
  item_ok = item_holds current strings numbers steps

  -- items that leave one number
  pub record ItemsBack (t : List ℕ) (k known : ℕ) (xs : List Item) : Type 0 where
    pub same : EachFrom (ItemSame t) k xs
    pub hold : all item_ok xs ≡ true
    pub whole : balanced known xs ≡ true

  module _ (t : List ℕ) (bytes : (i : ℕ) → get_or t i 0 < 256) (room : table_size ≤ length t) where
    pub items_back : (k known m : ℕ) → k + m ≤ 1024 → items_end t k known m ≡ Some 1 → ItemsBack t k known (read_items t k m)
    unfolding items_end read_items item_end all balanced items_at item_of_cell item_holds item_cell
    items_back k known zero inside h = record { same = tt; hold = refl; whole = eq-eqb known 1 (same_Some known 1 h) }
    items_back k known (suc m) inside end =
        let c = cell_at t (items_at + 8 * k) in
        let x = item_of_cell c in
        test_cases (λ b. item_test known c ≡ b
        → option_and_then (λ left. items_end t (k + 1) left m) (cond b (Some (known + 1 - item_used c.kind)) None) ≡ Some 1
        → ItemsBack t k known (x ∷ read_items t (k + 1) m)) (item_test known c)
        (λ _ e h.
        let f = item_tests known c e in
        let found = cell-found strings numbers steps item_class 16 48 63 items_told (omega arith) c f.0 in
        let own = class_back strings numbers steps item_class 16 48 63 items_told (omega arith) _ [] 0 c found (plain_fits strings numbers steps item_class 16 48 63 items_told (omega arith) item_plain found) in
        let uses = ap (λ (y : Cell). item_used y.kind) (sym own.same) ∙ item_used_lem x in
        let rest = items_back (k + 1) (known + 1 - item_used c.kind) m (omega arith) h in
        record {
          same = (ap cell_bytes own.same ∙ cell-written t bytes (items_at + 8 * k) (omega arith), rest.same);
          hold = both_pass own.hold rest.hold;
          whole =
              balanced-more x known (read_items t (k + 1) m) (omega (arith, uses, f.1)) (omega (arith, uses, f.2))
              ∙ ap (λ (u : ℕ). balanced (known + 1 - u) (read_items t (k + 1) m)) (sym uses)
              ∙ rest.whole;
        })
        (λ _ e h. absurd (none-some 1 h)) refl end

  -- the cell of an item that holds passes, and its value has 6 bytes
  item_passes : numbers ≤ 32 → (x : Item) → item_ok x ≡ true → (cell_test strings numbers 16 63 (item_cell x) ≡ true) × ((item_cell x).value < 2 ^ 48)
  unfolding item_holds item_cell
  item_passes few x h =
      let s = spell_item x in
      let empty = found_plain item_kinds s.kind.number s.kind item_plain (item_class.spells x).finds s.payload in (
        (class_forth strings numbers steps item_class 16 48 63 items_told (omega arith) items_within 0 x h (rw empty (omega arith))).0,
        (item_kept current strings numbers steps few current-limit x h).small,
      )

  item_passed : (known : ℕ) (c : Cell) → cell_test strings numbers 16 63 c ≡ true → {u : ℕ} → item_used c.kind ≡ u → (u ≤ known) × (known + 1 - u ≤ 64)
      → item_end known c ≡ Some (known + 1 - u)
  unfolding item_end item_test
  item_passed known c h {u} e finds = rw (h, e, le-leb u known finds.0, le-leb (known + 1 - u) 64 finds.1)

  -- items that hold and are balanced leave one number
  module _ (few : numbers ≤ 32) (t : List ℕ) where
    pub items_forth : (k known : ℕ) (xs : List Item) → known ≤ 64 → EachFrom (ItemSame t) k xs → all item_ok xs ≡ true
        → balanced known xs ≡ true → items_end t k known (length xs) ≡ Some 1
    unfolding items_end all balanced
    items_forth k known [] small same hold h = ap Some (eqb-true known 1 h)
    items_forth k known (x ∷ xs) small same hold h =
        let f = both_true (item_ok x) (all item_ok xs) hold in
        let c = item_cell x in
        let at = items_at + 8 * k in
        let own = item_passes few x f.0 in
        let read = cell-read t at c own.1 (piece_stands t at 8 same.0) in
        let uses = item_used_lem x in
        let finds = balanced_finds x known xs small h in
        let next : balanced (known + 1 - used x) xs ≡ true = sym (balanced-more x known xs finds.0 finds.1) ∙ h in
        let end : item_end known c ≡ Some (known + 1 - used x) = item_passed known c own.0 uses finds in
        ap (option_and_then (λ left. items_end t (k + 1) left (length xs))) (ap (item_end known) read ∙ end)
        ∙ items_forth (k + 1) (known + 1 - used x) xs finds.1 same.1 f.1 next
