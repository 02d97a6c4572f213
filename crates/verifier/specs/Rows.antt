-- The tests of a row ask for what the rules say of its statement: each field is written as it is read, and holds; what is written of a
-- statement that holds passes. Assumes nothing.
use Rattle.std.specs.Prelude.{Bool, ◌&&◌, ◌≡◌, ℕ, zero, suc, ◌+◌, ◌^◌, ◌≤◌, ◌<◌, eqb, Option, Some}
use Rattle.std.proofs.Math.Bool.{true}
use mathlib.Core.List.{[]}
use Rattle.std.proofs.Math.Path.{refl, sym, subst}
use Rattle.std.proofs.Common.{arith}
use Rattle.std.proofs.Math.Dec.{leb, ltb}
use borrow.Author.Tests.{ltb-true, leb-true, eqb-true, eqb-false, lt-ltb, le-leb}
use Rattle.base.specs.Choice.{test_cases, both_true, both_pass}
use Rattle.base.specs.Current.{current}
use Rattle.syntax.specs.Program.{Part, Operand, number_of, equal, unequal, less, greater, at_most, at_least, forward, backward}
use Rattle.encoding.specs.KindLaws.{part_class, operand_class, part_plain, operand_plain, found_plain}
use Rattle.encoding.specs.Kinds.{no_place, of_string, of_number, no_value, spelt}
use Rattle.encoding.specs.Kinds.{Flagging, no_flag, of_comparison, of_direction, FlagOf, Stepping, no_step, one_step, both_steps, StepsOf}
use Rattle.encoding.specs.Kinds.{Lefting, no_left, number_left, string_left, part_left, operand_left, LeftOf}
use Rattle.encoding.specs.Kinds.{nothing_number, range_number, parts, part_kinds, operand_kinds, spell_part, spell_operand}
use Rattle.encoding.specs.Rules.{part_holds, operand_holds, branch_holds, left_holds, steps_hold}
use Rattle.encoding.specs.Table.{Cell, cell, no_cell, part_cell, operand_cell, Row, flag_number, comparison_number, direction_number}
use Rattle.encoding.specs.Table.{success_of, failure_of, left_cell}
use Rattle.encoding.specs.TableReading.{other_part, part_of_cell, operand_of_cell, comparison_of, direction_of, flag_in, steps_in, left_in}
use Rattle.verifier.specs.Asked.{CellAsks, cell_asks, cell_asked}
use Rattle.verifier.specs.CellTests.{cell_test, asked_test, fit_test, place_bound, value_low, value_bound, cell-found, class_back, class_forth, plain_fits}
use Rattle.verifier.specs.Classes.{parts_told, operands_told, parts_within, operands_within, nothing_asks, number_asks, string_asks, range_asks}
use Rattle.encoding.specs.declared.cells.Counts.{Counts}
use Rattle.verifier.specs.Tests.{flag_test, steps_test, left_test}

-- a number from one to so many, by each of them
abbrev pub UpTo : (ℕ → Type 0) → ℕ → ℕ → Type 0
UpTo P k zero = Unit {0}
UpTo P k (suc m) = P k × UpTo P (k + 1) m

pub up_to : (P : ℕ → Type 0) (k m : ℕ) → UpTo P k m → (j : ℕ) → k ≤ j → j < k + m → P j
up_to P k zero b j low high = absurd (omega arith)
up_to P k (suc m) b j low high =
    test_cases (λ _. P j) (eqb j k) (λ e. subst P (sym (eqb-true j k e)) b.0)
    (λ e. up_to P (k + 1) m b.1 j (omega (arith, eqb-false j k e)) (omega arith))

-- the flag
pub flag_written : (f : Flagging) (n : ℕ) → flag_test f n ≡ true → flag_number f (flag_in f n) ≡ n
unfolding flag_test flag_number flag_in comparison_number comparison_of direction_number direction_of
flag_written no_flag n h = sym (eqb-true n 0 h)
flag_written of_comparison n h =
    let g = both_true (leb 1 n) (leb n 6) h in
    up_to (λ k. comparison_number (comparison_of k) ≡ k) 1 6 (refl, (refl, (refl, (refl, (refl, (refl, tt)))))) n (leb-true 1 n g.0)
    (omega (arith, leb-true n 6 g.1))
flag_written of_direction n h =
    let g = both_true (leb 1 n) (leb n 2) h in
    up_to (λ k. direction_number (direction_of k) ≡ k) 1 2 (refl, (refl, tt)) n (leb-true 1 n g.0) (omega (arith, leb-true n 2 g.1))

pub flag_passes : (f : Flagging) (w : FlagOf f) → flag_test f (flag_number f w) ≡ true
unfolding flag_test flag_number comparison_number direction_number
flag_passes no_flag w = refl
flag_passes of_comparison equal = refl
flag_passes of_comparison unequal = refl
flag_passes of_comparison less = refl
flag_passes of_comparison greater = refl
flag_passes of_comparison at_most = refl
flag_passes of_comparison at_least = refl
flag_passes of_direction forward = refl
flag_passes of_direction backward = refl

-- the steps
module _ (strings numbers steps : ℕ) where
  pub steps-written : (s : Stepping) (r : Row) → steps_test steps s r.success r.failure ≡ true
      → (success_of s (steps_in s r) ≡ r.success) × (failure_of s (steps_in s r) ≡ r.failure)
  unfolding steps_test success_of failure_of steps_in
  steps-written no_step r h =
      let g = both_true (eqb r.success 0) (eqb r.failure 0) h in
      (sym (eqb-true r.success 0 g.0), sym (eqb-true r.failure 0 g.1))
  steps-written one_step r h = (refl, sym (eqb-true r.failure 0 (both_true (ltb r.success steps) (eqb r.failure 0) h).1))
  steps-written both_steps r h = (refl, refl)

  pub steps_hold_lem : (s : Stepping) (r : Row) → steps_test steps s r.success r.failure ≡ true → (b : Bool) → b ≡ true
      → steps_hold current strings numbers steps b s (steps_in s r) ≡ true
  unfolding steps_test steps_hold steps_in branch_holds
  steps_hold_lem no_step r h b t = t
  steps_hold_lem one_step r h b t = both_pass t (both_true (ltb r.success steps) (eqb r.failure 0) h).0
  steps_hold_lem both_steps r h b t = both_pass t h

  pub steps_pass : (b : Bool) (s : Stepping) (w : StepsOf s) → steps_hold current strings numbers steps b s w ≡ true
      → steps_test steps s (success_of s w) (failure_of s w) ≡ true
  unfolding steps_test steps_hold success_of failure_of branch_holds
  steps_pass b no_step w h = refl
  steps_pass b one_step w h = both_pass (both_true b (ltb w steps) h).1 refl
  steps_pass b both_steps w h = (both_true b (ltb w.success steps && ltb w.failure steps) h).1

  -- a cell of one kind alone
  alone : (k : ℕ) (c : Cell) → cell_test strings numbers k k c ≡ true → (c.kind ≡ k) × (asked_test strings numbers (cell_asked k) c ≡ true)
  unfolding cell_test
  alone k c h =
      let both = both_true (leb k c.kind && leb c.kind k) (asked_test strings numbers (cell_asked c.kind) c) h in
      let inside = both_true (leb k c.kind) (leb c.kind k) both.0 in
      let is : c.kind ≡ k = omega (arith, leb-true k c.kind inside.0, leb-true c.kind k inside.1) in
      (is, subst (λ (j : ℕ). asked_test strings numbers (cell_asked j) c ≡ true) is both.1)

  -- what a place and a value of one kind lie under
  fit_parts : (k p v : ℕ) (a : CellAsks) (c : Cell) → cell_asked k ≡ Some a → place_bound strings numbers a.counting ≡ p
      → value_bound strings numbers a.valuing ≡ v → cell_test strings numbers k k c ≡ true → (c.kind ≡ k) × (c.place < p) × (c.value < v)
  unfolding asked_test fit_test
  fit_parts k p v a c asks e g h =
      let own = alone k c h in
      let fit = subst (λ (o : Option CellAsks). asked_test strings numbers o c ≡ true) asks own.1 in
      let one = ltb c.place (place_bound strings numbers a.counting) in
      let two = leb (value_low a.valuing) c.value in
      let three = ltb c.value (value_bound strings numbers a.valuing) in
      let both = both_true (one && two) three fit in
      let place = ltb-true c.place (place_bound strings numbers a.counting) (both_true one two both.0).0 in
      let value = ltb-true c.value (value_bound strings numbers a.valuing) both.1 in
      (own.0, omega (arith, e, place), omega (arith, g, value))

  -- and that one passes which is as the kind asks
  one_passes : (a : CellAsks) (c : Cell) → leb c.kind c.kind ≡ true → cell_asked c.kind ≡ Some a → fit_test strings numbers a c ≡ true
      → cell_test strings numbers c.kind c.kind c ≡ true
  unfolding cell_test asked_test
  one_passes a c same asks fit =
      both_pass (both_pass same same) (subst (λ (o : Option CellAsks). asked_test strings numbers o c ≡ true) (sym asks) fit)

  cell-is : {k i v : ℕ} (c : Cell) → c.kind ≡ k → c.place ≡ i → c.value ≡ v → cell k i v ≡ c
  cell-is c e f g = λ i. record { kind = sym e i; place = sym f i; value = sym g i }

  -- nothing, and a range
  pub nothing_written : (c : Cell) → cell_test strings numbers nothing_number nothing_number c ≡ true → no_cell ≡ c
  unfolding no_cell place_bound value_bound
  nothing_written c h =
      let f = fit_parts 0 1 1 (cell_asks no_place no_value) c nothing_asks refl refl h in
      cell-is c f.0 (omega (arith, f.1)) (omega (arith, f.2))

  pub nothing_passes : cell_test strings numbers nothing_number nothing_number no_cell ≡ true
  unfolding no_cell fit_test place_bound value_low value_bound
  nothing_passes = one_passes (cell_asks no_place no_value) no_cell refl nothing_asks refl

  pub range_written : (c : Cell) → cell_test strings numbers range_number range_number c ≡ true → (cell range_number 0 c.value ≡ c) × (c.value < 2 ^ 48)
  unfolding place_bound value_bound
  range_written c h =
      let f = fit_parts 112 1 281_474_976_710_656 (cell_asks no_place spelt) c range_asks refl refl h in
      (cell-is c f.0 (omega (arith, f.1)) refl, f.2)

  pub range_passes : (v : ℕ) → v < 2 ^ 48 → cell_test strings numbers range_number range_number (cell range_number 0 v) ≡ true
  unfolding fit_test place_bound value_low value_bound
  range_passes v small =
      one_passes (cell_asks no_place spelt) (cell range_number 0 v) refl range_asks
      (both_pass (both_pass refl (le-leb 0 v (omega arith))) (lt-ltb v 281_474_976_710_656 small))

  -- strings, parts and operands
  pub part_written : (c : Cell) → cell_test strings numbers parts 79 c ≡ true
      → (part_cell parts (part_of_cell parts c) ≡ c) × (part_holds current strings numbers steps (part_of_cell parts c) ≡ true)
  unfolding part_cell part_of_cell part_holds
  part_written c h =
      let found = cell-found strings numbers steps part_class 64 16 79 parts_told (omega arith) c h in
      let fit = plain_fits strings numbers steps part_class 64 16 79 parts_told (omega arith) part_plain found in
      let back = class_back strings numbers steps part_class 64 16 79 parts_told (omega arith) other_part [] 0 c found fit in
      (back.same, back.hold)

  pub part_passes : (p : Part) → part_holds current strings numbers steps p ≡ true → cell_test strings numbers parts 79 (part_cell parts p) ≡ true
  unfolding part_cell part_holds
  part_passes p h =
      let s = spell_part parts p in
      let empty = found_plain (part_kinds parts) s.kind.number s.kind part_plain (part_class.spells p).finds s.payload in
      (class_forth strings numbers steps part_class 64 16 79 parts_told (omega arith) parts_within 0 p h (rw empty (omega arith))).0

  pub operand_written : (c : Cell) → cell_test strings numbers 32 63 c ≡ true
      → (operand_cell (operand_of_cell c) ≡ c) × (operand_holds current strings numbers steps (operand_of_cell c) ≡ true)
  unfolding operand_cell operand_of_cell operand_holds
  operand_written c h =
      let found = cell-found strings numbers steps operand_class 32 32 63 operands_told (omega arith) c h in
      let fit = plain_fits strings numbers steps operand_class 32 32 63 operands_told (omega arith) operand_plain found in
      let back = class_back strings numbers steps operand_class 32 32 63 operands_told (omega arith) (number_of other_part) [] 0 c found fit in
      (back.same, back.hold)

  pub operand_passes : (a : Operand) → operand_holds current strings numbers steps a ≡ true → cell_test strings numbers 32 63 (operand_cell a) ≡ true
  unfolding operand_cell operand_holds
  operand_passes a h =
      let s = spell_operand a in
      let empty = found_plain operand_kinds s.kind.number s.kind operand_plain (operand_class.spells a).finds s.payload in
      (class_forth strings numbers steps operand_class 32 32 63 operands_told (omega arith) operands_within 0 a h (rw empty (omega arith))).0

-- a program with these counts
module _ (n : Counts) where
  pub left-written : (l : Lefting) (c : Cell) → left_test n l c ≡ true
      → (left_cell l (left_in l c) ≡ c) × (left_holds current n.strings n.numbers n.steps l (left_in l c) ≡ true)
  unfolding left_test left_cell left_in left_holds part_cell operand_cell place_bound value_bound
  left-written no_left c h = (nothing_written n.strings n.numbers n.steps c h, refl)
  left-written number_left c h =
      let f = fit_parts n.strings n.numbers n.steps 33 n.numbers 1 (cell_asks of_number no_value) c number_asks refl refl h in
      (cell-is n.strings n.numbers n.steps c f.0 refl (omega (arith, f.2)), lt-ltb c.place n.numbers f.1)
  left-written string_left c h =
      let f = fit_parts n.strings n.numbers n.steps 64 n.strings 1 (cell_asks of_string no_value) c string_asks refl refl h in
      (cell-is n.strings n.numbers n.steps c f.0 refl (omega (arith, f.2)), lt-ltb c.place n.strings f.1)
  left-written part_left c h = part_written n.strings n.numbers n.steps c h
  left-written operand_left c h = operand_written n.strings n.numbers n.steps c h

  pub left-passes : (l : Lefting) (w : LeftOf l) → left_holds current n.strings n.numbers n.steps l w ≡ true → left_test n l (left_cell l w) ≡ true
  unfolding left_test left_cell left_holds part_cell operand_cell fit_test place_bound value_low value_bound
  left-passes no_left w h = nothing_passes n.strings n.numbers n.steps
  left-passes number_left w h =
      one_passes n.strings n.numbers n.steps (cell_asks of_number no_value) (cell 33 w 0) refl number_asks (both_pass (both_pass h refl) refl)
  left-passes string_left w h =
      one_passes n.strings n.numbers n.steps (cell_asks of_string no_value) (cell parts w 0) refl string_asks (both_pass (both_pass h refl) refl)
  left-passes part_left w h = part_passes n.strings n.numbers n.steps w h
  left-passes operand_left w h = operand_passes n.strings n.numbers n.steps w h
