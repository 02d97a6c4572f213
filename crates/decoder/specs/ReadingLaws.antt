-- What a cell is read as that is of none of the kinds that its class adds to the one below it, and what an item may be. Assumes nothing.
use Rattle.std.proofs.Math.Bool.{false}
use mathlib.Core.List.{List, []}
use Rattle.std.specs.Prelude.{◌≡◌, ℕ, ◌+◌, ◌≤◌, ◌<◌, take, drop}
use Rattle.std.proofs.Common.{sym, arith}
use Rattle.std.proofs.Math.Path.{subst}
use Rattle.std.proofs.Math.Dec.{eqb}
use borrow.Author.Tests.{ne_eqb, eqb-true}
use Rattle.base.specs.Choice.{cond_cases}
use Rattle.syntax.specs.Program.{Length, constantly, numbered, number_of, plus, minus, times, over, Sign, positive, negative}
use Rattle.syntax.specs.Program.{Item, operand, operator, sign, Element, literal, part, string_call, PatternElement, value, free_filler, fixed_filler}
use Rattle.encoding.specs.KindLaws.{read_under}
use Rattle.encoding.specs.Kinds.{part_kinds, operand_kinds, item_kinds, element_kinds, pattern_kinds, operator_number, sign_number, parts, number_of_parts}
use Rattle.encoding.specs.Kinds.{constant_kind, number_kind, length_kind, literal_kind, text_kind, text_by_kind, free_kind, fixed_kind, fixed_by_kind}
use Rattle.encoding.specs.Numerals.{unbiased}
use Rattle.encoding.specs.Table.{Cell, literals_at}
use Rattle.encoding.specs.TableReading.{range_from, range_count}
use Rattle.encoding.specs.TableReading.{read_cell, payload_in, other_part, part_of_cell, operand_of_cell, item_of_cell, element_of_cell, pattern_of_cell}
use Rattle.decoder.specs.Reading.{operator_of_kind}

module _ (c : Cell) where
  -- an operand is NUMBER of a part
  pub operand_number_of : eqb c.kind constant_kind.number ≡ false → eqb c.kind number_kind.number ≡ false
      → eqb c.kind length_kind.number ≡ false → operand_of_cell c ≡ number_of (part_of_cell number_of_parts c)
  unfolding operand_of_cell part_of_cell read_cell operand_kinds part_kinds payload_in
  operand_number_of h g k = rw (h, g, k) (read_under number_of other_part (part_kinds number_of_parts) [] c)

  -- an element is a part
  pub element_part : (t : List ℕ) → eqb c.kind literal_kind.number ≡ false → eqb c.kind text_kind.number ≡ false
      → eqb c.kind text_by_kind.number ≡ false → element_of_cell t c ≡ part (part_of_cell parts c)
  unfolding element_of_cell part_of_cell read_cell element_kinds part_kinds payload_in
  element_part t h g k = rw (h, g, k) (read_under part other_part (part_kinds parts) t c)

  -- an element of a pattern is a value
  pub pattern_value : (t : List ℕ) → eqb c.kind free_kind.number ≡ false → eqb c.kind fixed_kind.number ≡ false
      → eqb c.kind fixed_by_kind.number ≡ false → pattern_of_cell t c ≡ value (element_of_cell t c)
  unfolding pattern_of_cell element_of_cell read_cell pattern_kinds element_kinds part_kinds payload_in
  pattern_value t h g k = rw (h, g, k) (read_under value (part other_part) element_kinds t c)

  -- an element is a literal if its kind says so, a text, or a part
  pub element_cases : (t : List ℕ) (P : Element → Type 0) → (c.kind ≡ literal_kind.number → (w : List ℕ) → P (literal w))
      → ((n : Length) → P (string_call n c.place)) → P (part (part_of_cell parts c)) → P (element_of_cell t c)
  unfolding element_of_cell part_of_cell read_cell element_kinds part_kinds payload_in
  element_cases t P l x p =
      cond_cases P (eqb c.kind 80) (λ h. l (eqb-true c.kind 80 h) (take (range_count c.value) (drop (literals_at + range_from c.value) t)))
      (λ _.
      cond_cases P (eqb c.kind 81) (λ _. x (constantly (unbiased c.value)))
      (λ _.
      cond_cases P (eqb c.kind 82) (λ _. x (numbered c.value))
      (λ _. subst P (sym (read_under part other_part (part_kinds parts) t c)) p)))

  -- an element of a pattern is a filler, free or fixed, or a value
  pub pattern_cases : (t : List ℕ) (P : PatternElement → Type 0) → P (free_filler c.place) → ((n : Length) → P (fixed_filler c.place n))
      → P (value (element_of_cell t c)) → P (pattern_of_cell t c)
  unfolding pattern_of_cell element_of_cell read_cell pattern_kinds element_kinds part_kinds payload_in
  pattern_cases t P f x v =
      cond_cases P (eqb c.kind 96) (λ _. f)
      (λ _.
      cond_cases P (eqb c.kind 97) (λ _. x (constantly (unbiased c.value)))
      (λ _.
      cond_cases P (eqb c.kind 98) (λ _. x (numbered c.value))
      (λ _. subst P (sym (read_under value (part other_part) element_kinds t c)) v)))

  -- an item is the operator of its kind, a sign, or an operand
  pub item_cases : (P : Item → Type 0) → P (operator (operator_of_kind c.kind)) → ((s : Sign) → P (sign s)) → P (operand (operand_of_cell c))
      → P (item_of_cell c)
  unfolding item_of_cell operand_of_cell operator_of_kind read_cell item_kinds operand_kinds part_kinds payload_in operator_number sign_number
  item_cases P o s a =
      cond_cases P (eqb c.kind 16) (λ h. rw h at o)
      (λ h.
      cond_cases P (eqb c.kind 17) (λ g. rw (h, g) at o)
      (λ g.
      cond_cases P (eqb c.kind 18) (λ k. rw (h, g, k) at o)
      (λ k.
      cond_cases P (eqb c.kind 19) (λ l. rw (h, g, k) at o)
      (λ l.
      cond_cases P (eqb c.kind 24) (λ _. s positive)
      (λ _.
      cond_cases P (eqb c.kind 25) (λ _. s negative)
      (λ _. subst P (sym (read_under operand (number_of other_part) operand_kinds [] c)) a))))))

  -- an operand where it has none of the kinds of operators and signs
  pub item_operand : eqb c.kind (operator_number plus) ≡ false → eqb c.kind (operator_number minus) ≡ false
      → eqb c.kind (operator_number times) ≡ false → eqb c.kind (operator_number over) ≡ false
      → eqb c.kind (sign_number positive) ≡ false → eqb c.kind (sign_number negative) ≡ false → item_of_cell c ≡ operand (operand_of_cell c)
  unfolding item_of_cell operand_of_cell read_cell item_kinds operand_kinds part_kinds payload_in operator_number sign_number
  item_operand h g k l m n = rw (h, g, k, l, m, n) (read_under operand (number_of other_part) operand_kinds [] c)

  -- which all come before those of operands
  pub item_behind : constant_kind.number ≤ c.kind → item_of_cell c ≡ operand (operand_of_cell c)
  unfolding operator_number sign_number
  item_behind h =
      let above : (k : ℕ) → k < constant_kind.number → eqb c.kind k ≡ false = λ k g. ne_eqb c.kind k (λ e. omega arith) in
      item_operand (above 16 (omega arith)) (above 17 (omega arith)) (above 18 (omega arith)) (above 19 (omega arith)) (above 24 (omega arith))
      (above 25 (omega arith))
