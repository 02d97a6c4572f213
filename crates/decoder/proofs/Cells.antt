-- What a cell stands for, kind by kind. Assumes nothing.
use mathlib.Core.List.{List}
use mathlib.Core.Path.{◌≡◌, refl, sym, ◌∙◌, ap}
use Prim.Native.Nat.{ℕ, ◌+◌, ◌-◌, ◌≤◌}
use lib.Dec.{eqb}
use native.Mathlib.Omega.{arith}
use borrow.Author.Tests.{eq-eqb, ne_eqb, eqb-false}
use Rattle.base.specs.Choice.{cond_cases}
use Rattle.syntax.specs.Program as Program
use Rattle.encoding.specs.Kinds.{item_kinds, parts, number_of_parts, operator_number, sign_number, constant_kind, number_kind, length_kind}
use Rattle.encoding.specs.Kinds.{literal_kind, text_kind, text_by_kind, free_kind, fixed_kind, fixed_by_kind}
use Rattle.encoding.specs.Numerals.{unbiased}
use Rattle.encoding.specs.Table.{Cell, literals_at}
use Rattle.encoding.specs.TableReading.{read_cell, payload_in, part_of_cell, operand_of_cell, item_of_cell, element_of_cell, pattern_of_cell}
use Rattle.numbers.specs.declared.Int.{Int}
use Rattle.decoder.specs.Meaning.{part_meaning, operand_meaning, item_meaning}
use Rattle.decoder.specs.Reading.{operator_of_kind, StretchRead, ElementDecoded, PatternRead}
use Rattle.decoder.specs.ReadingLaws.{operand_number_of, item_operand, element_part, pattern_value}
use Rattle.decoder.specs.declared.Length.TheVariants as lengths
use Rattle.decoder.specs.declared.Part as Part
use Rattle.decoder.specs.declared.Operand as Operand
use Rattle.decoder.specs.declared.Item.TheVariants as items
use Rattle.decoder.specs.declared.Element as Element
use Rattle.decoder.specs.declared.PatternElement.TheVariants.{Value, Free, Fixed}
use Rattle.decoder.specs.declared.Stretch.{Stretch}

module _ (c : Cell) where
  -- a string, or its first bytes
  module _ (first : ℕ) where
    pub whole_part : c.kind ≡ first → part_meaning (Part.TheVariants.Whole c.place) ≡ part_of_cell first c
    unfolding part_of_cell
    whole_part h = rw (eq-eqb c.kind first h)

    pub constant_part : (z : Int) → (c.kind ≡ first → ⊥) → c.kind ≡ first + 1 → z.value ≡ unbiased c.value
        → part_meaning (Part.TheVariants.First c.place (lengths.Constant z)) ≡ part_of_cell first c
    unfolding part_of_cell
    constant_part z g h e =
        rw (ne_eqb c.kind first g, eq-eqb c.kind (first + 1) h) (ap (λ v. Program.first c.place (Program.constantly v)) e)

    pub numbered_part : (c.kind ≡ first → ⊥) → (c.kind ≡ first + 1 → ⊥) → c.kind ≡ first + 2
        → part_meaning (Part.TheVariants.First c.place (lengths.Number c.value)) ≡ part_of_cell first c
    unfolding part_of_cell
    numbered_part g k h = rw (ne_eqb c.kind first g, ne_eqb c.kind (first + 1) k, eq-eqb c.kind (first + 2) h)

    pub other_part_lem : (c.kind ≡ first → ⊥) → (c.kind ≡ first + 1 → ⊥) → (c.kind ≡ first + 2 → ⊥)
        → part_meaning (Part.TheVariants.Whole 0) ≡ part_of_cell first c
    unfolding part_of_cell
    other_part_lem g k h = rw (ne_eqb c.kind first g, ne_eqb c.kind (first + 1) k, ne_eqb c.kind (first + 2) h)

  -- an operand
  pub constant_operand : (z : Int) → c.kind ≡ constant_kind.number → z.value ≡ unbiased c.value
      → operand_meaning (Operand.TheVariants.Constant z) ≡ operand_of_cell c
  unfolding operand_of_cell
  constant_operand z h e = rw h (ap Program.constant e)

  pub number_operand : c.kind ≡ number_kind.number → operand_meaning (Operand.TheVariants.Number c.place) ≡ operand_of_cell c
  unfolding operand_of_cell
  number_operand h = rw h

  pub length_operand : c.kind ≡ length_kind.number → operand_meaning (Operand.TheVariants.LengthOf c.place) ≡ operand_of_cell c
  unfolding operand_of_cell
  length_operand h = rw h

  pub part_operand : (p : Part.Part) → (c.kind ≡ constant_kind.number → ⊥) → (c.kind ≡ number_kind.number → ⊥)
      → (c.kind ≡ length_kind.number → ⊥) → part_meaning p ≡ part_of_cell number_of_parts c
      → operand_meaning (Operand.TheVariants.NumberOf p) ≡ operand_of_cell c
  part_operand p h g k e =
      ap Program.number_of e
      ∙ sym (operand_number_of c (ne_eqb c.kind constant_kind.number h) (ne_eqb c.kind number_kind.number g)
      (ne_eqb c.kind length_kind.number k))

  -- an element
  pub literal_element : (t : List ℕ) (s : Stretch) → c.kind ≡ literal_kind.number → StretchRead c.value s
      → ElementDecoded t c (Element.TheVariants.Literal (22592 + s.from) (22592 + s.from + s.count))
  unfolding element_of_cell literals_at
  literal_element t s h e =
      let size : 22592 + s.from + s.count - (22592 + s.from) ≡ s.count = omega arith in
      record { means = rw (h, size, e.from, e.count); ends = rw (e.from, e.count) (refl, refl) }

  pub text_element : (t : List ℕ) (z : Int) → c.kind ≡ text_kind.number → z.value ≡ unbiased c.value
      → ElementDecoded t c (Element.TheVariants.Text (lengths.Constant z) c.place)
  unfolding element_of_cell
  text_element t z h e = record { means = rw h (ap (λ v. Program.string_call (Program.constantly v) c.place) e); ends = tt }

  pub numbered_text_element : (t : List ℕ) → c.kind ≡ text_by_kind.number
      → ElementDecoded t c (Element.TheVariants.Text (lengths.Number c.value) c.place)
  unfolding element_of_cell
  numbered_text_element t h = record { means = rw h; ends = tt }

  pub part_element : (t : List ℕ) (p : Part.Part) → (c.kind ≡ literal_kind.number → ⊥) → (c.kind ≡ text_kind.number → ⊥)
      → (c.kind ≡ text_by_kind.number → ⊥) → part_meaning p ≡ part_of_cell parts c → ElementDecoded t c (Element.TheVariants.Part p)
  part_element t p h g k e =
      let part = element_part c t (ne_eqb c.kind literal_kind.number h) (ne_eqb c.kind text_kind.number g)
      (ne_eqb c.kind text_by_kind.number k) in
      record { means = ap Program.part e ∙ sym part; ends = tt }

  -- an element of a pattern
  pub free_pattern : (t : List ℕ) → c.kind ≡ free_kind.number → PatternRead t c (Free c.place)
  unfolding pattern_of_cell
  free_pattern t h = record { means = rw h; ends = tt }

  pub fixed_pattern : (t : List ℕ) (z : Int) → c.kind ≡ fixed_kind.number → z.value ≡ unbiased c.value
      → PatternRead t c (Fixed c.place (lengths.Constant z))
  unfolding pattern_of_cell
  fixed_pattern t z h e = record { means = rw h (ap (λ v. Program.fixed_filler c.place (Program.constantly v)) e); ends = tt }

  pub numbered_fixed_pattern : (t : List ℕ) → c.kind ≡ fixed_by_kind.number → PatternRead t c (Fixed c.place (lengths.Number c.value))
  unfolding pattern_of_cell
  numbered_fixed_pattern t h = record { means = rw h; ends = tt }

  pub value_pattern : (t : List ℕ) (x : Element.Element) → (c.kind ≡ free_kind.number → ⊥) → (c.kind ≡ fixed_kind.number → ⊥)
      → (c.kind ≡ fixed_by_kind.number → ⊥) → ElementDecoded t c x → PatternRead t c (Value x)
  value_pattern t x h g k e =
      let value = pattern_value c t (ne_eqb c.kind free_kind.number h) (ne_eqb c.kind fixed_kind.number g)
      (ne_eqb c.kind fixed_by_kind.number k) in
      record { means = ap Program.value e.means ∙ sym value; ends = e.ends }

  -- an item of a kind of operators
  pub operator_item : operator_number Program.plus ≤ c.kind → c.kind ≤ operator_number Program.over
      → Program.operator (operator_of_kind c.kind) ≡ item_of_cell c
  unfolding item_of_cell operator_of_kind read_cell item_kinds payload_in operator_number
  operator_item low high =
      let is : Program.Item → Type 0 = λ x. Program.operator (operator_of_kind c.kind) ≡ x in
      cond_cases is (eqb c.kind 16) (λ h. rw h)
      (λ h.
      cond_cases is (eqb c.kind 17) (λ g. rw (h, g))
      (λ g.
      cond_cases is (eqb c.kind 18) (λ k. rw (h, g, k))
      (λ k.
      let last : c.kind ≡ 19 = omega (arith, eqb-false c.kind 16 h, eqb-false c.kind 17 g, eqb-false c.kind 18 k) in
      rw (h, g, k, eq-eqb c.kind 19 last))))

  -- an item that is none of an operator or a sign
  pub operand_item : (a : Operand.Operand) → (c.kind ≡ operator_number Program.plus → ⊥) → (c.kind ≡ operator_number Program.minus → ⊥)
      → (c.kind ≡ operator_number Program.times → ⊥) → (c.kind ≡ operator_number Program.over → ⊥)
      → (c.kind ≡ sign_number Program.positive → ⊥) → (c.kind ≡ sign_number Program.negative → ⊥) → operand_meaning a ≡ operand_of_cell c
      → item_meaning (items.Operand a) ≡ item_of_cell c
  operand_item a h g k l m n e =
      ap Program.operand e
      ∙ sym (item_operand c (ne_eqb c.kind (operator_number Program.plus) h) (ne_eqb c.kind (operator_number Program.minus) g)
      (ne_eqb c.kind (operator_number Program.times) k) (ne_eqb c.kind (operator_number Program.over) l)
      (ne_eqb c.kind (sign_number Program.positive) m) (ne_eqb c.kind (sign_number Program.negative) n))
