-- What the rules' tests tell of the decoded enums. Assumes nothing.
use Rattle.std.specs.Prelude.{Bool, true, not, List, [], ◌∷◌, ◌≡◌, refl, ℕ, ◌≤◌, ◌<◌, ltb, eqb}
use Rattle.std.proofs.Math.Bool.{and-eq-true_iff}
use Rattle.std.proofs.Common.{sym, ◌∙◌, arith, ltb-true}
use Rattle.std.proofs.lemmas.Bool.{eqb-false, not-true}
use Rattle.base.specs.Choice.{both_true, both_pass}
use Rattle.base.specs.Current.{current}
use Rattle.base.specs.Limits as Limits
use Rattle.base.specs.Lists.{all}
use Rattle.values.specs.Numbers.{is_negative, is_in_range}
use Rattle.syntax.specs.Program as Program
use Rattle.encoding.specs.RuleLaws as RuleLaws
use Rattle.encoding.specs.Rules as Rules
use Rattle.encoding.specs.Rules.{place_of, roles_hold, is_among, named_by}
use Rattle.numbers.specs.Laws.{in_range_lem}
use Rattle.numbers.specs.Numbers.{IntInRange}
use Rattle.numbers.specs.declared.Int.{Int}
use Rattle.decoder.specs.Holds.{LengthHolds, PartHolds, OperandHolds, ItemHolds, searched_place, FillerHolds, BranchHolds, IfHolds}
use Rattle.encoding.specs.Meaning.{branch_meaning}
use Rattle.decoder.specs.Meaning.{length_meaning, part_meaning, operand_meaning, item_meaning, if_meaning}
use Rattle.decoder.specs.declared.Length.{Length}
use Rattle.decoder.specs.declared.Length.TheVariants as lengths
use Rattle.decoder.specs.declared.Part.{Part}
use Rattle.decoder.specs.declared.Part.TheVariants.{Whole, First}
use Rattle.decoder.specs.declared.Operand.{Operand}
use Rattle.decoder.specs.declared.Operand.TheVariants as operands
use Rattle.decoder.specs.declared.Item.{Item}
use Rattle.decoder.specs.declared.Item.TheVariants as items
use Rattle.encoding.specs.declared.cells.Branch.{Branch}
use Rattle.decoder.specs.declared.If.{If}

-- a constant that passes the test is in range
pub constant_holds : (z : Int) → is_in_range current z.value ≡ true → IntInRange z
constant_holds z = in_range_lem z.value

-- the string that is searched
pub place_is : (p : Part) → place_of (part_meaning p) ≡ searched_place p
unfolding place_of
place_is (Whole s) = refl
place_is (First s n) = refl

-- an element of a pattern that is no filler by the name of the string that is searched
unfoldable pub is_other : (reference : ℕ) → Program.PatternElement → Bool
is_other r (Program.value x) = true
is_other r (Program.free_filler s) = not (eqb s r)
is_other r (Program.fixed_filler s n) = not (eqb s r)

-- where its roles hold, all elements of a pattern are such
pub roles_others : (r : ℕ) (fillers : List ℕ) (xs : List Program.PatternElement) → roles_hold r fillers xs ≡ true → all (is_other r) xs ≡ true
unfolding roles_hold is_other all
roles_others r fs [] h = refl
roles_others r fs (Program.value x ∷ xs) h = roles_others r fs xs (both_true (not (is_among fs (named_by x))) (roles_hold r fs xs) h).1
roles_others r fs (Program.free_filler s ∷ xs) h =
    let both = both_true (not (eqb s r)) (roles_hold r (s ∷ fs) xs) h in
    both_pass both.0 (roles_others r (s ∷ fs) xs both.1)
roles_others r fs (Program.fixed_filler s n ∷ xs) h =
    let both = both_true (not (eqb s r)) (roles_hold r (s ∷ fs) xs) h in
    both_pass both.0 (roles_others r (s ∷ fs) xs both.1)

-- a program of so many strings, numbers and steps
module _ (strings numbers steps : ℕ) (short : strings ≤ Limits.strings) (few : numbers ≤ Limits.numbers) where
  pub below-strings : (s : ℕ) → ltb s strings ≡ true → s < Limits.strings
  below-strings s h = omega (arith, ltb-true s strings h)

  below-numbers : (i : ℕ) → ltb i numbers ≡ true → i < Limits.numbers
  below-numbers i h = omega (arith, ltb-true i numbers h)

  pub length-holds : (n : Length) → RuleLaws.length_holds current strings numbers steps (length_meaning n) ≡ true → LengthHolds n
  unfolding RuleLaws.length_holds
  length-holds (lengths.Constant z) h =
      constant_holds z ((and-eq-true_iff (is_in_range current z.value) (not (is_negative z.value))).0 h).0
  length-holds (lengths.Number i) h = below-numbers i h

  pub signed-length_holds : (n : Length) → RuleLaws.signed_length_holds current strings numbers steps (length_meaning n) ≡ true
      → LengthHolds n
  unfolding RuleLaws.signed_length_holds
  signed-length_holds (lengths.Constant z) h = constant_holds z h
  signed-length_holds (lengths.Number i) h = below-numbers i h

  pub part_holds_lem : (p : Part) → Rules.part_holds current strings numbers steps (part_meaning p) ≡ true → PartHolds p
  unfolding Rules.part_holds
  part_holds_lem (Whole s) h = below-strings s h
  part_holds_lem (First s n) h =
      let size = RuleLaws.length_holds current strings numbers steps (length_meaning n) in
      let both = both_true (ltb s strings) size (sym (RuleLaws.first_holds current strings numbers steps s (length_meaning n)) ∙ h) in
      (below-strings s both.0, length-holds n both.1)

  pub operand_holds_lem : (a : Operand) → Rules.operand_holds current strings numbers steps (operand_meaning a) ≡ true → OperandHolds a
  unfolding Rules.operand_holds
  operand_holds_lem (operands.Constant z) h = constant_holds z h
  operand_holds_lem (operands.Number i) h = below-numbers i h
  operand_holds_lem (operands.LengthOf s) h = below-strings s h
  operand_holds_lem (operands.NumberOf p) h = part_holds_lem p (sym (RuleLaws.number_of_holds current strings numbers steps (part_meaning p)) ∙ h)

  pub item_holds_lem : (x : Item) → Rules.item_holds current strings numbers steps (item_meaning x) ≡ true → ItemHolds x
  unfolding Rules.item_holds Rules.operand_holds
  item_holds_lem (items.Operand a) h = operand_holds_lem a h
  item_holds_lem (items.Operator o) h = tt
  item_holds_lem (items.Sign s) h = tt

  pub text_holds : (n : Length) (m : ℕ)
      → Rules.element_holds current strings numbers steps (Program.string_call (length_meaning n) m) ≡ true → LengthHolds n × (m < Limits.numbers)
  text_holds n m h =
      let size = RuleLaws.signed_length_holds current strings numbers steps (length_meaning n) in
      let both = both_true (ltb m numbers) size (sym (RuleLaws.text_holds current strings numbers steps (length_meaning n) m) ∙ h) in
      (signed-length_holds n both.1, below-numbers m both.0)

  filler-holds : (reference s : ℕ) → ltb s strings ≡ true → not (eqb s reference) ≡ true → FillerHolds reference s
  filler-holds r s h g = record { place = below-strings s h; other = eqb-false s r (not-true (eqb s r) g) }

  pub free_holds : (reference s : ℕ) → Rules.pattern_holds current strings numbers steps (Program.free_filler s) ≡ true
      → is_other reference (Program.free_filler s) ≡ true → FillerHolds reference s
  unfolding Rules.pattern_holds is_other
  free_holds r s h g = filler-holds r s h g

  pub fixed_holds : (reference s : ℕ) (n : Length)
      → Rules.pattern_holds current strings numbers steps (Program.fixed_filler s (length_meaning n)) ≡ true
      → is_other reference (Program.fixed_filler s (length_meaning n)) ≡ true → FillerHolds reference s × LengthHolds n
  unfolding is_other
  fixed_holds r s n h g =
      let size = RuleLaws.length_holds current strings numbers steps (length_meaning n) in
      let both = both_true (ltb s strings) size (sym (RuleLaws.fixed_holds current strings numbers steps s (length_meaning n)) ∙ h) in
      (filler-holds r s both.0 g, length-holds n both.1)

  pub branch-holds : (b : Branch) → Rules.branch_holds current strings numbers steps (branch_meaning b) ≡ true → BranchHolds steps b
  branch-holds b h =
      let both = RuleLaws.branch_inside current strings numbers steps (branch_meaning b) h in
      record { success = both.0; failure = both.1 }

  pub if_holds : (x : If) → RuleLaws.test_holds current strings numbers steps (if_meaning x) ≡ true → IfHolds x
  unfolding RuleLaws.test_holds
  if_holds x h =
      let left = Rules.operand_holds current strings numbers steps (operand_meaning x.left) in
      let right = Rules.operand_holds current strings numbers steps (operand_meaning x.right) in
      let both = (and-eq-true_iff left right).0 h in
      record { left = operand_holds_lem x.left both.0; right = operand_holds_lem x.right both.1 }
