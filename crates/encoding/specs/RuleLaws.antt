-- What a statement that keeps the rules tells of its parts. Assumes nothing.
use Rattle.std.proofs.Math.Bool.{Bool, true}
use Rattle.std.specs.Prelude.{◌&&◌, ◌≡◌, ℕ, ◌<◌, leb, ltb, length}
use mathlib.Core.List.{List, []}
use Rattle.std.proofs.Math.Option.{Option, none, some}
use Rattle.std.proofs.Math.Path.{refl}
use Rattle.std.proofs.Common.{sym, ◌∙◌, ap}
use borrow.Author.Tests.{ltb-true}
use Rattle.base.specs.Choice.{both_true}
use Rattle.base.specs.Edition.{Edition}
use Rattle.base.specs.Limits as Limits
use Rattle.base.specs.Lists.{all}
use Rattle.syntax.specs.Program.{Length, constantly, numbered, Part, whole, first, number_of, string_call, fixed_filler, Item, Element, PatternElement, Direction, Test, is_null, is_numeric, compares, Branch}
use Rattle.syntax.specs.Program.{set_number, if_test, scan}
use Rattle.encoding.specs.CellLaws.{part_cell_place}
use Rattle.encoding.specs.Kinds as Kinds
use Rattle.encoding.specs.Kinds.{natural, signed, placed}
use Rattle.encoding.specs.Kinds.{Stepping, no_step, one_step, both_steps, StepsOf, Righting, no_right, operand_right, items_right, elements_right}
use Rattle.encoding.specs.Kinds.{pattern_right, replacing_right, RightOf, spell_statement}
use Rattle.encoding.specs.Rules.{part_holds, item_holds, pattern_holds, patterns_hold, row_holds, branch_holds, balanced, place_of, roles_hold}
use Rattle.encoding.specs.Rules.{value_holds, element_holds, operand_holds, left_holds, right_holds, steps_hold, left_place, statement_holds}
use Rattle.encoding.specs.Table.{part_cell, replacement_of}

-- in a program of so many strings, numbers and steps
module _ (e : Edition) (strings numbers steps : ℕ) where
  -- the parts of a scan hold
  pub record ScanParts (p : Part) (xs : List PatternElement) (r : Option (List Element)) (b : Branch) : Type 0 where
    pub part : part_holds e strings numbers steps p ≡ true
    pub few : leb (length xs) Limits.row_elements ≡ true
    pub patterns : all (pattern_holds e strings numbers steps) xs ≡ true
    pub roles : roles_hold (place_of p) [] xs ≡ true
    pub row : row_holds e strings numbers steps (replacement_of r) ≡ true
    pub branch : branch_holds e strings numbers steps b ≡ true

  pub scan-parts : (d : Direction) (p : Part) (xs : List PatternElement) (r : Option (List Element)) (b : Branch)
      → statement_holds e strings numbers steps (scan d p xs r b) ≡ true → ScanParts p xs r b
  unfolding statement_holds patterns_hold replacement_of row_holds all
  scan-parts d p xs r b h = parts r h
    where
      part : Bool
      part = part_holds e strings numbers steps p

      few : Bool
      few = leb (length xs) Limits.row_elements

      patterns : Bool
      patterns = all (pattern_holds e strings numbers steps) xs

      roles : Bool
      roles = roles_hold (part_cell Kinds.parts p).place [] xs

      branch : Bool
      branch = branch_holds e strings numbers steps b

      named : roles ≡ true → roles_hold (place_of p) [] xs ≡ true
      named h = ap (λ (i : ℕ). roles_hold i [] xs) (sym (part_cell_place Kinds.parts p)) ∙ h

      parts : (r : Option (List Element)) → statement_holds e strings numbers steps (scan d p xs r b) ≡ true → ScanParts p xs r b
      parts none g =
          let one = both_true (part && (few && (patterns && roles))) branch g in
          let two = both_true part (few && (patterns && roles)) one.0 in
          let three = both_true few (patterns && roles) two.1 in
          let four = both_true patterns roles three.1 in
          record { part = two.0; few = three.0; patterns = four.0; roles = named four.1; row = refl; branch = one.1 }
      parts (some ys) g =
          let row = row_holds e strings numbers steps ys in
          let one = both_true (part && ((few && (patterns && roles)) && row)) branch g in
          let two = both_true part ((few && (patterns && roles)) && row) one.0 in
          let three = both_true (few && (patterns && roles)) row two.1 in
          let four = both_true few (patterns && roles) three.0 in
          let five = both_true patterns roles four.1 in
          record { part = two.0; few = four.0; patterns = five.0; roles = named five.1; row = three.1; branch = one.1 }

  pub scan-holds : (d : Direction) {p : Part} {xs : List PatternElement} (r : Option (List Element)) {b : Branch} → ScanParts p xs r b
      → statement_holds e strings numbers steps (scan d p xs r b) ≡ true
  unfolding statement_holds patterns_hold replacement_of
  scan-holds d {p} none s = rw (s.part, s.few, s.patterns, part_cell_place Kinds.parts p, s.roles, s.branch)
  scan-holds d {p} (some ys) s = rw (s.part, s.few, s.patterns, part_cell_place Kinds.parts p, s.roles, s.row, s.branch)

  -- a length without a sign, and one with a sign, in what has one
  unfoldable pub length_holds : Length → Bool
  unfolding value_holds
  length_holds (constantly z) = value_holds e strings numbers steps true natural z
  length_holds (numbered i) = value_holds e strings numbers steps true placed i

  unfoldable pub signed_length_holds : Length → Bool
  unfolding value_holds
  signed_length_holds (constantly z) = value_holds e strings numbers steps true signed z
  signed_length_holds (numbered i) = value_holds e strings numbers steps true placed i

  pub first_holds : (s : ℕ) (n : Length) → part_holds e strings numbers steps (first s n) ≡ ltb s strings && length_holds n
  unfolding part_holds length_holds
  first_holds s (constantly z) = refl
  first_holds s (numbered i) = refl

  pub number_of_holds : (p : Part) → operand_holds e strings numbers steps (number_of p) ≡ part_holds e strings numbers steps p
  unfolding operand_holds part_holds
  number_of_holds (whole s) = refl
  number_of_holds (first s (constantly z)) = refl
  number_of_holds (first s (numbered i)) = refl

  pub text_holds : (n : Length) (m : ℕ) → element_holds e strings numbers steps (string_call n m) ≡ ltb m numbers && signed_length_holds n
  unfolding element_holds signed_length_holds
  text_holds (constantly z) m = refl
  text_holds (numbered i) m = refl

  pub fixed_holds : (s : ℕ) (n : Length) → pattern_holds e strings numbers steps (fixed_filler s n) ≡ ltb s strings && length_holds n
  unfolding pattern_holds length_holds
  fixed_holds s (constantly z) = refl
  fixed_holds s (numbered i) = refl

  -- so do those of a number set
  pub number_parts : (i : ℕ) (x : List Item) → statement_holds e strings numbers steps (set_number i x) ≡ true
      → (ltb i numbers ≡ true) × (balanced 0 x ≡ true) × (all (item_holds e strings numbers steps) x ≡ true)
  unfolding statement_holds
  number_parts i x h =
      let one = both_true (ltb i numbers) (balanced 0 x && all (item_holds e strings numbers steps) x) h in
      let two = both_true (balanced 0 x) (all (item_holds e strings numbers steps) x) one.1 in
      (one.0, two.0, two.1)

  -- the cells of an IF hold, and its branch field
  unfoldable pub test_holds : Test → Bool
  unfolding left_holds right_holds left_place spell_statement
  test_holds t =
      let x = spell_statement (if_test t (record { success = 0; failure = 0 })) in
      right_holds e strings numbers steps (left_holds e strings numbers steps x.kind.lefting x.left) 0 x.kind.righting x.right

  pub test_parts : (t : Test) (b : Branch) → statement_holds e strings numbers steps (if_test t b) ≡ true
      → (test_holds t ≡ true) × (branch_holds e strings numbers steps b ≡ true)
  unfolding statement_holds test_holds
  test_parts (is_null s) b h = both_true (ltb s strings) (branch_holds e strings numbers steps b) h
  test_parts (is_numeric p) b h = both_true (part_holds e strings numbers steps p) (branch_holds e strings numbers steps b) h
  test_parts (compares x c y) b h =
      both_true (operand_holds e strings numbers steps x && operand_holds e strings numbers steps y) (branch_holds e strings numbers steps b) h

  pub test-holds : (t : Test) (b : Branch) → test_holds t ≡ true → branch_holds e strings numbers steps b ≡ true
      → statement_holds e strings numbers steps (if_test t b) ≡ true
  unfolding statement_holds test_holds
  test-holds (is_null s) b h g = rw (h, g)
  test-holds (is_numeric p) b h g = rw (h, g)
  test-holds (compares x c y) b h g = rw (h, g)

  -- and both steps of a branch field are steps
  pub branch_inside : (b : Branch) → branch_holds e strings numbers steps b ≡ true → (b.success < steps) × (b.failure < steps)
  unfolding branch_holds
  branch_inside b h =
      let both = both_true (ltb b.success steps) (ltb b.failure steps) h in
      (ltb-true b.success steps both.0, ltb-true b.failure steps both.1)

  -- the elements of a pattern that holds hold
  pub patterns_all : (reference : ℕ) (xs : List PatternElement) → patterns_hold e strings numbers steps reference xs ≡ true
      → all (pattern_holds e strings numbers steps) xs ≡ true
  unfolding patterns_hold
  patterns_all reference xs h =
      let own = all (pattern_holds e strings numbers steps) xs in
      (both_true own (roles_hold reference [] xs) (both_true (leb (length xs) 20) (own && roles_hold reference [] xs) h).1).0

  -- where the steps hold, so does what comes before them, and where the right cell holds
  pub steps_front : (b : Bool) (s : Stepping) (w : StepsOf s) → steps_hold e strings numbers steps b s w ≡ true → b ≡ true
  unfolding steps_hold
  steps_front b no_step w h = h
  steps_front b one_step w h = (both_true b (ltb w steps) h).0
  steps_front b both_steps w h = (both_true b (branch_holds e strings numbers steps w) h).0

  pub right_front : (b : Bool) (reference : ℕ) (r : Righting) (w : RightOf r) → right_holds e strings numbers steps b reference r w ≡ true → b ≡ true
  unfolding right_holds
  right_front b reference no_right w h = h
  right_front b reference operand_right w h = (both_true b (operand_holds e strings numbers steps w) h).0
  right_front b reference items_right w h = (both_true b (balanced 0 w && all (item_holds e strings numbers steps) w) h).0
  right_front b reference elements_right w h = (both_true b (row_holds e strings numbers steps w) h).0
  right_front b reference pattern_right w h = (both_true b (patterns_hold e strings numbers steps reference w) h).0
  right_front b reference replacing_right w h =
      (both_true b (patterns_hold e strings numbers steps reference w.0 && row_holds e strings numbers steps w.1) h).0
