-- What a kind asks of a cell and of a row, in the words of the description of kinds, and the code's rules in these words. Assumes nothing.
use Rattle.std.specs.Prelude.{Bool, true, false, cond, not, ◌&&◌, List, [], ◌∷◌, ◌≡◌, refl, ℕ, eqb, Option, Some, None}
use Rattle.std.specs.Option.{option_or}
use Rattle.std.proofs.Common.{sym, ◌∙◌, ap, eqb-true}
use Rattle.std.proofs.lemmas.Bool.{false≢true}
use Rattle.std.proofs.Math.Option.{none, some}
use borrow.Author.Tests.{ne_eqb, not-true}
use Rattle.base.specs.Choice.{both_true}
use Rattle.base.specs.Lists.{all}
use Rattle.encoding.specs.KindLaws.{kind_in, row_in}
use Rattle.encoding.specs.Kinds.{Counting, no_place, of_string, of_number, Valuing, no_value, natural, signed, placed, spelt, CellKind}
use Rattle.encoding.specs.Kinds.{item_kinds, pattern_kinds, nothing_number, range_number, RowKind, row_kinds}
use Rattle.encoding.specs.Kinds.{Flagging, no_flag, of_comparison, of_direction, Stepping, no_step, one_step, both_steps}
use Rattle.encoding.specs.Kinds.{Lefting, no_left, number_left, string_left, part_left, operand_left}
use Rattle.encoding.specs.Kinds.{Righting, no_right, operand_right, items_right, elements_right, pattern_right, replacing_right}
use Rattle.verifier.specs.declared.kinds.CellRule.{CellRule}
use Rattle.verifier.specs.declared.kinds.PlaceRule.{PlaceRule}
use Rattle.verifier.specs.declared.kinds.PlaceRule.TheVariants.{NoPlace, OfString, OfNumber}
use Rattle.verifier.specs.declared.kinds.ValueRule.{ValueRule}
use Rattle.verifier.specs.declared.kinds.ValueRule.TheVariants.{NoValue, Natural, Signed, Placed, Spelt}
use Rattle.verifier.specs.declared.steps.RowRule.{RowRule}
use Rattle.verifier.specs.declared.steps.FlagRule.{FlagRule}
use Rattle.verifier.specs.declared.steps.FlagRule.TheVariants.{NoFlag, OfComparison, OfDirection}
use Rattle.verifier.specs.declared.steps.StepsRule.{StepsRule}
use Rattle.verifier.specs.declared.steps.StepsRule.TheVariants.{NoStep, OneStep, BothSteps}
use Rattle.verifier.specs.declared.steps.LeftRule.{LeftRule}
use Rattle.verifier.specs.declared.steps.LeftRule.TheVariants.{NoLeft, NumberLeft, StringLeft, PartLeft, OperandLeft}
use Rattle.verifier.specs.declared.steps.RightRule.{RightRule}
use Rattle.verifier.specs.declared.steps.RightRule.TheVariants.{NoRight, OperandRight, ItemsRight, ElementsRight, PatternRight, ReplacingRight}

-- of a cell: what the place counts, and what the value is
pub record CellAsks : Type 0 where
  pub counting : Counting
  pub valuing : Valuing

abbrev pub cell_asks : Counting → Valuing → CellAsks
cell_asks c v = record { counting = c; valuing = v }

unfoldable pub asked_among : {A : Type 0} → List (CellKind A) → ℕ → Option CellAsks
asked_among ks k = elim (kind_in ks k) [ none ↦ None | some x ↦ Some (cell_asks x.counting x.valuing) ]

-- nothing is like a kind without place and value, a range like a literal
unfoldable pub cell_asked : ℕ → Option CellAsks
cell_asked k =
    option_or (asked_among item_kinds k)
    (option_or (asked_among pattern_kinds k)
    (cond (eqb k nothing_number) (Some (cell_asks no_place no_value)) (cond (eqb k range_number) (Some (cell_asks no_place spelt)) None)))

unfoldable pub place_meaning : PlaceRule → Counting
place_meaning NoPlace = no_place
place_meaning OfString = of_string
place_meaning OfNumber = of_number

unfoldable pub value_meaning : ValueRule → Valuing
value_meaning NoValue = no_value
value_meaning Natural = natural
value_meaning Signed = signed
value_meaning Placed = placed
value_meaning Spelt = spelt

unfoldable pub cell_rule_asks : CellRule → CellAsks
cell_rule_asks r = cell_asks (place_meaning r.place) (value_meaning r.value)

-- of a row: what each field holds
pub record RowAsks : Type 0 where
  pub flagging : Flagging
  pub stepping : Stepping
  pub lefting : Lefting
  pub righting : Righting

abbrev pub row_asks : Flagging → Stepping → Lefting → Righting → RowAsks
row_asks f s l r = record { flagging = f; stepping = s; lefting = l; righting = r }

unfoldable pub row_asked : ℕ → Option RowAsks
row_asked k = elim (row_in row_kinds k) [ none ↦ None | some x ↦ Some (row_asks x.flagging x.stepping x.lefting x.righting) ]

unfoldable pub flag_meaning : FlagRule → Flagging
flag_meaning NoFlag = no_flag
flag_meaning OfComparison = of_comparison
flag_meaning OfDirection = of_direction

unfoldable pub steps_meaning : StepsRule → Stepping
steps_meaning NoStep = no_step
steps_meaning OneStep = one_step
steps_meaning BothSteps = both_steps

unfoldable pub left_meaning : LeftRule → Lefting
left_meaning NoLeft = no_left
left_meaning NumberLeft = number_left
left_meaning StringLeft = string_left
left_meaning PartLeft = part_left
left_meaning OperandLeft = operand_left

unfoldable pub right_meaning : RightRule → Righting
right_meaning NoRight = no_right
right_meaning OperandRight = operand_right
right_meaning ItemsRight = items_right
right_meaning ElementsRight = elements_right
right_meaning PatternRight = pattern_right
right_meaning ReplacingRight = replacing_right

unfoldable pub row_rule_asks : RowRule → RowAsks
row_rule_asks r = row_asks (flag_meaning r.flag) (steps_meaning r.steps) (left_meaning r.left) (right_meaning r.right)

-- a number that is none of the kinds'
none_among : {A : Type 0} (ks : List (CellKind A)) (k : ℕ) → all (λ x. not (eqb k x.number)) ks ≡ true → asked_among ks k ≡ None
unfolding asked_among kind_in all
none_among [] k h = refl
none_among (x ∷ ks) k h =
    let both = both_true (not (eqb k x.number)) (all (λ y. not (eqb k y.number)) ks) h in
    ap (λ (b : Bool). elim (cond b (some x) (kind_in ks k)) [ none ↦ None | some y ↦ Some (cell_asks y.counting y.valuing) ])
    (not-true (eqb k x.number) both.0)
    ∙ none_among ks k both.1

pub no_cell_kind : (k : ℕ) → all (λ x. not (eqb k x.number)) item_kinds ≡ true → all (λ x. not (eqb k x.number)) pattern_kinds ≡ true
    → (k ≡ nothing_number → ⊥) → (k ≡ range_number → ⊥) → None ≡ cell_asked k
unfolding cell_asked
no_cell_kind k items patterns nothing range =
    let rest = cond (eqb k nothing_number) (Some (cell_asks no_place no_value)) (cond (eqb k range_number) (Some (cell_asks no_place spelt)) None) in
    let last : rest ≡ None = rw (ne_eqb k nothing_number nothing, ne_eqb k range_number range) in
    sym
    (ap (λ (o : Option CellAsks). option_or o (option_or (asked_among pattern_kinds k) rest)) (none_among item_kinds k items)
    ∙ ap (λ (o : Option CellAsks). option_or o rest) (none_among pattern_kinds k patterns)
    ∙ last)

none_in : (ks : List RowKind) (k : ℕ) → all (λ x. not (eqb k x.number)) ks ≡ true → row_in ks k ≡ none
unfolding row_in all
none_in [] k h = refl
none_in (x ∷ ks) k h =
    let both = both_true (not (eqb k x.number)) (all (λ y. not (eqb k y.number)) ks) h in
    ap (λ (b : Bool). cond b (some x) (row_in ks k)) (not-true (eqb k x.number) both.0) ∙ none_in ks k both.1

pub no_row_kind : (k : ℕ) → all (λ x. not (eqb k x.number)) row_kinds ≡ true → None ≡ row_asked k
unfolding row_asked
no_row_kind k h =
    sym
    (ap (λ o. elim o [ none ↦ None | some x ↦ Some (row_asks x.flagging x.stepping x.lefting x.righting) ])
    (none_in row_kinds k h))

-- a test for the same, by numbers
unfoldable pub counting_number : Counting → ℕ
counting_number no_place = 0
counting_number of_string = 1
counting_number of_number = 2

unfoldable pub valuing_number : Valuing → ℕ
valuing_number no_value = 0
valuing_number natural = 1
valuing_number signed = 2
valuing_number placed = 3
valuing_number spelt = 4

abbrev counting_of : ℕ → Counting
counting_of n = cond (eqb n 0) no_place (cond (eqb n 1) of_string of_number)

counting_back : (c : Counting) → counting_of (counting_number c) ≡ c
unfolding counting_number
counting_back no_place = refl
counting_back of_string = refl
counting_back of_number = refl

abbrev valuing_of : ℕ → Valuing
valuing_of n = cond (eqb n 0) no_value (cond (eqb n 1) natural (cond (eqb n 2) signed (cond (eqb n 3) placed spelt)))

valuing_back : (v : Valuing) → valuing_of (valuing_number v) ≡ v
unfolding valuing_number
valuing_back no_value = refl
valuing_back natural = refl
valuing_back signed = refl
valuing_back placed = refl
valuing_back spelt = refl

unfoldable pub same_asks : Option CellAsks → Option CellAsks → Bool
same_asks None None = true
same_asks None (Some b) = false
same_asks (Some a) None = false
same_asks (Some a) (Some b) =
    eqb (counting_number a.counting) (counting_number b.counting) && eqb (valuing_number a.valuing) (valuing_number b.valuing)

pub same_asks_true : (a b : Option CellAsks) → same_asks a b ≡ true → a ≡ b
unfolding same_asks
same_asks_true None None h = refl
same_asks_true None (Some b) h = absurd (false≢true h)
same_asks_true (Some a) None h = absurd (false≢true h)
same_asks_true (Some a) (Some b) h =
    let both =
    both_true (eqb (counting_number a.counting) (counting_number b.counting)) (eqb (valuing_number a.valuing) (valuing_number b.valuing)) h in
    let c = sym (counting_back a.counting) ∙ ap counting_of (eqb-true _ _ both.0) ∙ counting_back b.counting in
    let v = sym (valuing_back a.valuing) ∙ ap valuing_of (eqb-true _ _ both.1) ∙ valuing_back b.valuing in
    λ i. Some (record { counting = c i; valuing = v i })
