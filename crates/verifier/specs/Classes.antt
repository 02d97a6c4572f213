-- The numbers of each class are told by its kinds, and lie in its range. Computed. Assumes nothing.
use Rattle.std.specs.Prelude.{true, ◌&&◌, ◌≡◌, refl, leb, Some}
use Rattle.base.specs.Lists.{all}
use Rattle.encoding.specs.KindLaws.{kind_in}
use Rattle.encoding.specs.Kinds.{no_place, of_string, of_number, no_value, spelt}
use Rattle.encoding.specs.Kinds.{part_kinds, operand_kinds, item_kinds, element_kinds, pattern_kinds, parts, operator_number, sign_number}
use Rattle.verifier.specs.CellTests.{told_by_kinds}
use Rattle.verifier.specs.Asked.{cell_asks, asked_among, cell_asked, counting_number, valuing_number, same_asks}

-- all that these facts compute
unfoldable pub computed : Unit {0}
unfolding told_by_kinds asked_among cell_asked counting_number valuing_number same_asks kind_in all part_kinds operand_kinds item_kinds element_kinds
    pattern_kinds operator_number sign_number
computed = tt

pub parts_told : told_by_kinds (part_kinds parts) 64 16 ≡ true
unfolding computed
parts_told = refl

pub operands_told : told_by_kinds operand_kinds 32 32 ≡ true
unfolding computed
operands_told = refl

pub items_told : told_by_kinds item_kinds 16 48 ≡ true
unfolding computed
items_told = refl

pub elements_told : told_by_kinds element_kinds 64 32 ≡ true
unfolding computed
elements_told = refl

pub patterns_told : told_by_kinds pattern_kinds 64 48 ≡ true
unfolding computed
patterns_told = refl

pub parts_within : all (λ k. leb 64 k.number && leb k.number 79) (part_kinds parts) ≡ true
unfolding computed
parts_within = refl

pub operands_within : all (λ k. leb 32 k.number && leb k.number 63) operand_kinds ≡ true
unfolding computed
operands_within = refl

pub items_within : all (λ k. leb 16 k.number && leb k.number 63) item_kinds ≡ true
unfolding computed
items_within = refl

pub elements_within : all (λ k. leb 64 k.number && leb k.number 95) element_kinds ≡ true
unfolding computed
elements_within = refl

pub patterns_within : all (λ k. leb 64 k.number && leb k.number 111) pattern_kinds ≡ true
unfolding computed
patterns_within = refl

-- what a cell of one kind alone has
pub nothing_asks : cell_asked 0 ≡ Some (cell_asks no_place no_value)
unfolding computed
nothing_asks = refl

pub number_asks : cell_asked 33 ≡ Some (cell_asks of_number no_value)
unfolding computed
number_asks = refl

pub string_asks : cell_asked 64 ≡ Some (cell_asks of_string no_value)
unfolding computed
string_asks = refl

pub range_asks : cell_asked 112 ≡ Some (cell_asks no_place spelt)
unfolding computed
range_asks = refl
