-- `evaluator::length_value` meets its contract. Each case is one of the definition.
use mathlib.Core.Path.{refl, subst}
use Rattle.machine.specs.Expressions.{length_in}
use Rattle.decoder.specs.Holds.{LengthHolds}
use Rattle.evaluator.proofs.length_value.Goals as goal

pub returns-in-Constant : goal.returns-in-Constant
unfolding length_in
returns-in-Constant c store =
    let is = c.in-Constant.is in
    rw is (record { value = refl; range = subst LengthHolds is c.requires.length_holds })

pub returns-in-Number : goal.returns-in-Number
unfolding length_in
returns-in-Number c store = rw c.in-Number.is (c.number_at.ensures store)
