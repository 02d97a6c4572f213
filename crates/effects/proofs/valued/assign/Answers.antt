-- `valued::assign` meets its contract: the number set is the expression's value.
use Rattle.std.proofs.Common.{refl}
use Rattle.std.proofs.lemmas.Result.{err_from_is_err_and}
use Rattle.numbers.specs.Laws.{number_is, number_range, number_stops}
use Rattle.effects.proofs.valued.assign.Goals as goal

pub set_number-requires-clause-int_in_range : goal.set_number-requires-clause-int_in_range
set_number-requires-clause-int_in_range c = number_range c.numeric_value.ensures c.in_ok-number.was

pub returns : goal.returns
returns c =
    record {
      value = c.in_ok-number.number.value.value;
      work = number_is c.numeric_value.ensures c.in_ok-number.was;
      left_is = c.set_number.ensures;
    }

pub returns-in_err-number : goal.returns-in_err-number
returns-in_err-number c =
    let p = err_from_is_err_and c.from_residual.result c.from_residual.ensures.1 in
    rw (p.1, p.2) (refl, number_stops c.numeric_value.ensures c.in_err-number.was)
