-- `evaluator::compares` meets its contract. Either operand may stop the run, the left one first; their notes are few.
use mathlib.Core.Bool.{Bool}
use mathlib.Core.Path.{sym, ap, ◌∙◌}
use Prim.Native.Nat.{◌+◌}
use native.Mathlib.Omega.{arith}
use Rattle.std.proofs.lemmas.Result.{err_from_is_err_and}
use Rattle.base.specs.Current.{current}
use Rattle.numbers.specs.Laws.{number_is, number_stops}
use Rattle.numbers.specs.Numbers.{comparison_meaning}
use Rattle.machine.specs.Expressions.{operand_in, compared, test_in}
use Rattle.decoder.specs.Meaning.{operand_meaning}
use Rattle.values.specs.Result.{done}
use Rattle.evaluator.specs.Meaning.{memory_meaning}
use Rattle.evaluator.proofs.Working.{operand_notes, both-done, second_stops, first_stops}
use Rattle.evaluator.proofs.compares.Goals as goal

pub overflow_add-result : goal.overflow_add-result
overflow_add-result c =
    let m = memory_meaning c.args.memory in
    omega (
      arith,
      operand_notes m (operand_meaning c.args.x.left) c.operand_value.ensures c.in_ok-left.was,
      operand_notes m (operand_meaning c.args.x.right) c.operand_value-2.ensures c.in_ok-right.was,
    )

pub returns : goal.returns
unfolding test_in
returns c =
    let left = number_is c.operand_value.ensures c.in_ok-left.was in
    let right = number_is c.operand_value-2.ensures c.in_ok-right.was in
    ap (λ (t : Bool). done t (c.in_ok-left.left.notes + c.in_ok-right.right.notes)) c.compare.ensures
    ∙ sym (both-done (compared (comparison_meaning c.args.x.sign)) left right)

pub returns-in_err-right : goal.returns-in_err-right
unfolding test_in
returns-in_err-right c =
    let left = number_is c.operand_value.ensures c.in_ok-left.was in
    let right = number_stops c.operand_value-2.ensures c.in_err-right.was in
    let p = err_from_is_err_and c.from_residual-in_err-right.result c.from_residual-in_err-right.ensures.1 in
    rw (p.1, p.2) (sym (second_stops (compared (comparison_meaning c.args.x.sign)) left right))

pub returns-in_err-left : goal.returns-in_err-left
unfolding test_in
returns-in_err-left c =
    let m = memory_meaning c.args.memory in
    let left = number_stops c.operand_value.ensures c.in_err-left.was in
    let p = err_from_is_err_and c.from_residual.result c.from_residual.ensures.1 in
    rw (p.1, p.2)
    (sym (first_stops (compared (comparison_meaning c.args.x.sign)) (operand_in current m (operand_meaning c.args.x.right)) left))
