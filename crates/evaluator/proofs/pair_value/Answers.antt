-- `evaluator::pair_value` meets its contract. Either operand may stop the run, the first one first, and then the operator.
use mathlib.Core.Path.{◌≡◌, sym, ap, subst, ◌∙◌}
use Prim.Native.Nat.{◌+◌, ◌≤◌}
use native.Mathlib.Omega.{arith}
use lib.IntN.{ℤ}
use Rattle.std.proofs.lemmas.Result.{err_from_is_err_and}
use Rattle.base.specs.Current.{current}
use Rattle.numbers.specs.Laws.{number_is, number_stops}
use Rattle.numbers.specs.Numbers.{NumberAnswers}
use Rattle.syntax.specs.Program.{Operator}
use Rattle.machine.specs.Expressions.{operand_in, numeric_in, operation}
use Rattle.decoder.specs.Meaning.{operand_meaning, operator_meaning, items_meaning}
use Rattle.values.specs.Result.{Result, with_notes}
use Rattle.evaluator.specs.Meaning.{memory_meaning}
use Rattle.evaluator.specs.Notes.{few_done, few_operation}
use Rattle.evaluator.proofs.Pairing.{pair_items, first_holds, second_holds, pair_works, pair_first_stops, pair_second_stops}
use Rattle.evaluator.proofs.Working.{operand_notes, number_noted, number_stopped}
use Rattle.evaluator.proofs.pair_value.Goals.{After-operation}
use Rattle.evaluator.proofs.pair_value.Goals as goal

pub operand_value-requires : goal.operand_value-requires
operand_value-requires c =
    first_holds c.requires.items_hold.1 c.requires.pair_at c.operand_at.result c.operand_at.ensures

pub operand_value-requires-2 : goal.operand_value-requires-2
operand_value-requires-2 c =
    second_holds c.requires.items_hold.1 c.requires.pair_at c.operand_at-2.result c.operand_at-2.ensures

module _ (c : After-operation) where
  -- the notes of both operands
  notes : c.in_ok-a.a.notes + c.in_ok-b.b.notes ≤ 4
  notes =
      let m = memory_meaning c.args.memory in
      omega (
        arith,
        operand_notes m (operand_meaning c.operand_at.result) c.operand_value.ensures c.in_ok-a.was,
        operand_notes m (operand_meaning c.operand_at-2.result) c.operand_value-2.ensures c.in_ok-b.was,
      )

  -- the whole is what the operator makes of them, with these notes before
  abbrev made : Result ℤ
  made = operation current (operator_meaning c.operator_at.result) c.in_ok-a.a.value.value c.in_ok-b.b.value.value

  works : with_notes (c.in_ok-a.a.notes + c.in_ok-b.b.notes) made
      ≡ numeric_in current (memory_meaning c.args.memory) (items_meaning c.args.table.now c.args.s)
  works =
      let m = memory_meaning c.args.memory in
      let items = pair_items c.requires.items_hold.1 c.requires.pair_at in
      let left = ap (operand_in current m) (sym c.operand_at.ensures) ∙ number_is c.operand_value.ensures c.in_ok-a.was in
      let right = ap (operand_in current m) (sym c.operand_at-2.ensures) ∙ number_is c.operand_value-2.ensures c.in_ok-b.was in
      ap (λ (o : Operator). with_notes (c.in_ok-a.a.notes + c.in_ok-b.b.notes) (operation current o c.in_ok-a.a.value.value c.in_ok-b.b.value.value)) c.operator_at.ensures
      ∙ sym (pair_works m items left right)

pub overflow_add-a : goal.overflow_add-a
overflow_add-a c = omega (arith, notes (goal.at.overflow_add-a c).After-operation)

pub behind-requires : goal.behind-requires
behind-requires c =
    let o = operator_meaning c.operator_at.result in
    let few = few_done (few_operation current o c.in_ok-a.a.value.value c.in_ok-b.b.value.value) (number_is c.operation.ensures c.in_ok-made.was) in
    omega (arith, few, notes (goal.at.behind-requires c).After-operation)

pub returns : goal.returns
returns c =
    let d = (goal.at.returns c).After-operation in
    rw c.behind.ensures
    (subst (NumberAnswers _) (works d) (number_noted (c.in_ok-a.a.notes + c.in_ok-b.b.notes) c.operation.ensures c.in_ok-made.was))

pub returns-in_err-made : goal.returns-in_err-made
returns-in_err-made c =
    let d = (goal.at.returns-in_err-made c).After-operation in
    let p = err_from_is_err_and c.from_residual-in_err-made.result c.from_residual-in_err-made.ensures.1 in
    rw (p.1, p.2)
    (subst (NumberAnswers _) (works d) (number_stopped (c.in_ok-a.a.notes + c.in_ok-b.b.notes) c.operation.ensures c.in_err-made.was))

pub returns-in_err-b : goal.returns-in_err-b
returns-in_err-b c =
    let m = memory_meaning c.args.memory in
    let items = pair_items c.requires.items_hold.1 c.requires.pair_at in
    let left = ap (operand_in current m) (sym c.operand_at.ensures) ∙ number_is c.operand_value.ensures c.in_ok-a.was in
    let right = ap (operand_in current m) (sym c.operand_at-2.ensures) ∙ number_stops c.operand_value-2.ensures c.in_err-b.was in
    let p = err_from_is_err_and c.from_residual-in_err-b.result c.from_residual-in_err-b.ensures.1 in
    rw (p.1, p.2) (record { work = sym (pair_second_stops m items left right); range = tt })

pub returns-in_err-a : goal.returns-in_err-a
returns-in_err-a c =
    let m = memory_meaning c.args.memory in
    let items = pair_items c.requires.items_hold.1 c.requires.pair_at in
    let left = ap (operand_in current m) (sym c.operand_at.ensures) ∙ number_stops c.operand_value.ensures c.in_err-a.was in
    let p = err_from_is_err_and c.from_residual.result c.from_residual.ensures.1 in
    rw (p.1, p.2) (record { work = sym (pair_first_stops m items left); range = tt })
