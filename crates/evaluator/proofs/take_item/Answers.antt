-- `evaluator::take_item` meets its contract. Each case is one of the definition.
use native.Mathlib.Omega.{arith}
use Rattle.std.proofs.lemmas.Result.{err_from_is_err_and}
use Rattle.numbers.specs.Laws.{number_is, number_stops}
use Rattle.decoder.specs.Meaning.{operand_meaning, operator_meaning, sign_meaning}
use Rattle.evaluator.specs.Meaning.{memory_meaning}
use Rattle.evaluator.proofs.Waiting.{operand_takes, operand_stops, operator_takes, operator_stops, sign_takes}
use Rattle.evaluator.proofs.take_item.Goals as goal

pub returns-in_ok-value-in-Operand : goal.returns-in_ok-value-in-Operand
returns-in_ok-value-in-Operand c =
    let m = memory_meaning c.args.memory in
    rw c.in-Operand.is
    (record {
      work = operand_takes m (operand_meaning c.in-Operand.a) (number_is c.operand_value.ensures c.in_ok-value-in-Operand.was) c.push.ensures.0;
      waits = c.push.ensures.1;
      counted = c.push.ensures.0.count;
    })

pub returns-in_err-value-in-Operand : goal.returns-in_err-value-in-Operand
returns-in_err-value-in-Operand c =
    let m = memory_meaning c.args.memory in
    let p = err_from_is_err_and c.from_residual.result c.from_residual.ensures.1 in
    rw (p.1, p.2, c.in-Operand.is)
    (record {
      work = operand_stops m c.args.waiting.now (operand_meaning c.in-Operand.a) (number_stops c.operand_value.ensures c.in_err-value-in-Operand.was);
      waits = c.requires.waits;
      counted = tt;
    })

pub returns-in_ok-made-in-Operator : goal.returns-in_ok-made-in-Operator
returns-in_ok-made-in-Operator c =
    let m = memory_meaning c.args.memory in
    let made = number_is c.operation.ensures c.in_ok-made-in-Operator.was in
    rw c.in-Operator.is
    (record {
      work = operator_takes m (operator_meaning c.in-Operator.o) c.pop-b.ensures.0 c.pop-a.ensures.0 made c.push-in-Operator.ensures.0;
      waits = c.push-in-Operator.ensures.1;
      counted = omega (arith, c.pop-b.ensures.0.count, c.pop-a.ensures.0.count, c.push-in-Operator.ensures.0.count);
    })

pub returns-in_err-made-in-Operator : goal.returns-in_err-made-in-Operator
returns-in_err-made-in-Operator c =
    let m = memory_meaning c.args.memory in
    let made = number_stops c.operation.ensures c.in_err-made-in-Operator.was in
    let p = err_from_is_err_and c.from_residual-in_err-made-in-Operator.result c.from_residual-in_err-made-in-Operator.ensures.1 in
    rw (p.1, p.2, c.in-Operator.is)
    (record {
      work = operator_stops m (operator_meaning c.in-Operator.o) c.pop-b.ensures.0 c.pop-a.ensures.0 made;
      waits = c.pop-a.ensures.1;
      counted = tt;
    })

pub returns-in-Sign : goal.returns-in-Sign
returns-in-Sign c =
    let m = memory_meaning c.args.memory in
    rw c.in-Sign.is
    (record {
      work = sign_takes m (sign_meaning c.in-Sign.g) c.pop-z.ensures.0 c.signed.ensures.value c.push-in-Sign.ensures.0;
      waits = c.push-in-Sign.ensures.1;
      counted = omega (arith, c.pop-z.ensures.0.count, c.push-in-Sign.ensures.0.count);
    })
