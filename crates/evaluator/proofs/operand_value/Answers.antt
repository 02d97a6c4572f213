-- `evaluator::operand_value` meets its contract. Each case is one of the definition; NUMBER goes on from the part's own work.
use mathlib.Core.Path.{ap, ◌∙◌}
use lib.IntN.{ℤ, pos}
use Rattle.machine.specs.Expressions.{operand_in}
use Rattle.machine.specs.State.{string_at}
use Rattle.values.specs.Result.{done, pure}
use Rattle.evaluator.specs.Meaning.{memory_meaning}
use Rattle.evaluator.proofs.Operands.{constant_answers, number_answers}
use Rattle.evaluator.proofs.operand_value.Goals as goal

pub returns-in-Constant : goal.returns-in-Constant
returns-in-Constant c =
    rw c.plain.ensures
    (constant_answers (memory_meaning c.args.memory) c.args.a c.in-Constant.z c.in-Constant.is c.requires)

pub returns-in-Number : goal.returns-in-Number
returns-in-Number c =
    rw c.plain-in-Number.ensures
    (number_answers (memory_meaning c.args.memory) c.args.a c.in-Number.i c.number_at.result c.in-Number.is
    (c.number_at.ensures c.args.memory.store.now))

pub returns-in-LengthOf : goal.returns-in-LengthOf
unfolding operand_in pure string_at
returns-in-LengthOf c =
    let value = c.int_of.ensures.value ∙ ap pos c.string_length.ensures.0 in
    rw (c.plain-in-LengthOf.ensures, c.in-LengthOf.is) (record { work = ap (λ (z : ℤ). done z 0) value; range = c.int_of.ensures.range })

pub returns-in-NumberOf : goal.returns-in-NumberOf
unfolding operand_in
returns-in-NumberOf c =
    rw c.in-NumberOf.is c.part_number.ensures
