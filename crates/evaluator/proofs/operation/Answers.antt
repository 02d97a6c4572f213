-- `evaluator::operation` meets its contract. Each operator is one of crate numbers.
use Rattle.machine.specs.Expressions as Expressions
use Rattle.evaluator.proofs.operation.Goals as goal

pub returns-in-Plus : goal.returns-in-Plus
unfolding Expressions.operation
returns-in-Plus c = rw c.in-Plus.is c.add.ensures

pub returns-in-Minus : goal.returns-in-Minus
unfolding Expressions.operation
returns-in-Minus c = rw c.in-Minus.is c.subtract.ensures

pub returns-in-Times : goal.returns-in-Times
unfolding Expressions.operation
returns-in-Times c = rw c.in-Times.is c.multiply.ensures

pub returns-in-Over : goal.returns-in-Over
unfolding Expressions.operation
returns-in-Over c = rw c.in-Over.is c.divide.ensures
