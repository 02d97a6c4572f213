-- `evaluator::Stack::push` meets its contract. The number is put behind the others.
use Rattle.evaluator.proofs.Waiting.{push-top, push-waits}
use Rattle.evaluator.proofs.Stack.push.Goals as goal

pub returns : goal.returns
returns c = (push-top c.requires, push-waits c.requires)
