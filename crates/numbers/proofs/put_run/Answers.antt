-- `numbers::put_run` meets its contract. What is filled is a splice of the same byte.
use native.Mathlib.Omega.{arith}
use Rattle.numbers.proofs.Stores.{run_stored}
use Rattle.numbers.proofs.put_run.Goals as goal

pub returns : goal.returns
returns c = rw (c.fill.ensures.after (λ y e. e)) (run_stored c.args.out.now c.args.at c.args.count c.args.byte (omega arith))
