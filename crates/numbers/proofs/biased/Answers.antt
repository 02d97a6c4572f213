-- `numbers::biased` meets its contract. The number fits an i64 with the bias added, and is then from 0 up.
use Rattle.numbers.proofs.Biases.{bias_is}
use Rattle.numbers.proofs.biased.Goals as goal

pub returns : goal.returns
returns c = bias_is c.args.z.value c.requires
