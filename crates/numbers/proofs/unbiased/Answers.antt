-- `numbers::unbiased` meets its contract. What is kept in 6 bytes fits an i64 without its bias.
use Rattle.numbers.proofs.Biases.{unbias_fits, unbias_is}
use Rattle.numbers.proofs.unbiased.Goals as goal

pub overflow_sub-result : goal.overflow_sub-result
overflow_sub-result c = unbias_fits c.args.n c.requires

pub returns : goal.returns
returns c = unbias_is c.args.n c.requires
