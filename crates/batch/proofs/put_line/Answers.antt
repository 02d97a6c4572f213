-- `batch::put_line` meets its contract: the word, and the numbers behind it.
use Rattle.std.proofs.Common.{arith}
use Rattle.printing.specs.PrintLaws.{put-behind}
use Rattle.batch.proofs.put_line.Goals as goal

pub put-word_end-requires : goal.put-word_end-requires
put-word_end-requires c = omega (arith, c.requires.0, c.requires.1)

pub put_numbers-requires : goal.put_numbers-requires
put_numbers-requires c =
    let put = c.put-word_end.ensures in
    omega (arith, c.requires.0, c.requires.1, put.ends, put.size)

pub returns : goal.returns
returns c = put-behind c.put-word_end.ensures c.put_numbers.ensures
