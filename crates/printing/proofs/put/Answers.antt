-- `printing::put` meets its contract.
use Rattle.printing.specs.PrintLaws.{put_written}
use Rattle.printing.proofs.put.Goals as goal

pub returns : goal.returns
returns c =
    rw c.write.ensures (put_written c.args.out.now c.args.at c.args.v.now c.requires)
