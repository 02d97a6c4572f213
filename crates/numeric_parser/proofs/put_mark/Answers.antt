-- `numeric_parser::put_mark` writes what waits.
use Rattle.numeric_parser.specs.KindLaws.{puts_waiting}
use Rattle.numeric_parser.proofs.put_mark.Goals as goal

pub returns-in-Some : goal.returns-in-Some
returns-in-Some c = puts_waiting c.in-Some.is c.kind.ensures c.put.ensures
