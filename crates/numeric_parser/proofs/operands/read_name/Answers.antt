-- `numeric_parser::operands::read_name` reads a name and notes it.
use Rattle.numeric_parser.specs.OperandLaws.{name_got}
use Rattle.numeric_parser.proofs.operands.read_name.Goals as goal

pub returns : goal.returns
returns c =
    let n = c.in_ok-n.ensures in
    record { answer = name_got c.requires n.0 n.1 c.key_of-key.ensures c.note.ensures c.skip.ensures }
