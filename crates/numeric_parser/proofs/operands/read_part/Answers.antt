-- `numeric_parser::operands::read_part` reads a name or substring.
use Rattle.numeric_parser.specs.OperandLaws.{mark_ready}
use Rattle.numeric_parser.proofs.operands.read_part.Goals as goal

pub read_bound-requires-clause-reader_ready : goal.read_bound-requires-clause-reader_ready
read_bound-requires-clause-reader_ready c =
    mark_ready c.args.text.now 36 c.in_ok-place.d c.in_ok-place.ensures.answer.ready c.in-Some.ensures
