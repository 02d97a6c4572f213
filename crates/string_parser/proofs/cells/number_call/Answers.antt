-- `string_parser::cells::number_call` reads STRING with a number, or with m alone.
use Rattle.symbols.specs.Environment.{places_in}
use Rattle.numeric_parser.specs.OperandLaws.{mark_passed, mark_none, mark_ready, cell_lost, cell_ends, then_broken}
use Rattle.string_parser.specs.CellLaws.{number_comma, number_only}
use Rattle.string_parser.proofs.cells.number_call.Goals as goal

pub number_end-requires : goal.number_end-requires
number_end-requires c =
    mark_ready c.args.text.now 44 c.in_ok-place.d c.in_ok-place.ensures.answer.ready c.in-Some.ensures

pub returns-in-Some : goal.returns-in-Some
returns-in-Some c =
    let comma = mark_passed c.args.text.now 44 c.in_ok-place.d c.in-Some.ensures in
    number_comma (places_in c.args.known.now) c.in_ok-place.ensures.answer c.number_end.result comma.1 comma.0 c.number_end.ensures

pub returns-in_err-place : goal.returns-in_err-place
returns-in_err-place c = cell_lost c.from_residual.ensures (then_broken _ c.in_err-place.ensures.answer)

pub returns : goal.returns
returns c =
    cell_ends c.closed.ensures
    (number_only (places_in c.args.known.now) c.in_ok-place.ensures.answer
    (mark_none c.args.text.now 44 c.in_ok-place.d c.in_default.ensures))
