-- `string_parser::cells::filler` reads a filler.
use Rattle.std.proofs.Common.{Some, None, drop}
use Rattle.symbols.specs.Environment.{places_in}
use Rattle.numeric_parser.specs.OperandLaws.{mark_passed, mark_none, mark_ready, cell_lost, cell_ends}
use Rattle.string_parser.specs.CellLaws.{filler_fixed, filler_free, filler_broken}
use Rattle.string_parser.proofs.cells.filler.Goals as goal

pub returns-in_err-place : goal.returns-in_err-place
returns-in_err-place c =
    let a = c.args in
    cell_lost c.from_residual.ensures (filler_broken (places_in a.known.now) (drop a.c.at a.text.now) c.in_err-place.ensures.answer)

pub read_bound-requires-clause-reader_ready : goal.read_bound-requires-clause-reader_ready
read_bound-requires-clause-reader_ready c =
    mark_ready c.args.text.now 36 c.in_ok-place.d c.in_ok-place.ensures.answer.ready c.in-Some.ensures

pub returns-in_err-cell : goal.returns-in_err-cell
returns-in_err-cell c =
    let dollar = mark_passed c.args.text.now 36 c.in_ok-place.d c.in-Some.ensures in
    cell_ends c.from_residual-in_err-cell.ensures
    (filler_fixed (places_in c.args.known.now) c.in_ok-place.ensures.answer None dollar.1 dollar.0 c.in_err-cell.ensures)

pub returns-in-Some : goal.returns-in-Some
returns-in-Some c =
    let dollar = mark_passed c.args.text.now 36 c.in_ok-place.d c.in-Some.ensures in
    cell_ends c.closed.ensures
    (filler_fixed (places_in c.args.known.now) c.in_ok-place.ensures.answer (Some (c.in_ok-cell.cell, c.in_ok-cell.e)) dollar.1 dollar.0
    c.in_ok-cell.ensures)

pub returns : goal.returns
returns c =
    cell_ends c.closed-2.ensures
    (filler_free (places_in c.args.known.now) c.in_ok-place.ensures.answer (mark_none c.args.text.now 36 c.in_ok-place.d c.in_default.ensures))
