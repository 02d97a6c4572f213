-- `string_parser::cells::number_end` reads the m of STRING with its `)`.
use Rattle.std.proofs.Common.{Some, None}
use Rattle.symbols.specs.Environment.{places_in}
use Rattle.numeric_parser.specs.OperandLaws.{cell_ends}
use Rattle.string_parser.specs.CellLaws.{number_ends}
use Rattle.string_parser.proofs.cells.number_end.Goals as goal

pub returns-in_err-place : goal.returns-in_err-place
returns-in_err-place c =
    let a = c.args in
    λ size standing.
    cell_ends c.from_residual.ensures
    (number_ends (places_in a.known.now) a.kind a.value None c.in_err-place.ensures size standing)

pub returns : goal.returns
returns c =
    let a = c.args in
    λ size standing.
    cell_ends c.closed.ensures
    (number_ends (places_in a.known.now) a.kind a.value (Some (c.in_ok-place.place, c.in_ok-place.d)) c.in_ok-place.ensures size standing)
