-- `string_parser::cells::number_behind` reads the m of STRING behind a comma.
use Rattle.std.proofs.Common.{drop}
use Rattle.symbols.specs.Environment.{places_in}
use Rattle.numeric_parser.specs.OperandLaws.{mark_passed, mark_none, mark_ready, cell_lost}
use Rattle.string_parser.specs.CellLaws.{number_follows_lem, number_alone}
use Rattle.string_parser.proofs.cells.number_behind.Goals as goal

pub returns-in_err-d : goal.returns-in_err-d
returns-in_err-d c =
    let a = c.args in
    λ n standing.
    cell_lost c.from_residual.ensures
    (number_alone (places_in a.known.now) (drop a.c.at a.text.now) (mark_none a.text.now 44 a.c c.in_err-d.ensures) n)

pub number_end-requires : goal.number_end-requires
number_end-requires c = mark_ready c.args.text.now 44 c.args.c c.requires c.in_ok-d.ensures

pub returns : goal.returns
returns c =
    let a = c.args in
    let m = mark_passed a.text.now 44 a.c c.in_ok-d.ensures in
    number_follows_lem (places_in a.known.now) a.kind a.value c.number_end.result m.1 m.0 c.number_end.ensures
