-- `string_parser::pattern_element` reads an element of a pattern.
use Rattle.std.proofs.Common.{refl, Some, None, ap}
use Rattle.symbols.specs.Environment.{places_in}
use Rattle.numeric_parser.specs.OperandLaws.{mark_passed, mark_none, mark_ready}
use Rattle.string_parser.specs.RowLaws.{one_written, pattern-filler, pattern_value}
use Rattle.string_parser.proofs.pattern_element.Goals as goal

pub filler-requires : goal.filler-requires
filler-requires c = mark_ready c.args.text.now 40 c.args.c c.requires.reader_ready c.in-Some.ensures

pub returns-in_err-cell : goal.returns-in_err-cell
returns-in_err-cell c =
    let open' = mark_passed c.args.text.now 40 c.args.c c.in-Some.ensures in
    one_written None (c.from_residual.ensures, refl)
    (pattern-filler (places_in c.args.known.now) c.requires.reader_ready None open'.1 open'.0 c.in_err-cell.ensures)

pub returns-in-Some : goal.returns-in-Some
returns-in-Some c =
    let open' = mark_passed c.args.text.now 40 c.args.c c.in-Some.ensures in
    let q = c.put.ensures in
    one_written (Some (c.in_ok-cell.cell, c.in_ok-cell.d)) (ap Some q.0, q.1)
    (pattern-filler (places_in c.args.known.now) c.requires.reader_ready (Some (c.in_ok-cell.cell, c.in_ok-cell.d)) open'.1 open'.0 c.in_ok-cell.ensures)

pub returns : goal.returns
returns c =
    let q = c.element in
    pattern_value (places_in c.args.known.now) q.result (mark_none c.args.text.now 40 c.args.c c.in_default.ensures) q.ensures
