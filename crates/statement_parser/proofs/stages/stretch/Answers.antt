-- `statement_parser::stages::stretch` reads a row of elements.
use Rattle.std.proofs.Common.{refl}
use Rattle.symbols.specs.Environment.{places_in}
use Rattle.string_parser.specs.Elements.{shown_row, parse_row}
use Rattle.statement_parser.specs.Rows.{with_range}
use Rattle.statement_parser.specs.StageLaws.{stage_got, shown_size, drawn_row}
use Rattle.statement_parser.proofs.stages.stretch.Goals as goal

pub returns : goal.returns
returns c =
    let a = c.args in
    λ row.
    stage_got (parse_row a.elements (places_in a.known.now)) (λ n xs. with_range n xs) (shown_row a.elements) refl
    (drawn_row (shown_size a.elements) row c.in_ok-d.ensures.answer refl c.range_cell-cell.ensures)
