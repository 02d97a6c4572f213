-- `string_parser::row` reads a row and counts it.
use Rattle.std.proofs.Common.{Option, Some, None, sym, subst, drop, ap}
use Rattle.symbols.specs.Environment.{places_in}
use Rattle.symbols.specs.declared.Cursor.{Cursor}
use Rattle.string_parser.specs.Elements.{RowsRead, shown, read_one}
use Rattle.string_parser.specs.RowLaws.{rows_lost, row_nothing, row_broken, row-got, row-behind, row-whole}
use Rattle.string_parser.proofs.row.Goals as goal

pub returns-then-nothing_here : goal.returns-then-nothing_here
returns-then-nothing_here c =
    row-whole c.args.elements c.args.known.now _
    (row_nothing (shown c.args.elements) (read_one c.args.elements (places_in c.args.known.now)) c.requires.reader_ready
    (sym c.if-nothing_here.ensures))

pub returns-in_err-d : goal.returns-in_err-d
returns-in_err-d c =
    let a = c.args in
    rows_lost a.elements a.known.now c.from_residual.ensures
    (row-whole a.elements a.known.now _
    (record {
      answer =
          row_broken (read_one a.elements (places_in a.known.now)) (drop a.c.at a.text.now) (sym c.if-nothing_here.ensures)
          c.in_err-d.ensures.answer;
    }))

pub more-requires-clause-reader_ready : goal.more-requires-clause-reader_ready
more-requires-clause-reader_ready c = c.in_ok-d.ensures.answer.gets.ready

pub returns-in_err-e : goal.returns-in_err-e
returns-in_err-e c =
    let a = c.args in
    rows_lost a.elements a.known.now c.from_residual-in_err-e.ensures
    (row-whole a.elements a.known.now _
    (row-got (shown a.elements) (read_one a.elements (places_in a.known.now)) (sym c.if-nothing_here.ensures)
    c.in_ok-d.ensures.answer None c.in_err-e.ensures))

pub row_end-requires : goal.row_end-requires
row_end-requires c =
    let a = c.args in
    row-behind (shown a.elements) (read_one a.elements (places_in a.known.now)) (sym c.if-nothing_here.ensures) c.in_ok-d.ensures.answer
    c.in_ok-e.ensures

pub returns : goal.returns
returns c =
    let a = c.args in
    let m = c.more in
    subst
    (λ (r : Option Cursor).
    RowsRead a.text.now a.known.now a.table.now a.mentioned.now a.c a.elements r m.new.table m.new.mentioned)
    (sym (ap Some c.row_end.ensures))
    (row-whole a.elements a.known.now _
    (row-got (shown a.elements) (read_one a.elements (places_in a.known.now)) (sym c.if-nothing_here.ensures)
    c.in_ok-d.ensures.answer (Some c.in_ok-e.e) c.in_ok-e.ensures))
