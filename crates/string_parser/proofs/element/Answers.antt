-- `string_parser::element` reads an element of a string expression.
use Rattle.std.proofs.Common.{refl, Some, None, [], ◌∷◌, ap, sym, drop, length-drop, arith}
use Rattle.base.specs.ListLaws.{begins_room}
use Rattle.base.specs.Text.{bytes}
use Rattle.symbols.specs.Entries.{role_of}
use Rattle.symbols.specs.Environment.{places_in}
use Rattle.numeric_parser.specs.OperandLaws.{word_passed, word_none, word_ready}
use Rattle.string_parser.specs.RowLaws.{one_written, element_literal, element_text, element_part}
use Rattle.string_parser.proofs.element.Goals as goal

pub literal-requires : goal.literal-requires
literal-requires c =
    let one = begins_room (34 ∷ []) (drop c.args.c.at c.args.text.now) (sym c.if-stands_at.ensures) in
    let size = length-drop c.args.c.at c.args.text.now in
    record {
      at_in_bounds = (omega arith, c.requires.reader_ready.text_size);
      counts_in_bounds = (omega arith, omega arith);
      table_size_in_bounds = c.requires.table_size_in_bounds;
    }

pub returns-then-stands_at : goal.returns-then-stands_at
returns-then-stands_at c =
    let a = c.args in
    element_literal (places_in a.known.now) (role_of a.role) c.requires.reader_ready (sym c.if-stands_at.ensures)
    (c.literal.ensures a.mentioned.now c.requires.reader_ready)

pub text_call-requires : goal.text_call-requires
unfolding bytes
text_call-requires c = word_ready c.args.text.now (bytes "STRING(") c.args.c c.requires.reader_ready c.in-Some.ensures

pub returns-in_err-cell : goal.returns-in_err-cell
unfolding bytes
returns-in_err-cell c =
    let a = c.args in
    let call = word_passed a.text.now (bytes "STRING(") a.c c.in-Some.ensures in
    one_written None (c.from_residual.ensures, refl)
    (element_text (places_in a.known.now) (role_of a.role) c.requires.reader_ready (sym c.if-stands_at.ensures) None call.1 call.0 c.in_err-cell.ensures)

pub returns-in-Some : goal.returns-in-Some
unfolding bytes
returns-in-Some c =
    let a = c.args in
    let call = word_passed a.text.now (bytes "STRING(") a.c c.in-Some.ensures in
    let q = c.put.ensures in
    one_written (Some (c.in_ok-cell.cell, c.in_ok-cell.d)) (ap Some q.0, q.1)
    (element_text (places_in a.known.now) (role_of a.role) c.requires.reader_ready (sym c.if-stands_at.ensures)
    (Some (c.in_ok-cell.cell, c.in_ok-cell.d)) call.1 call.0 c.in_ok-cell.ensures)

pub returns-in_err-cell-2 : goal.returns-in_err-cell-2
unfolding bytes
returns-in_err-cell-2 c =
    let a = c.args in
    one_written None (c.from_residual-in_err-cell-2.ensures, refl)
    (element_part (places_in a.known.now) (role_of a.role) c.requires.reader_ready (sym c.if-stands_at.ensures) None
    (word_none a.text.now (bytes "STRING(") a.c c.in_default.ensures) c.in_err-cell-2.ensures)

pub returns : goal.returns
unfolding bytes
returns c =
    let a = c.args in
    let q = c.put-2.ensures in
    one_written (Some (c.in_ok-cell-2.cell, c.in_ok-cell-2.d)) (ap Some q.0, q.1)
    (element_part (places_in a.known.now) (role_of a.role) c.requires.reader_ready (sym c.if-stands_at.ensures)
    (Some (c.in_ok-cell-2.cell, c.in_ok-cell-2.d)) (word_none a.text.now (bytes "STRING(") a.c c.in_default.ensures) c.in_ok-cell-2.ensures)
