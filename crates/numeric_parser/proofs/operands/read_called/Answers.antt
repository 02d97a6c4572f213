-- `numeric_parser::operands::read_called` reads LENGTH, NUMBER or a number.
use Rattle.std.proofs.Common.{Some, None}
use Rattle.base.specs.Text.{bytes}
use Rattle.symbols.specs.Environment.{places_in}
use Rattle.numeric_parser.specs.OperandLaws.{word_passed, word_none, word_ready, cell_ends, called_length, called_number, called_plain}
use Rattle.numeric_parser.proofs.operands.read_called.Goals as goal

pub read_string-requires : goal.read_string-requires
unfolding bytes
read_string-requires c = word_ready c.args.text.now (bytes "LENGTH(") c.args.c c.requires c.in-Some.ensures

pub returns-in_err-place : goal.returns-in_err-place
unfolding bytes
returns-in_err-place c =
    let length = word_passed c.args.text.now (bytes "LENGTH(") c.args.c c.in-Some.ensures in
    cell_ends c.from_residual.ensures (called_length (places_in c.args.known.now) length.1 length.0 None c.in_err-place.ensures)

pub returns-in-Some : goal.returns-in-Some
unfolding bytes
returns-in-Some c =
    let length = word_passed c.args.text.now (bytes "LENGTH(") c.args.c c.in-Some.ensures in
    cell_ends c.closed.ensures
    (called_length (places_in c.args.known.now) length.1 length.0 (Some (c.in_ok-place.place, c.in_ok-place.d)) c.in_ok-place.ensures)

pub read_part-requires-clause-reader_ready : goal.read_part-requires-clause-reader_ready
unfolding bytes
read_part-requires-clause-reader_ready c =
    word_ready c.args.text.now (bytes "NUMBER(") c.args.c c.requires c.in-Some-behind_word.ensures

pub returns-in_err-cell : goal.returns-in_err-cell
unfolding bytes
returns-in_err-cell c =
    let none = word_none c.args.text.now (bytes "LENGTH(") c.args.c c.in_default.ensures in
    let number = word_passed c.args.text.now (bytes "NUMBER(") c.args.c c.in-Some-behind_word.ensures in
    cell_ends c.from_residual-in_err-cell.ensures
    (called_number (places_in c.args.known.now) number.1 none number.0 None c.in_err-cell.ensures)

pub returns-in-Some-behind_word : goal.returns-in-Some-behind_word
unfolding bytes
returns-in-Some-behind_word c =
    let none = word_none c.args.text.now (bytes "LENGTH(") c.args.c c.in_default.ensures in
    let number = word_passed c.args.text.now (bytes "NUMBER(") c.args.c c.in-Some-behind_word.ensures in
    cell_ends c.closed-in-Some-behind_word.ensures
    (called_number (places_in c.args.known.now) number.1 none number.0 (Some (c.in_ok-cell.cell, c.in_ok-cell.d)) c.in_ok-cell.ensures)

pub returns-in_err-place-2 : goal.returns-in_err-place-2
unfolding bytes
returns-in_err-place-2 c =
    let length = word_none c.args.text.now (bytes "LENGTH(") c.args.c c.in_default.ensures in
    let number = word_none c.args.text.now (bytes "NUMBER(") c.args.c c.in_default-behind_word.ensures in
    cell_ends c.from_residual-in_err-place-2.ensures (called_plain (places_in c.args.known.now) length number None c.in_err-place-2.ensures)

pub returns : goal.returns
unfolding bytes
returns c =
    let length = word_none c.args.text.now (bytes "LENGTH(") c.args.c c.in_default.ensures in
    let number = word_none c.args.text.now (bytes "NUMBER(") c.args.c c.in_default-behind_word.ensures in
    called_plain (places_in c.args.known.now) length number (Some (c.in_ok-place-2.place, c.in_ok-place-2.d)) c.in_ok-place-2.ensures
