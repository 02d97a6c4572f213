-- `branch_parser::tests::read_test` reads NULL, NUMERIC or a comparison.
use Rattle.std.proofs.Common.{Some, None}
use Rattle.base.specs.Text.{bytes}
use Rattle.symbols.specs.Environment.{places_in}
use Rattle.numeric_parser.specs.OperandLaws.{word_passed, word_none, word_ready}
use Rattle.branch_parser.specs.Rows.{draft_ends}
use Rattle.branch_parser.specs.TestLaws.{test_null, test_numeric, test_compares}
use Rattle.branch_parser.proofs.tests.read_test.Goals as goal

pub read_string-requires : goal.read_string-requires
unfolding bytes
read_string-requires c = word_ready c.args.text.now (bytes "NULL(") c.args.c c.requires c.in-Some.ensures

pub returns-in_err-place : goal.returns-in_err-place
unfolding bytes
returns-in_err-place c =
    let null = word_passed c.args.text.now (bytes "NULL(") c.args.c c.in-Some.ensures in
    draft_ends c.from_residual.ensures (test_null (places_in c.args.known.now) null.1 null.0 None c.in_err-place.ensures)

pub returns-in-Some : goal.returns-in-Some
unfolding bytes
returns-in-Some c =
    let null = word_passed c.args.text.now (bytes "NULL(") c.args.c c.in-Some.ensures in
    draft_ends c.tested.ensures
    (test_null (places_in c.args.known.now) null.1 null.0 (Some (c.in_ok-place.place, c.in_ok-place.d)) c.in_ok-place.ensures)

pub read_part-requires-clause-reader_ready : goal.read_part-requires-clause-reader_ready
unfolding bytes
read_part-requires-clause-reader_ready c =
    word_ready c.args.text.now (bytes "NUMERIC(") c.args.c c.requires c.in-Some-behind_word.ensures

pub returns-in_err-cell : goal.returns-in_err-cell
unfolding bytes
returns-in_err-cell c =
    let none = word_none c.args.text.now (bytes "NULL(") c.args.c c.in_default.ensures in
    let numeric = word_passed c.args.text.now (bytes "NUMERIC(") c.args.c c.in-Some-behind_word.ensures in
    draft_ends c.from_residual-in_err-cell.ensures
    (test_numeric (places_in c.args.known.now) numeric.1 none numeric.0 None c.in_err-cell.ensures)

pub returns-in-Some-behind_word : goal.returns-in-Some-behind_word
unfolding bytes
returns-in-Some-behind_word c =
    let none = word_none c.args.text.now (bytes "NULL(") c.args.c c.in_default.ensures in
    let numeric = word_passed c.args.text.now (bytes "NUMERIC(") c.args.c c.in-Some-behind_word.ensures in
    draft_ends c.tested-in-Some-behind_word.ensures
    (test_numeric (places_in c.args.known.now) numeric.1 none numeric.0 (Some (c.in_ok-cell.cell, c.in_ok-cell.d)) c.in_ok-cell.ensures)

pub returns : goal.returns
unfolding bytes
returns c =
    let null = word_none c.args.text.now (bytes "NULL(") c.args.c c.in_default.ensures in
    let numeric = word_none c.args.text.now (bytes "NUMERIC(") c.args.c c.in_default-behind_word.ensures in
    test_compares (places_in c.args.known.now) null numeric c.comparing.result c.comparing.ensures
