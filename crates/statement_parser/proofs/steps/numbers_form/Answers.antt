-- `statement_parser::steps::numbers_form` reads names parted by commas.
use Rattle.std.proofs.Common.{length, drop, arith}
use Rattle.statement_parser.specs.BehindLaws.{numbers-first, numbers_none}
use Rattle.statement_parser.specs.StageLaws.{form_lost}
use Rattle.statement_parser.proofs.steps.numbers_form.Goals as goal

pub returns-in_err-d : goal.returns-in_err-d
returns-in_err-d c =
    let a = c.args in
    λ known table. form_lost c.from_residual.ensures (numbers_none known (drop a.c.at a.text.now) c.in_err-d.ensures.answer)

pub returns : goal.returns
returns c =
    let d = c.in_ok-d.d in
    λ known table.
    numbers-first table known c.in_ok-d.ensures.answer c.more_numbers.result
    (c.more_numbers.ensures (length (drop d.at c.args.text.now)) (omega arith) table)
