-- `statement_parser::steps::program_form` reads a name.
use Rattle.std.proofs.Common.{drop}
use Rattle.statement_parser.specs.BehindLaws.{program_read, program_broken}
use Rattle.statement_parser.specs.StageLaws.{form_lost, form_ends}
use Rattle.statement_parser.proofs.steps.program_form.Goals as goal

pub returns-in_err-d : goal.returns-in_err-d
returns-in_err-d c =
    let a = c.args in
    λ known table. form_lost c.from_residual.ensures (program_broken known (drop a.c.at a.text.now) c.in_err-d.ensures.answer)

pub returns : goal.returns
returns c = λ known table. form_ends c.ended.ensures (program_read known table c.in_ok-d.ensures.answer)
