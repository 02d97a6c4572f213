-- `register_report::report` meets its contract.
use Rattle.std.proofs.Common.{ap, ◌∙◌}
use Rattle.std.proofs.lemmas.Result.{err_from_is_err_and}
use Rattle.register.specs.Calls.{report_call}
use Rattle.register_reading.specs.ReadLaws.{opened_known}
use Rattle.register_report.specs.PutLaws.{report_unopened}
use Rattle.register_report.proofs.report.Goals as goal

pub returns-in_err-register : goal.returns-in_err-register
returns-in_err-register c =
    let a = c.args in
    let p = err_from_is_err_and c.from_residual.result c.from_residual.ensures.1 in
    rw (p.1, p.2) (report_unopened a.buffer.now a.output.now _ c.in_err-register.ensures)

pub returns : goal.returns
returns c =
    let a = c.args in
    let r = c.in_ok-register in
    c.put_report.ensures ∙ ap (λ b. report_call b a.output.now) (opened_known a.buffer.now r.register r.ensures)
