-- `register_report::strigol_register_report` keeps its promise.
use Rattle.std.proofs.Common.{ap, ◌∙◌}
use Rattle.register.specs.CallLaws.{report_promise}
use Rattle.register.specs.Claims.{report_back}
use Rattle.register_report.proofs.strigol_register_report.Goals as goal

pub returns-in-Ok : goal.returns-in-Ok
returns-in-Ok c = let a = c.args in report_promise a.buffer.now a.output.now _ c.in-Ok.ensures

pub returns-in-Err : goal.returns-in-Err
returns-in-Err c =
    let a = c.args in
    report_promise a.buffer.now a.output.now _ (ap (λ k. report_back k c.report.new.output 0) c.number.ensures ∙ c.in-Err.ensures)
