-- `judge_names` puts the count back where one of the numbers applies.
use Rattle.std.proofs.Common.{sym, ◌∙◌}
use Rattle.name_checks.specs.JudgedLaws.{judged_refused}
use Rattle.name_checks.specs.Shown.{entries_in}
use Rattle.name_checks.proofs.judge_names.Goals as goal

pub returns-then-is_err : goal.returns-then-is_err
returns-then-is_err c =
    let a = c.args in
    let judged = c.enter_and_judge-judged in
    judged_refused a.known.now a.names.now (entries_in a.entries) c.requires judged.new.names judged.result judged.ensures
    (sym c.is_err.ensures.value ∙ c.if-is_err.true)
