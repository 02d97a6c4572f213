-- `judge_statement` judges the names, 9, extends the environment, and judges 10.
use mathlib.Core.Path.{sym, ◌∙◌}
use Rattle.std.proofs.lemmas.Result.{err_from_is_err_and}
use Rattle.statement_checks.specs.Judging.{names_ready, judged_names, judged_nine, judged_over, judged_zero, extendable}
use Rattle.statement_checks.proofs.judge_statement.Goals as goal

pub judge_names-requires : goal.judge_names-requires
judge_names-requires c = rw c.first-entries.ensures.1 (names_ready c.args.symbols.now c.args.mentioned.now c.args.c c.requires)

pub returns-in_err-judge_names : goal.returns-in_err-judge_names
returns-in_err-judge_names c =
    let a = c.args in
    let p = err_from_is_err_and c.from_residual.result c.from_residual.ensures.1 in
    rw (p.1, p.2) (judged_names a.symbols.now a.mentioned.now a.c _ (rw c.first-entries.ensures.1 at c.in_err-judge_names.ensures.entered) a.kind _)

pub returns-then-stands_wrong : goal.returns-then-stands_wrong
returns-then-stands_wrong c =
    let a = c.args in
    judged_nine a.symbols.now a.mentioned.now a.c c.requires _ (rw c.first-entries.ensures.1 at c.in_ok-judge_names.ensures.entered) a.kind _
    (sym c.stands_wrong.ensures ∙ c.if-stands_wrong.true)

pub extend-requires : goal.extend-requires
extend-requires c =
    let a = c.args in
    rw c.first-entries.ensures.0
    (extendable a.symbols.now a.mentioned.now a.c c.requires _ (rw c.first-entries.ensures.1 at c.in_ok-judge_names.ensures.entered))

pub returns-then-is_over : goal.returns-then-is_over
returns-then-is_over c =
    let a = c.args in
    judged_over a.symbols.now a.mentioned.now a.c c.requires _ (rw c.first-entries.ensures.1 at c.in_ok-judge_names.ensures.entered) a.kind
    (sym c.stands_wrong.ensures ∙ c.if-stands_wrong.false) _ (rw c.first-entries.ensures.1 at c.extend.ensures) (sym c.is_over.ensures ∙ c.if-is_over.true)

pub returns : goal.returns
returns c =
    let a = c.args in
    judged_zero a.symbols.now a.mentioned.now a.c c.requires _ (rw c.first-entries.ensures.1 at c.in_ok-judge_names.ensures.entered) a.kind
    (sym c.stands_wrong.ensures ∙ c.if-stands_wrong.false) _ (rw c.first-entries.ensures.1 at c.extend.ensures) (sym c.is_over.ensures ∙ c.if-is_over.false)
