-- `statement_parser::steps::target_form` reads a name that leads to a step.
use Rattle.std.proofs.Common.{Some, None, ℕ, ap, ◌∙◌}
use Rattle.branch_parser.specs.Branches.{target_kind}
use Rattle.statement_parser.specs.Ends.{ended_at}
use Rattle.statement_parser.specs.PartLaws.{target_stage}
use Rattle.statement_parser.specs.Rows.{begun_row, draft_steps}
use Rattle.statement_parser.specs.StageLaws.{form_ends}
use Rattle.statement_parser.specs.StepLaws.{target_read}
use Rattle.statement_parser.proofs.steps.target_form.Goals as goal

pub returns-in_err-success : goal.returns-in_err-success
returns-in_err-success c =
    let a = c.args in
    λ form leads table.
    form_ends c.from_residual.ensures
    (target_read a.known.now a.target leads c.requires None
    (target_stage a.known.now (begun_row (target_kind a.target) 0) a.target None c.in_err-success.ensures table))

pub returns : goal.returns
returns c =
    let a = c.args in
    let s = c.in_ok-success in
    let row = begun_row (target_kind a.target) 0 in
    λ form leads table.
    form_ends (c.ended.ensures ∙ ap (λ (k : ℕ). ended_at a.text.now (Some (draft_steps (begun_row k 0) s.success 0)) s.d) c.kind.ensures)
    (target_read a.known.now a.target leads c.requires (Some (draft_steps row s.success 0, s.d))
    (target_stage a.known.now row a.target (Some (s.success, s.d)) s.ensures table))
