-- `statement_parser::stages::branch_or_next` reads a branch field, if there is one.
use Rattle.std.proofs.Common.{[], refl, sym, drop}
use Rattle.base.specs.Current.{current}
use Rattle.branch_parser.specs.Places.{is_number_known}
use Rattle.syntax.specs.Forms.{branch_if_any}
use Rattle.symbols.specs.Environment.{places_in}
use Rattle.statement_parser.specs.PartLaws.{branch_stage}
use Rattle.statement_parser.specs.Rows.{with_branch}
use Rattle.statement_parser.specs.StageLaws.{stage_got, stage_same, branch-any, branch_not, steps-made}
use Rattle.statement_parser.specs.Stages.{branching}
use Rattle.statement_parser.proofs.stages.branch_or_next.Goals as goal

pub returns-then-stands_at : goal.returns-then-stands_at
returns-then-stands_at c =
    let a = c.args in
    let r = c.read_branch in
    λ row table.
    stage_same (branching row r.result) (branch-any a.known.now (drop a.c.at a.text.now) (sym c.if-stands_at.ensures))
    (branch_stage a.known.now row r.result r.ensures table)

pub returns : goal.returns
unfolding places_in
returns c =
    let a = c.args in
    λ row table.
    stage_got (branch_if_any current (is_number_known a.known.now) (places_in a.known.now)) (λ _. with_branch) (λ _. []) refl
    (branch_not a.known.now table row _ a.c c.requires (sym c.if-stands_at.ensures)
    (steps-made row refl))
