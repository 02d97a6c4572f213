-- What the readers of the parts of forms answer, as stages behind a row so far. Assumes nothing.
use Rattle.std.specs.Prelude.{Option, Some, None, List, [], ℕ}
use Rattle.std.proofs.Common.{refl, sym, ap, ◌∙◌}
use Rattle.base.specs.Current.{current}
use Rattle.encoding.specs.Kinds.{parts}
use Rattle.encoding.specs.Table as Table
use Rattle.encoding.specs.Table.{part_cell}
use Rattle.syntax.specs.Forms.{branch}
use Rattle.syntax.specs.Numeric.{test}
use Rattle.syntax.specs.Program as Program
use Rattle.syntax.specs.Lexemes.{part_name}
use Rattle.symbols.specs.Entries.{role_of}
use Rattle.symbols.specs.Environment.{places_in}
use Rattle.symbols.specs.declared.Cursor.{Cursor}
use Rattle.numeric_parser.specs.Operands.{PartRead}
use Rattle.encoding.specs.declared.cells.Cell.{Cell}
use Rattle.branch_parser.specs.Branches.{TargetRead, BranchRead, target_in}
use Rattle.branch_parser.specs.Places.{is_number_known}
use Rattle.encoding.specs.Meaning.{row_meaning}
use Rattle.branch_parser.specs.Tests.{TestRead, test_alone}
use Rattle.encoding.specs.declared.cells.Branch.{Branch}
use Rattle.encoding.specs.declared.cells.Row.{Row}
use Rattle.branch_parser.specs.declared.Target.{Target}
use Rattle.statement_parser.specs.Drafts.{Draft}
use Rattle.statement_parser.specs.Rows.{with_steps, with_branch, with_left}
use Rattle.statement_parser.specs.StageLaws.{stage_broken, stage_got, drawn_names, steps-made, left-made}
use Rattle.statement_parser.specs.Stages.{TargetStage, PartStage, TestStage, BranchStage, stepped, branching, parted}
use Rattle.symbols.specs.declared.known.Known.{Known}
use Rattle.symbols.specs.declared.Mentioned.{Mentioned}
use Rattle.symbols.specs.declared.tags.Role.{Role}

module _ (known : Known) (row : Row) {text : List ℕ} {m : Mentioned} {c : Cursor} where
  pub target_stage : (target : Target) (r : Option (ℕ × Cursor)) {m₁ : Mentioned} → TargetRead text known m c target r m₁
      → TargetStage text known m target (Some (row, c)) (stepped row r) m₁
  target_stage target (Some (step, d)) a =
      λ table.
      stage_got (target_in known target) (λ _ s. with_steps s 0) (λ _. []) refl
      (drawn_names (λ s. with_steps s 0) table a.answer
      (steps-made row refl ∙ ap (λ s. with_steps s 0 (row_meaning row)) (sym a.answer.made)))
  target_stage target None a = λ table. stage_broken (target_in known target) (λ _ s. with_steps s 0) (λ _. []) refl a.answer

  pub part_stage : (role : Option Role) (r : Option (Cell × Cursor)) {m₁ : Mentioned} → PartRead text known m c parts role r m₁
      → PartStage text known m role (Some (row, c)) (parted row r) m₁
  part_stage role (Some (v, d)) a =
      λ table.
      stage_got (part_name current (places_in known) (role_of role)) (λ _ p. with_left (part_cell parts p)) (λ _. []) refl
      (drawn_names (λ p. with_left (part_cell parts p)) table a.answer
      (left-made row refl ∙ ap (λ (w : Table.Cell). with_left w (row_meaning row)) (sym a.answer.made)))
  part_stage role None a =
      λ table.
      stage_broken (part_name current (places_in known) (role_of role)) (λ _ p. with_left (part_cell parts p)) (λ _. []) refl a.answer

  pub test_stage : (r : Draft) {m₁ : Mentioned} → TestRead text known m c r m₁ → TestStage text known m (Some (row, c)) r m₁
  test_stage (Some (t, d)) a =
      λ table.
      stage_got (test current (places_in known)) (λ _ t _. test_alone t) (λ _. []) refl
      (drawn_names (λ t _. test_alone t) table a.answer (sym a.answer.made))
  test_stage None a = λ table. stage_broken (test current (places_in known)) (λ _ t _. test_alone t) (λ _. []) refl a.answer

  pub branch_stage : (r : Option (Branch × Cursor)) {m₁ : Mentioned} → BranchRead text known m c r m₁
      → BranchStage text known m (Some (row, c)) (branching row r) m₁
  branch_stage (Some (b, d)) a =
      λ table.
      stage_got (branch current (is_number_known known) (places_in known)) (λ _. with_branch) (λ _. []) refl
      (drawn_names with_branch table a.answer
      (steps-made row refl ∙ ap (λ (z : Program.Branch). with_branch z (row_meaning row)) (sym a.answer.made)))
  branch_stage None a =
      λ table. stage_broken (branch current (is_number_known known) (places_in known)) (λ _. with_branch) (λ _. []) refl a.answer
