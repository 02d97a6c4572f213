-- `statement_parser::stages::replaced` reads a replacement, if there is one.
use Rattle.std.proofs.Common.{Option, Some, None, true, [], ◌∷◌, map, ◌≡◌, refl, subst, ◌+◌, drop}
use Rattle.base.specs.Current.{current}
use Rattle.base.specs.Lists.{begins}
use Rattle.syntax.specs.Program.{value}
use Rattle.syntax.specs.Strings.{string_expression}
use Rattle.symbols.specs.Environment.{places_in}
use Rattle.symbols.specs.declared.Cursor.{Cursor}
use Rattle.numeric_parser.specs.OperandLaws.{mark_passed, mark_none, mark_ready}
use Rattle.numeric_parser.specs.Operands.{cursor_moved}
use Rattle.string_parser.specs.Elements.{RowRead, RowsRead}
use Rattle.string_parser.specs.declared.Elements.TheVariants.{OfString}
use Rattle.statement_parser.specs.StageLaws.{stage_broken, stage_got, to_draft, replaced_not, replaced_broken, replaced_got}
use Rattle.statement_parser.proofs.stages.replaced.Goals.{After-row}
use Rattle.statement_parser.proofs.stages.replaced.Goals as goal

-- the elements behind the mark
module _ (c : After-row) where
  mark : (begins (61 ∷ []) (drop c.args.c.at c.args.text.now) ≡ true) × (c.in-Some.behind ≡ cursor_moved c.args.c 1)
  mark = mark_passed c.args.text.now 61 c.args.c c.in-Some.ensures

  read : (r : Option Cursor)
      → RowsRead c.args.text.now c.args.known.now c.args.table.now c.args.mentioned.now c.in-Some.behind OfString r c.row.new.table
      c.row.new.mentioned
      → RowRead (map value) c.args.text.now c.args.table.now c.args.mentioned.now (cursor_moved c.args.c 1)
      (string_expression current (places_in c.args.known.now) (drop (c.args.c.at + 1) c.args.text.now)) r c.row.new.table c.row.new.mentioned
  read r e =
      let a = c.args in
      let s = c.row.new in
      subst
      (λ (z : Cursor).
      RowRead (map value) a.text.now a.table.now a.mentioned.now z (string_expression current (places_in a.known.now) (drop z.at a.text.now))
      r s.table s.mentioned)
      mark.1 e

pub returns-in_default : goal.returns-in_default
returns-in_default c =
    let a = c.args in
    stage_got _ _ _ refl (replaced_not a.known.now a.from c.requires.following.0 (mark_none a.text.now 61 a.c c.in_default.ensures))

pub row-requires-clause-reader_ready : goal.row-requires-clause-reader_ready
row-requires-clause-reader_ready c = mark_ready c.args.text.now 61 c.args.c c.requires.following.0 c.in-Some.ensures

pub returns-in_err-d : goal.returns-in_err-d
returns-in_err-d c =
    let a = c.args in
    let s = (goal.at.returns-in_err-d c).After-row in
    to_draft c.from_residual.ensures
    (stage_broken _ _ _ refl (replaced_broken a.known.now a.text.now a.c.at (mark s).0 (read s None c.in_err-d.ensures).answer))

pub returns : goal.returns
returns c =
    let a = c.args in
    let s = (goal.at.returns c).After-row in
    stage_got _ _ _ refl
    (replaced_got a.known.now a.from (mark s).0 (read s (Some c.in_ok-d.d) c.in_ok-d.ensures).answer refl c.range_cell-right.ensures)
