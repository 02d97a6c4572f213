-- `scan::read_rows` reads all rows. The invariant: those read are elements, and their lengths stand there.
use mathlib.Core.List.{List}
use mathlib.Core.Path.{refl, sym, ◌∙◌, ap, subst}
use Prim.Native.Nat.{ℕ, ◌+◌}
use native.Mathlib.Omega.{arith}
use lib.ListN.{set}
use Rattle.base.specs.Choice.{both_pass}
use Rattle.std.specs.List.{concat}
use Rattle.std.proofs.lemmas.List.Folds.{list_all_more}
use Rattle.scan.proofs.Answers.{row-filled}
use Rattle.scan.proofs.Chunks.{concat_row}
use Rattle.scan.proofs.Rows.{good_sized}
use Rattle.scan.specs.Rows.{is_element, size_of, RowSized, row_answer, sizes_at}
use Rattle.scan.proofs.read_rows.Goals as goal

pub loop-i-init : goal.loop-i-init
unfolding row_answer sizes_at
loop-i-init c = (refl, refl)

pub length_of-requires : goal.length_of-requires
length_of-requires c =
    subst RowSized (sym c.row_element.ensures) (good_sized c.args.values.now _ (c.is_element.ensures.1 c.if-not-is_element.false))

pub loop-i-preserved : goal.loop-i-preserved
loop-i-preserved c =
    let s = c.loop-i in
    let rows = c.args.rows.now in
    let inside = c.loop-i-test.true in
    let size = c.length_of.ensures.0 ∙ ap size_of (c.row_element.ensures ∙ concat_row rows c.told-rows s.i inside) in (
      list_all_more (is_element c.args.values.now) rows s.i _ inside
          ∙ both_pass s.invariant.0 (sym c.is_element.ensures.0 ∙ c.if-not-is_element.false),
      ap (λ (l : List ℕ). set l (4 + s.i) c.length_of.result) s.invariant.1
          ∙ row-filled (concat rows) s.i c.length_of.result (omega (arith, inside, c.requires)) size,
    )
