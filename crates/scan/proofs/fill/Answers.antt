-- `scan::fill` writes the lengths that don't depend on the place. The invariant: those of the rows passed stand there.
use mathlib.Core.List.{List}
use Prim.Native.Nat.{ℕ, ◌+◌}
use lib.ListN.{length, set}
use mathlib.Core.List.{◌∷◌}
use mathlib.Core.Path.{◌≡◌, refl, sym, ◌∙◌, ap, subst}
use Rattle.std.specs.List.{concat}
use Rattle.scan.proofs.Answers.{row-filled}
use Rattle.scan.proofs.Chunks.{concat_row}
use Rattle.scan.proofs.Rows.{good_sized}
use Rattle.scan.specs.Rows.{row_element, size_of, RowSized, row_answer, sizes_at}
use native.Mathlib.Omega.{arith}
use Rattle.scan.proofs.fill.Goals.{After-row_element}
use Rattle.scan.proofs.fill.Goals as goal

-- the element read
read : (c : After-row_element) → c.row_element.result ≡ row_element (concat c.args.pattern.rows.now) c.loop-i.i
read c =
    let p = c.args.pattern in
    c.row_element.ensures ∙ concat_row p.rows.now p.ready.whole c.loop-i.i c.loop-i-test.true

pub loop-i-init : goal.loop-i-init
unfolding row_answer sizes_at
loop-i-init c = refl

pub length_of-requires : goal.length_of-requires
length_of-requires c =
    let p = c.args.pattern in
    subst RowSized (sym (read (goal.at.length_of-requires c).After-row_element))
    (good_sized p.values.now (row_element (concat p.rows.now) c.loop-i.i) (p.ready.good.good c.loop-i.i c.loop-i-test.true))

pub loop-i-preserved : goal.loop-i-preserved
loop-i-preserved c =
    let s = c.loop-i in
    let p = c.args.pattern in
    let told = c.length_of.ensures.0 ∙ ap size_of (read (goal.at.loop-i-preserved c).After-row_element) in
    let few = p.ready.good.few in
    ap (λ (l : List ℕ). set l (4 + s.i) c.length_of.result) s.invariant
    ∙ row-filled (concat p.rows.now) s.i c.length_of.result (omega (arith, few, c.loop-i-test.true)) told

pub returns : goal.returns
returns c =
    let s = c.loop-i in
    let rows = c.args.pattern.rows.now in
    let e : s.i ≡ length rows = omega arith in
    s.invariant ∙ ap (λ (i : ℕ). row_answer i (0 ∷ sizes_at (concat rows) i 0)) e
