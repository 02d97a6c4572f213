-- `store::cell_keeps` meets its contract.
use Prim.Native.Nat.{◌<◌}
use mathlib.Core.Path.{sym, ◌∙◌}
use Rattle.std.specs.Prelude.{get_or}
use Rattle.store.specs.CellLaws.{cell_long, cell-zeros}
use borrow.Author.Rules.{rules}
use native.Mathlib.Omega.{arith}
use Rattle.store.proofs.cell_keeps.Goals as goal

pub returns-then-n-gt-LONGEST : goal.returns-then-n-gt-LONGEST
returns-then-n-gt-LONGEST c =
    let a = c.args in
    sym (cell_long a.store.now a.at (search rules) (omega (arith, c.number2-n.ensures.0)))

pub returns : goal.returns
returns c =
    let a = c.args in
    let low : get_or a.store.now a.at 0 < 256 = search rules in
    c.are_zero.ensures
    ∙ cell-zeros a.store.now a.at c.number2-n.result low c.number2-n.ensures.0 c.if-n-gt-LONGEST.false
