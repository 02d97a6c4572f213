-- `verifier::kinds::item_end` meets its contract.
use native.Mathlib.Omega.{arith}
use mathlib.Core.Path.{sym, ◌∙◌, ap}
use Prim.Native.Nat.{ℕ, ◌+◌, ◌-◌}
use Rattle.std.specs.Prelude.{Some}
use Rattle.encoding.specs.Meaning.{cell_meaning}
use Rattle.verifier.specs.Turns.{item_other, item_few, item_many, item_holds_lem}
use Rattle.verifier.proofs.kinds.item_end.Goals as goal

pub returns-then-not-cell_holds-clause-is : goal.returns-then-not-cell_holds-clause-is
returns-then-not-cell_holds-clause-is c =
    let a = c.args in
    sym (item_other a.n.strings a.n.numbers a.n.steps a.known (cell_meaning a.c) (sym c.cell_holds.ensures ∙ c.if-not-cell_holds.true))

pub returns-then-known-used-clause-is : goal.returns-then-known-used-clause-is
returns-then-known-used-clause-is c =
    let a = c.args in
    sym (item_few a.n.strings a.n.numbers a.n.steps a.known (cell_meaning a.c) (omega (arith, c.item_used-used.ensures.0, c.if-known-used.true)))

pub returns-then-left-gt-WAITING-clause-is : goal.returns-then-left-gt-WAITING-clause-is
returns-then-left-gt-WAITING-clause-is c =
    let a = c.args in
    sym (item_many a.n.strings a.n.numbers a.n.steps a.known (cell_meaning a.c) (omega (arith, c.item_used-used.ensures.0, c.if-left-gt-WAITING.true)))

pub returns-clause-is : goal.returns-clause-is
returns-clause-is c =
    let a = c.args in
    let holds = sym c.cell_holds.ensures ∙ c.if-not-cell_holds.false in
    let taken = c.item_used-used.ensures.0 in
    ap (λ (u : ℕ). Some (a.known + 1 - u)) taken
    ∙ sym (item_holds_lem a.n.strings a.n.numbers a.n.steps a.known (cell_meaning a.c) holds (omega (arith, taken, c.if-known-used.false))
    (omega (arith, taken, c.if-left-gt-WAITING.false)))
