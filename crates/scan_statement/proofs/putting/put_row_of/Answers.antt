-- `putting::put_row_of` writes the kind and the two numbers that an element is.
use mathlib.Core.Path.{ap, subst, ◌∙◌}
use Prim.Native.Nat.{ℕ}
use Rattle.scan.specs.Rows.{scan_row}
use Rattle.scan.specs.declared.Element.{Element}
use Rattle.scan_statement.specs.Putting.{PutRow}
use Rattle.scan_statement.proofs.putting.put_row_of.Goals as goal

pub put_row-requires-clause-a_bound : goal.put_row-requires-clause-a_bound
put_row-requires-clause-a_bound c = (c.row_of-kind.ensures.1, c.row_of-kind.ensures.2)

pub returns : goal.returns
returns c =
    let a = c.args in
    let row = c.row_of-kind in
    subst (λ (x : Element). PutRow a.rows.now c.put_row.new.rows a.i x)
    (ap (λ (k : ℕ). scan_row k row.result.1 row.result.2) c.number.ensures ∙ row.ensures.0) c.put_row.ensures
