-- `valuing::put_string` meets its contract: the string is longer than any reference, or its bytes are those of its row.
use native.Mathlib.Omega.{arith}
use Rattle.scan_statement.specs.Putting.{RowSmall}
use Rattle.scan_statement.specs.PatternLaws.{row_long, row-string}
use Rattle.scan_statement.proofs.valuing.put_string.Goals as goal

pub put_row_of-requires-clause-small : goal.put_row_of-requires-clause-small
unfolding RowSmall
put_row_of-requires-clause-small c = omega (arith, c.requires.short)

pub put_row_of-requires-2-clause-small : goal.put_row_of-requires-2-clause-small
unfolding RowSmall
put_row_of-requires-2-clause-small c = (omega (arith, c.requires.few), omega (arith, c.requires.few, c.if-n-gt-LONGEST.false))

pub returns-then-n-gt-LONGEST : goal.returns-then-n-gt-LONGEST
returns-then-n-gt-LONGEST c =
    let a = c.args in
    λ values left w stands.
    row_long values a.rows.now c.put_row_of.new.rows a.i a.n c.requires left w stands c.if-n-gt-LONGEST.true c.put_row_of.ensures

pub returns : goal.returns
returns c =
    let a = c.args in
    λ values left w stands.
    row-string values a.rows.now c.put_row_of-2.new.rows a.i a.n c.requires left w stands c.if-n-gt-LONGEST.false c.put_row_of-2.ensures
