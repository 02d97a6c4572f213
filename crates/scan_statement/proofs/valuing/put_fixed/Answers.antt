-- `valuing::put_fixed` meets its contract: the length is negative, or it is not.
use native.Mathlib.Omega.{arith}
use Rattle.scan_statement.specs.Putting.{RowSmall}
use Rattle.scan_statement.specs.ElementLaws.{fixed_natural, fixed_negative}
use Rattle.scan_statement.proofs.valuing.put_fixed.Goals as goal

pub put_row_of-requires-clause-small : goal.put_row_of-requires-clause-small
unfolding RowSmall
put_row_of-requires-clause-small c = (omega arith, omega arith)

pub put_row_of-requires-2-clause-small : goal.put_row_of-requires-2-clause-small
unfolding RowSmall
put_row_of-requires-2-clause-small c = omega (arith, c.in-Some.ensures.1, c.requires.range)

pub returns-in_default : goal.returns-in_default
returns-in_default c =
    let a = c.args in
    λ values.
    fixed_negative values a.rows.now c.put_row_of.new.rows a.names.now a.i a.place a.z.value c.in_default.ensures c.put_row_of.ensures

pub returns : goal.returns
returns c =
    let a = c.args in
    let natural = c.in-Some.ensures in
    λ values.
    fixed_natural values a.rows.now c.put_row_of-2.new.rows a.names.now a.i a.place a.z.value c.in-Some.length natural.0 natural.1
    (omega (arith, natural.1, c.requires.range)) c.requires.known c.put_row_of-2.ensures
