-- `numbers::compare` meets its contract. Each case is a law on bits.
use borrow.Author.Rules.{rules}
use lib.Signed.{lt_z, le_z}
use Rattle.machine.specs.Expressions.{compared}
use Rattle.numbers.proofs.Comparisons.{equal_bits, unequal_bits, read_bits}
use Rattle.numbers.proofs.compare.Goals as goal

pub returns-in-Equal : goal.returns-in-Equal
unfolding compared
returns-in-Equal c =
    let a = c.args in
    rw c.in-Equal.is
    (equal_bits a.a.value a.b.value (search rules) (search rules))

pub returns-in-Unequal : goal.returns-in-Unequal
unfolding compared
returns-in-Unequal c =
    let a = c.args in
    rw c.in-Unequal.is
    (unequal_bits a.a.value a.b.value (search rules) (search rules))

pub returns-in-Less : goal.returns-in-Less
unfolding compared
returns-in-Less c =
    let a = c.args in
    rw c.in-Less.is
    (read_bits a.a.value a.b.value (search rules) (search rules) lt_z)

pub returns-in-Greater : goal.returns-in-Greater
unfolding compared
returns-in-Greater c =
    let a = c.args in
    rw c.in-Greater.is
    (read_bits a.b.value a.a.value (search rules) (search rules) lt_z)

pub returns-in-AtMost : goal.returns-in-AtMost
unfolding compared
returns-in-AtMost c =
    let a = c.args in
    rw c.in-AtMost.is
    (read_bits a.a.value a.b.value (search rules) (search rules) le_z)

pub returns-in-AtLeast : goal.returns-in-AtLeast
unfolding compared
returns-in-AtLeast c =
    let a = c.args in
    rw c.in-AtLeast.is
    (read_bits a.b.value a.a.value (search rules) (search rules) le_z)
