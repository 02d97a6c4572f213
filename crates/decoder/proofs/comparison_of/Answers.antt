-- `decoder::comparison_of` meets its contract.
use borrow.Author.Rules.{rules}
use borrow.Author.Tests.{ne_eqb}
use Rattle.encoding.specs.TableReading.{comparison_of}
use Rattle.decoder.proofs.comparison_of.Goals as goal

pub returns-in-1 : goal.returns-in-1
unfolding comparison_of
returns-in-1 c = rw c.in-1.is

pub returns-in-2 : goal.returns-in-2
unfolding comparison_of
returns-in-2 c = rw c.in-2.is

pub returns-in-3 : goal.returns-in-3
unfolding comparison_of
returns-in-3 c = rw c.in-3.is

pub returns-in-4 : goal.returns-in-4
unfolding comparison_of
returns-in-4 c = rw c.in-4.is

pub returns-in-5 : goal.returns-in-5
unfolding comparison_of
returns-in-5 c = rw c.in-5.is

pub returns-in_default : goal.returns-in_default
unfolding comparison_of
returns-in_default c =
    let flag = c.args.flag in
    rw (
      ne_eqb flag 1 (search rules),
      ne_eqb flag 2 (search rules),
      ne_eqb flag 3 (search rules),
      ne_eqb flag 4 (search rules),
      ne_eqb flag 5 (search rules),
    )
