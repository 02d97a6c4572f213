-- `decoder::operator_of` meets its contract.
use borrow.Author.Rules.{rules}
use borrow.Author.Tests.{ne_eqb}
use Rattle.decoder.specs.Reading.{operator_of_kind}
use Rattle.decoder.proofs.operator_of.Goals as goal

pub returns-in-16 : goal.returns-in-16
unfolding operator_of_kind
returns-in-16 c = rw c.in-16.is

pub returns-in-17 : goal.returns-in-17
unfolding operator_of_kind
returns-in-17 c = rw c.in-17.is

pub returns-in-18 : goal.returns-in-18
unfolding operator_of_kind
returns-in-18 c = rw c.in-18.is

pub returns-in_default : goal.returns-in_default
unfolding operator_of_kind
returns-in_default c =
    let kind = c.args.kind in
    rw (ne_eqb kind 16 (search rules), ne_eqb kind 17 (search rules), ne_eqb kind 18 (search rules))
