-- `verifier::kinds::rule_of` meets its contract.
use borrow.Author.Rules.{rules}
use borrow.Author.Tests.{ne_eqb}
use mathlib.Core.Path.{sym, ap}
use Rattle.verifier.specs.Asked.{cell_asked, no_cell_kind, place_meaning, value_meaning, cell_rule_asks}
use Rattle.verifier.specs.Classes.{computed}
use Rattle.verifier.proofs.kinds.rule_of.Goals as goal

pub returns-in-0 : goal.returns-in-0
unfolding computed place_meaning value_meaning cell_rule_asks
returns-in-0 c = ap cell_asked (sym c.in-0.is)

pub returns-in-16 : goal.returns-in-16
unfolding computed place_meaning value_meaning cell_rule_asks
returns-in-16 c = ap cell_asked (sym c.in-16.is)

pub returns-in-17 : goal.returns-in-17
unfolding computed place_meaning value_meaning cell_rule_asks
returns-in-17 c = ap cell_asked (sym c.in-17.is)

pub returns-in-18 : goal.returns-in-18
unfolding computed place_meaning value_meaning cell_rule_asks
returns-in-18 c = ap cell_asked (sym c.in-18.is)

pub returns-in-19 : goal.returns-in-19
unfolding computed place_meaning value_meaning cell_rule_asks
returns-in-19 c = ap cell_asked (sym c.in-19.is)

pub returns-in-24 : goal.returns-in-24
unfolding computed place_meaning value_meaning cell_rule_asks
returns-in-24 c = ap cell_asked (sym c.in-24.is)

pub returns-in-25 : goal.returns-in-25
unfolding computed place_meaning value_meaning cell_rule_asks
returns-in-25 c = ap cell_asked (sym c.in-25.is)

pub returns-in-32 : goal.returns-in-32
unfolding computed place_meaning value_meaning cell_rule_asks
returns-in-32 c = ap cell_asked (sym c.in-32.is)

pub returns-in-33 : goal.returns-in-33
unfolding computed place_meaning value_meaning cell_rule_asks
returns-in-33 c = ap cell_asked (sym c.in-33.is)

pub returns-in-34 : goal.returns-in-34
unfolding computed place_meaning value_meaning cell_rule_asks
returns-in-34 c = ap cell_asked (sym c.in-34.is)

pub returns-in-36 : goal.returns-in-36
unfolding computed place_meaning value_meaning cell_rule_asks
returns-in-36 c = ap cell_asked (sym c.in-36.is)

pub returns-in-37 : goal.returns-in-37
unfolding computed place_meaning value_meaning cell_rule_asks
returns-in-37 c = ap cell_asked (sym c.in-37.is)

pub returns-in-38 : goal.returns-in-38
unfolding computed place_meaning value_meaning cell_rule_asks
returns-in-38 c = ap cell_asked (sym c.in-38.is)

pub returns-in-64 : goal.returns-in-64
unfolding computed place_meaning value_meaning cell_rule_asks
returns-in-64 c = ap cell_asked (sym c.in-64.is)

pub returns-in-65 : goal.returns-in-65
unfolding computed place_meaning value_meaning cell_rule_asks
returns-in-65 c = ap cell_asked (sym c.in-65.is)

pub returns-in-66 : goal.returns-in-66
unfolding computed place_meaning value_meaning cell_rule_asks
returns-in-66 c = ap cell_asked (sym c.in-66.is)

pub returns-in-80 : goal.returns-in-80
unfolding computed place_meaning value_meaning cell_rule_asks
returns-in-80 c = ap cell_asked (sym c.in-80.is)

pub returns-in-81 : goal.returns-in-81
unfolding computed place_meaning value_meaning cell_rule_asks
returns-in-81 c = ap cell_asked (sym c.in-81.is)

pub returns-in-82 : goal.returns-in-82
unfolding computed place_meaning value_meaning cell_rule_asks
returns-in-82 c = ap cell_asked (sym c.in-82.is)

pub returns-in-96 : goal.returns-in-96
unfolding computed place_meaning value_meaning cell_rule_asks
returns-in-96 c = ap cell_asked (sym c.in-96.is)

pub returns-in-97 : goal.returns-in-97
unfolding computed place_meaning value_meaning cell_rule_asks
returns-in-97 c = ap cell_asked (sym c.in-97.is)

pub returns-in-98 : goal.returns-in-98
unfolding computed place_meaning value_meaning cell_rule_asks
returns-in-98 c = ap cell_asked (sym c.in-98.is)

pub returns-in-112 : goal.returns-in-112
unfolding computed place_meaning value_meaning cell_rule_asks
returns-in-112 c = ap cell_asked (sym c.in-112.is)

pub returns-in_default : goal.returns-in_default
unfolding computed
returns-in_default c =
    let kind = c.args.kind in
    no_cell_kind kind (rw (
      ne_eqb kind 16 (search rules),
      ne_eqb kind 17 (search rules),
      ne_eqb kind 18 (search rules),
      ne_eqb kind 19 (search rules),
      ne_eqb kind 24 (search rules),
      ne_eqb kind 25 (search rules),
      ne_eqb kind 32 (search rules),
      ne_eqb kind 33 (search rules),
      ne_eqb kind 34 (search rules),
      ne_eqb kind 36 (search rules),
      ne_eqb kind 37 (search rules),
      ne_eqb kind 38 (search rules),
    )) (rw (
      ne_eqb kind 96 (search rules),
      ne_eqb kind 97 (search rules),
      ne_eqb kind 98 (search rules),
      ne_eqb kind 80 (search rules),
      ne_eqb kind 81 (search rules),
      ne_eqb kind 82 (search rules),
      ne_eqb kind 64 (search rules),
      ne_eqb kind 65 (search rules),
      ne_eqb kind 66 (search rules),
    )) (search rules) (search rules)
