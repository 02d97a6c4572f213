-- `verifier::steps::rule_of` meets its contract.
use borrow.Author.Rules.{rules}
use borrow.Author.Tests.{ne_eqb}
use mathlib.Core.Path.{sym, ap}
use Rattle.base.specs.Lists.{all}
use Rattle.encoding.specs.KindLaws.{row_in}
use Rattle.encoding.specs.Kinds.{row_kinds}
use Rattle.verifier.specs.Asked.{row_asked, no_row_kind, flag_meaning, steps_meaning, left_meaning, right_meaning, row_rule_asks}
use Rattle.verifier.proofs.steps.rule_of.Goals as goal

pub returns-in-16 : goal.returns-in-16
unfolding row_asked row_in row_kinds flag_meaning steps_meaning left_meaning right_meaning row_rule_asks
returns-in-16 c = ap row_asked (sym c.in-16.is)

pub returns-in-17 : goal.returns-in-17
unfolding row_asked row_in row_kinds flag_meaning steps_meaning left_meaning right_meaning row_rule_asks
returns-in-17 c = ap row_asked (sym c.in-17.is)

pub returns-in-32 : goal.returns-in-32
unfolding row_asked row_in row_kinds flag_meaning steps_meaning left_meaning right_meaning row_rule_asks
returns-in-32 c = ap row_asked (sym c.in-32.is)

pub returns-in-33 : goal.returns-in-33
unfolding row_asked row_in row_kinds flag_meaning steps_meaning left_meaning right_meaning row_rule_asks
returns-in-33 c = ap row_asked (sym c.in-33.is)

pub returns-in-34 : goal.returns-in-34
unfolding row_asked row_in row_kinds flag_meaning steps_meaning left_meaning right_meaning row_rule_asks
returns-in-34 c = ap row_asked (sym c.in-34.is)

pub returns-in-35 : goal.returns-in-35
unfolding row_asked row_in row_kinds flag_meaning steps_meaning left_meaning right_meaning row_rule_asks
returns-in-35 c = ap row_asked (sym c.in-35.is)

pub returns-in-48 : goal.returns-in-48
unfolding row_asked row_in row_kinds flag_meaning steps_meaning left_meaning right_meaning row_rule_asks
returns-in-48 c = ap row_asked (sym c.in-48.is)

pub returns-in-49 : goal.returns-in-49
unfolding row_asked row_in row_kinds flag_meaning steps_meaning left_meaning right_meaning row_rule_asks
returns-in-49 c = ap row_asked (sym c.in-49.is)

pub returns-in-50 : goal.returns-in-50
unfolding row_asked row_in row_kinds flag_meaning steps_meaning left_meaning right_meaning row_rule_asks
returns-in-50 c = ap row_asked (sym c.in-50.is)

pub returns-in-64 : goal.returns-in-64
unfolding row_asked row_in row_kinds flag_meaning steps_meaning left_meaning right_meaning row_rule_asks
returns-in-64 c = ap row_asked (sym c.in-64.is)

pub returns-in-65 : goal.returns-in-65
unfolding row_asked row_in row_kinds flag_meaning steps_meaning left_meaning right_meaning row_rule_asks
returns-in-65 c = ap row_asked (sym c.in-65.is)

pub returns-in-80 : goal.returns-in-80
unfolding row_asked row_in row_kinds flag_meaning steps_meaning left_meaning right_meaning row_rule_asks
returns-in-80 c = ap row_asked (sym c.in-80.is)

pub returns-in-81 : goal.returns-in-81
unfolding row_asked row_in row_kinds flag_meaning steps_meaning left_meaning right_meaning row_rule_asks
returns-in-81 c = ap row_asked (sym c.in-81.is)

pub returns-in_default : goal.returns-in_default
unfolding row_kinds all
returns-in_default c =
    let kind = c.args.kind in
    no_row_kind kind (rw (
      ne_eqb kind 16 (search rules),
      ne_eqb kind 17 (search rules),
      ne_eqb kind 32 (search rules),
      ne_eqb kind 33 (search rules),
      ne_eqb kind 34 (search rules),
      ne_eqb kind 35 (search rules),
      ne_eqb kind 48 (search rules),
      ne_eqb kind 49 (search rules),
      ne_eqb kind 50 (search rules),
      ne_eqb kind 64 (search rules),
      ne_eqb kind 65 (search rules),
      ne_eqb kind 80 (search rules),
      ne_eqb kind 81 (search rules),
    ))
