-- `names::enter_name` puts a name behind those known.
use Rattle.std.proofs.Common.{sym, ◌∙◌, get_or, arith}
use Rattle.symbols.specs.declared.tags.Purpose.TheVariants.{Program}
use Rattle.symbols.specs.Holding.{names_in}
use Rattle.name_checks.specs.EnteringLaws.{enters-known, enters-other, enters_new}
use Rattle.name_checks.specs.LoopLaws.{stands_not, stands_same, stands_other}
use Rattle.name_checks.proofs.Comparing.{purposes_same}
use Rattle.name_checks.proofs.names.enter_name.Goals as goal

pub returns-in-None : goal.returns-in-None
unfolding names_in
returns-in-None c =
    let a = c.args in
    let names = a.names.now in
    enters_new names a.key a.purpose (omega arith) (omega arith)
    (stands_not names.keys names.purposes names.count a.key a.purpose (omega arith) (sym c.place.ensures ∙ c.in-None.is))

pub returns-then-eq : goal.returns-then-eq
unfolding names_in
returns-then-eq c =
    let a = c.args in
    let names = a.names.now in
    enters-known names a.key a.purpose
    (stands_same names.keys names.purposes names.count a.key a.purpose (omega arith) c.in-Some.i (sym c.place.ensures ∙ c.in-Some.is)
    (sym (purposes_same a.purpose (get_or names.purposes c.in-Some.i Program)) ∙ sym c.eq.ensures ∙ c.if-eq.true))

pub returns-else-eq : goal.returns-else-eq
unfolding names_in
returns-else-eq c =
    let a = c.args in
    let names = a.names.now in
    enters-other names a.key a.purpose
    (stands_other names.keys names.purposes names.count a.key a.purpose (omega arith) c.in-Some.i (sym c.place.ensures ∙ c.in-Some.is)
    (sym (purposes_same a.purpose (get_or names.purposes c.in-Some.i Program)) ∙ sym c.eq.ensures ∙ c.if-eq.false))
