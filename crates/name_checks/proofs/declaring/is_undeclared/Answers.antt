-- `declaring::is_undeclared` tests each entry.
use Rattle.std.proofs.Common.{◌∙◌, rules}
use Rattle.std.proofs.lemmas.Iterator.{YieldsList-from_slice, YieldsList-from_zip}
use Rattle.std.proofs.lemmas.Iterator.Search.{any_from_yields_List}
use Rattle.base.specs.Lists.{any}
use Rattle.symbols.specs.Entries.{used_by}
use Rattle.name_checks.specs.Declaring.{undeclared_in}
use Rattle.name_checks.specs.LoopLaws.{any_all}
use Rattle.name_checks.specs.PairLaws.{paired}
use Rattle.name_checks.proofs.declaring.is_undeclared.Goals as goal

pub returns : goal.returns
returns c =
    let a = c.args in
    let m = a.entries in
    let lacks = undeclared_in a.known.now in
    any_from_yields_List (λ p. any lacks (used_by (paired p))) c.any.new.self _ c.any.result c.any.ensures.ran
    (YieldsList-from_zip (YieldsList-from_slice m.keys.now cc) (YieldsList-from_slice m.tags.now cc)) (λ x b q k. search rules)
    ∙ any_all lacks used_by m
