-- `declaring::is_twice` asks of each entry whether it declares a name again.
use Rattle.std.proofs.Common.{◌∙◌, refl, rules, arith}
use Rattle.std.proofs.lemmas.Iterator.{YieldsList-from_range}
use Rattle.std.proofs.lemmas.Iterator.Search.{any_from_yields_List}
use Rattle.name_checks.specs.Declaring.{declared_in, again_at}
use Rattle.name_checks.specs.Shown.{entry_count}
use Rattle.name_checks.specs.LoopLaws.{again_all}
use Rattle.name_checks.proofs.declaring.is_twice.Goals as goal

pub returns : goal.returns
returns c =
    let a = c.args in
    let m = a.entries in
    let before = declared_in a.known.now in
    any_from_yields_List (again_at before m) _ _ c.any.result c.any.ensures.ran
    (YieldsList-from_range 0 (entry_count m) (entry_count m) refl (omega arith)) (λ x b q k. search rules)
    ∙ again_all before m
