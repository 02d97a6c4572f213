-- `search::hit` finds each place where both bytes stand.
use Rattle.std.proofs.Common.{rules, ◌&&◌, ◌||◌, false, sym, ◌∙◌}
use Rattle.std.proofs.lemmas.Iterator.{YieldsList-from_slice, YieldsList-from_zip}
use Rattle.std.proofs.lemmas.Iterator.Consumers.{fold_from_yields_List}
use lib.Dec.{eqb}
use Rattle.search.proofs.Laws.{hit_none}
use Rattle.search.proofs.hit.Goals as goal

pub returns : goal.returns
returns c =
    let a = c.args in
    let told =
    fold_from_yields_List _ (λ found p. found || (eqb p.0 a.first && eqb p.1 a.second)) false c.fold.result c.fold.ensures.ran
    (YieldsList-from_zip (YieldsList-from_slice a.fronts.now cc) (YieldsList-from_slice a.backs.now cc)) (λ t x b q k. search rules) in
    λ none. (hit_none a.fronts.now a.backs.now a.first a.second false c.requires (sym told ∙ none)).1
