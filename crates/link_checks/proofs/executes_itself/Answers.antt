-- `link_checks::executes_itself` goes over the routines.
use Rattle.std.proofs.Common.{◌∙◌, ap, refl, rules, arith}
use Rattle.std.proofs.lemmas.Iterator.{YieldsList-from_range}
use Rattle.std.proofs.lemmas.Iterator.Search.{any_from_yields_List}
use Rattle.link_checks.proofs.Reached.{back_at, pairs_12}
use Rattle.link_checks.proofs.Slices.{range_below}
use Rattle.link_checks.specs.Below.{below}
use Rattle.link_checks.proofs.executes_itself.Goals as goal

pub returns : goal.returns
returns c =
    let pairs = c.executed_pairs-executed.result in
    let count = c.len-count.result in
    λ none.
    any_from_yields_List (back_at pairs count) _ _ c.any.result c.any.ensures.ran (YieldsList-from_range 0 count count refl (omega arith))
    (λ x b q k. search rules)
    ∙ range_below (back_at pairs count) count
    ∙ ap (λ n. below (back_at pairs n) n) c.len-count.ensures.value
    ∙ pairs_12 c.args.symbols.now pairs c.executed_pairs-executed.ensures (omega arith) none
