-- `window_calls::highest_price` meets its contract.
use Rattle.std.proofs.Common.{sym, ap, ◌∙◌}
use Rattle.std.specs.Option.{unwrap_or}
use Rattle.std.proofs.lemmas.Iterator.Adapters.{option_map_id}
use Rattle.std.proofs.lemmas.Iterator.{YieldsList-from_slice}
use Rattle.std.proofs.lemmas.Iterator.Consumers.{YieldsList-from_copied, max_from_yields_List}
use Rattle.window.specs.Prices.{highest_price}
use Rattle.window_calls.proofs.highest_price.Goals as goal

pub returns : goal.returns
unfolding highest_price
returns c =
    let found = max_from_yields_List c.copied.result c.max.result c.max.ensures.ran (YieldsList-from_copied (YieldsList-from_slice c.args.prices.now cc)) in
    c.unwrap_or.ensures ∙ ap (λ p. unwrap_or p 0) (sym (option_map_id c.max.result) ∙ found)
