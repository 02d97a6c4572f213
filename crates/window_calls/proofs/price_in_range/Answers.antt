-- `window_calls::price_in_range` meets its contract.
use Rattle.std.proofs.Common.{rules, ◌≡◌, ◌&&◌, leb}
use Rattle.cards.specs.Bytes.{between}
use Rattle.window.specs.Prices.{price_in_range}
use Rattle.window_calls.proofs.price_in_range.Goals as goal

pub returns : goal.returns
unfolding price_in_range between
returns c =
    let is : c.contains.result ≡ (leb 1 c.args.price && leb c.args.price 999_999) = search rules in
    is
