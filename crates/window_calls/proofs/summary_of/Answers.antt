-- `window_calls::summary_of` meets its contract.
use Rattle.std.proofs.Common.{refl}
use Rattle.window.specs.Prices.{summary_of}
use Rattle.window_calls.proofs.summary_of.Goals as goal

pub returns : goal.returns
unfolding summary_of
returns c = rw (c.lowest_price.ensures, c.highest_price.ensures, c.sum_of.ensures) refl
