-- `window_calls::write_prices` meets its contract. The loop's invariant: the prices before this one stand at the front.
use Rattle.std.proofs.Common.{◌≡◌, ◌*◌, take}
use Rattle.encoding.specs.Splices.{splice}
use Rattle.window.specs.Window.{numbers_image}
use Rattle.window_calls.proofs.write_prices.Given as goal

abbrev pub invariant-loop-price : goal.invariant-loop-price
invariant-loop-price l = (l.at ≡ 8 * l.price-index) × (l.window ≡ splice l.initial.window 0 (numbers_image (take l.price-index l.prices.items)))
