-- `window_calls::take_price` meets its contract.
use Rattle.std.proofs.Common.{arith, ◌≡◌, ◌-◌, length, drop, ap, ◌∙◌}
use Rattle.window.specs.Prices.{with_price, last_prices}
use Rattle.window_calls.proofs.take_price.Goals as goal

pub returns-then-len-gt-PRICES : goal.returns-then-len-gt-PRICES
unfolding with_price last_prices
returns-then-len-gt-PRICES c =
    let prices = c.push.new.self.items in
    let one : 1 ≡ length prices - 32 = omega (arith, c.push.ensures.len, c.requires, c.len.ensures.value, c.if-len-gt-PRICES.true) in
    c.remove.ensures.items ∙ ap (λ n. drop n prices) one ∙ ap (λ l. drop (length l - 32) l) c.push.ensures.items

pub returns-else-len-gt-PRICES : goal.returns-else-len-gt-PRICES
unfolding with_price last_prices
returns-else-len-gt-PRICES c =
    let prices = c.push.new.self.items in
    let none : 0 ≡ length prices - 32 = omega (arith, c.len.ensures.value, c.if-len-gt-PRICES.false) in
    ap (λ n. drop n prices) none ∙ ap (λ l. drop (length l - 32) l) c.push.ensures.items
