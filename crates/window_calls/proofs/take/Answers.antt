-- `window_calls::take` meets its contract: what was read first, then the price.
use Rattle.std.proofs.Common.{ℕ, List, [], ◌∷◌, ◌++◌, Result, ok_or, ◌≡◌, sym, ap, ap₂, ◌∙◌, length, arith}
use Rattle.std.proofs.lemmas.Result.{err_from_is_err_and}
use Rattle.std.specs.List.{sum}
use Rattle.arrayvec.specs.ArrayVec.{ArrayVec}
use Rattle.window.specs.CallLaws.{take_broken, take_refused, take_does}
use Rattle.window.specs.Calls.{price_turned_down, price_taken, window_with}
use Rattle.window.specs.Claims.{take_back}
use Rattle.window.specs.PriceLaws.{with_holdable, last_length, sum_bound}
use Rattle.window.specs.Prices.{four_zeros, summary_of, with_price}
use Rattle.window.specs.Refusals.{number_of}
use Rattle.window.specs.declared.Refusal.{Refusal}
use Rattle.window.specs.declared.Refusal.TheVariants.{BadWindow}
use Rattle.window.specs.Window.{prices_in}
use Rattle.window.specs.WindowLaws.{keeps_size}
use Rattle.window_calls.specs.ReadLaws.{read_held, read_broken}
use Rattle.window_calls.proofs.take.Goals as goal

pub returns-in_err-prices : goal.returns-in_err-prices
unfolding price_turned_down
returns-in_err-prices c =
    let a = c.args in
    let e = c.in_err-prices.ensures in
    let p = err_from_is_err_and c.from_residual.result c.from_residual.ensures.1 in
    rw (p.1, p.2)
    (ap (λ (r : Result (ArrayVec ℕ) Refusal). take_back (number_of r) four_zeros a.window.now) (e.value ∙ ap (λ h. ok_or h BadWindow) e.ok_part)
    ∙ sym (take_broken a.window.now a.price (read_broken a.window.now c.read_prices.result c.read_prices.ensures e.ok_part)))

pub returns-then-not-price_in_range : goal.returns-then-not-price_in_range
unfolding price_turned_down
returns-then-not-price_in_range c =
    let a = c.args in
    let h = read_held a.window.now c.read_prices.result c.read_prices.ensures c.in_ok-prices.prices c.in_ok-prices.ensures.ok_part in
    sym (take_refused a.window.now a.price h.keeps (sym c.if-not-price_in_range.ensures))

pub take_price-requires : goal.take_price-requires
take_price-requires c =
    (read_held c.args.window.now c.read_prices.result c.read_prices.ensures c.in_ok-prices.prices c.in_ok-prices.ensures.ok_part).can.few

pub write_prices-requires : goal.write_prices-requires
unfolding with_price
write_prices-requires c =
    let a = c.args in
    let h = read_held a.window.now c.read_prices.result c.read_prices.ensures c.in_ok-prices.prices c.in_ok-prices.ensures.ok_part in
    record {
      size = keeps_size a.window.now h.keeps;
      few = omega (arith, last_length (c.in_ok-prices.prices.items ++ (a.price ∷ [])), ap length c.take_price.ensures);
    }

pub summary_of-requires : goal.summary_of-requires
summary_of-requires c =
    let a = c.args in
    let h = read_held a.window.now c.read_prices.result c.read_prices.ensures c.in_ok-prices.prices c.in_ok-prices.ensures.ok_part in
    let can = with_holdable c.in_ok-prices.prices.items a.price h.can (sym c.if-not-price_in_range.ensures) in
    omega (arith, sum_bound (with_price c.in_ok-prices.prices.items a.price) can, ap sum (c.as_slice.ensures.value ∙ c.take_price.ensures))

pub returns : goal.returns
unfolding price_taken
returns c =
    let a = c.args in
    let h = read_held a.window.now c.read_prices.result c.read_prices.ensures c.in_ok-prices.prices c.in_ok-prices.ensures.ok_part in
    let held : c.take_price.new.prices.items ≡ with_price (prices_in a.window.now) a.price =
    c.take_price.ensures ∙ ap (λ (l : List ℕ). with_price l a.price) h.are in
    ap₂ (take_back 0) (c.summary_of.ensures ∙ ap summary_of (c.as_slice.ensures.value ∙ held))
    (c.write_prices.ensures ∙ ap (window_with a.window.now) held)
    ∙ sym (take_does a.window.now a.price h.keeps (sym c.if-not-price_in_range.ensures))
