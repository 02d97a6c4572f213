-- `window_calls::read_prices` meets its contract. The loop's invariant: the prices before number k are read.
use Rattle.std.proofs.Common.{arith, ◌+◌, sym, ap, ◌∙◌, subst}
use Rattle.std.specs.Prelude.{cond, Some, None}
use Rattle.window_calls.specs.Reading.{prices_of}
use Rattle.window_calls.specs.ReadLaws.{PricesReadTo, prices_then, read_small, read_none, read_zero, read_bad, read_more, read_all}
use Rattle.window_calls.proofs.read_prices.Goals as goal

pub returns-then-window-lt-SIZE : goal.returns-then-window-lt-SIZE
returns-then-window-lt-SIZE c = sym (read_small c.args.window.now c.if-window-lt-SIZE.true)

pub loop-k-init : goal.loop-k-init
loop-k-init c =
    let window = c.args.window.now in
    subst (PricesReadTo window 0) (sym c.new-prices.ensures) (read_none window c.if-window-lt-SIZE.false)

pub returns-then-price-eq0 : goal.returns-then-price-eq0
returns-then-price-eq0 c =
    let l = c.loop-k in
    ap prices_of c.then_some.ensures
    ∙ prices_then c.are_zero.result l.prices
    ∙ ap (λ t. cond t (Some l.prices.items) None) c.are_zero.ensures
    ∙ sym (read_zero c.args.window.now l.k l.prices.items l.invariant c.loop-k-test.true c.number8-price.result c.number8-price.ensures c.if-price-eq0.true)

pub returns-then-not-price_in_range : goal.returns-then-not-price_in_range
returns-then-not-price_in_range c =
    let l = c.loop-k in
    sym (read_bad c.args.window.now l.k l.prices.items l.invariant c.loop-k-test.true c.number8-price.result c.number8-price.ensures c.if-price-eq0.false
    (sym c.price_in_range.ensures ∙ c.if-not-price_in_range.true))

pub loop-k-preserved : goal.loop-k-preserved
loop-k-preserved c =
    let l = c.loop-k in
    let window = c.args.window.now in
    subst (PricesReadTo window (l.k + 1)) (sym c.push.ensures.items)
    (read_more window l.k l.prices.items l.invariant c.loop-k-test.true c.number8-price.result c.number8-price.ensures
    (sym c.price_in_range.ensures ∙ c.if-not-price_in_range.false))

pub returns : goal.returns
returns c =
    let l = c.loop-k in
    sym (read_all c.args.window.now l.k l.prices.items l.invariant (omega (arith, l.auto.k-end, c.loop-k-test.false)))
