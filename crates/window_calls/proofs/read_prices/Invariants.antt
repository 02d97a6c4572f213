-- `window_calls::read_prices` meets its contract. The loop's invariant: the prices before number k are read.
use Rattle.window_calls.specs.ReadLaws.{PricesReadTo}
use Rattle.window_calls.proofs.read_prices.Given as goal

abbrev pub invariant-loop-k : goal.invariant-loop-k
invariant-loop-k l = PricesReadTo l.window l.k l.prices.items
