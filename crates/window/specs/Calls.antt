-- What the window's calls answer and leave, for every window and price. Assumes nothing.
use Rattle.std.specs.Prelude.{cond, not, List, ◌++◌, ℕ, drop}
use Rattle.window.specs.Prices.{Prices, price_in_range, with_price, summary_of, four_zeros}
use Rattle.window.specs.Window.{window_size, window_image, prices_in, window_keeps}

-- what comes back of a price offered: the number, the four numbers, and the window as it is left
pub record TakeCalled : Type 0 where
  pub number : ℕ
  pub summary : List ℕ
  pub left : List ℕ

-- W2.6 "a call turned down leaves it unchanged"; W13.6 "four zeros"
unfoldable pub price_turned_down : (number : ℕ) (window : List ℕ) → TakeCalled
price_turned_down number window = record { number = number; summary = four_zeros; left = window }

-- W13.1 the window with other prices in its first 256 bytes; what stands behind them stays
unfoldable pub window_with : (window : List ℕ) → Prices → List ℕ
window_with window prices = window_image prices ++ drop window_size window

-- W13.2 "takes each new price and answers count, lowest, highest and sum", those of the prices held then
unfoldable pub price_taken : (window : List ℕ) (price : ℕ) → TakeCalled
price_taken window price =
    let prices = with_price (prices_in window) price in
    record { number = 0; summary = summary_of prices; left = window_with window prices }

-- W13.4 14, before W13.5 25: D1 "A call gives the lowest number that applies"
unfoldable pub take_call : (window : List ℕ) (price : ℕ) → TakeCalled
take_call window price =
    cond (not (window_keeps window)) (price_turned_down 14 window)
    (cond (not (price_in_range price)) (price_turned_down 25 window)
    (price_taken window price))

-- what comes back of asking: the number and the four numbers
pub record AskCalled : Type 0 where
  pub number : ℕ
  pub summary : List ℕ

-- W13.2 the four numbers of the prices held; W13.4 14; W13.6 four zeros with it, and of "an empty window" (CallLaws: empty_asked)
unfoldable pub ask_call : (window : List ℕ) → AskCalled
ask_call window =
    cond (window_keeps window) (record { number = 0; summary = summary_of (prices_in window) }) (record { number = 14; summary = four_zeros })
