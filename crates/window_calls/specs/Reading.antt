-- What the code says of a window that it read. Assumes nothing.
use Rattle.std.specs.Prelude.{cond, List, ℕ, Option, Some, None}
use Rattle.arrayvec.specs.ArrayVec.{ArrayVec}
use Rattle.window.specs.Prices.{Prices}
use Rattle.window.specs.Window.{prices_in, window_keeps}

-- the prices in a window; none where it is too small or against the rules
unfoldable pub held_prices : (window : List ℕ) → Option Prices
held_prices window = cond (window_keeps window) (Some (prices_in window)) None

-- what was read, as a list
abbrev pub prices_of : Option (ArrayVec ℕ) → Option Prices
prices_of (Some prices) = Some prices.items
prices_of None = None
