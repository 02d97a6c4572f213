-- The window in the first 256 bytes of a buffer: 32 numbers of eight bytes, low byte first. The prices held stand in order of arrival, zeros behind
-- them. W13.1 "a window of 256 lent bytes"; W2.6 "such a buffer's layout is the team's, with written rules; all zeros is the empty one". The same in
-- words: docs/WINDOW.md. Assumes nothing.
use Rattle.std.specs.Prelude.{Bool, not, ◌&&◌, List, [], ◌∷◌, ◌++◌, ℕ, zero, suc, ◌+◌, ◌*◌, ◌-◌, leb, length, drop, replicate}
use Rattle.std.specs.List.{take_while}
use Rattle.base.specs.Lists.{all, is_zero}
use Rattle.encoding.specs.Numerals.{in_bytes, numeral_at}
use Rattle.window.specs.Prices.{Prices, price_in_range, most_prices}

abbrev pub window_size : ℕ
window_size = 256

-- the bytes that a price stands in
abbrev pub price_size : ℕ
price_size = 8

-- Writing: numbers one behind the other; and a window's bytes, its prices and zeros.
unfoldable pub numbers_image : (numbers : List ℕ) → List ℕ
numbers_image [] = []
numbers_image (n ∷ numbers) = in_bytes price_size n ++ numbers_image numbers

unfoldable pub window_image : Prices → List ℕ
window_image prices = numbers_image prices ++ replicate (price_size * (most_prices - length prices)) 0

-- Reading: so many numbers from a place on, and those of a window; its prices are the numbers before the first zero.
unfoldable pub numbers_from : (count : ℕ) (window : List ℕ) (at : ℕ) → List ℕ
numbers_from zero window at = []
numbers_from (suc n) window at = numeral_at price_size window at ∷ numbers_from n window (at + price_size)

abbrev pub window_numbers : (window : List ℕ) → List ℕ
window_numbers window = numbers_from most_prices window 0

unfoldable pub before_zero : (numbers : List ℕ) → List ℕ
before_zero numbers = take_while (λ n. not (is_zero n)) numbers

unfoldable pub prices_in : (window : List ℕ) → Prices
prices_in window = before_zero (window_numbers window)

-- The rules. 1: the numbers before the first zero are prices in range. 2: from it on all are zero.
unfoldable pub sound_numbers : (numbers : List ℕ) → Bool
sound_numbers numbers = all price_in_range (before_zero numbers) && all is_zero (drop (length (before_zero numbers)) numbers)

-- W13.4 not "A window under 256 bytes or against its written rules". That its elements are bytes is a premise of WindowLaws: read-image and of
-- CallLaws: keeps_history, and of nothing else
unfoldable pub window_keeps : (window : List ℕ) → Bool
window_keeps window = leb window_size (length window) && sound_numbers (window_numbers window)
