-- Prices and what is worked out of them, a price's eight bytes, and the two calls on whole buffers of 256 bytes and a bit more: of 0 to 33 prices,
-- too short, and against each rule at its edge. Assumes nothing.
use Rattle.std.specs.Prelude.{true, false, List, [], ◌∷◌, ◌++◌, map, ◌≡◌, refl, ℕ, zero, suc, replicate}
use Rattle.base.specs.Lists.{all, any}
use Rattle.window.specs.Calls.{take_call, ask_call}
use Rattle.window.specs.Claims.{take_back, ask_back, worked_out}
use Rattle.window.specs.Prices.{Prices, price_in_range, last_prices, with_price, lowest_price, highest_price, summary_of, four_zeros}
use Rattle.window.specs.Window.{numbers_image, window_image, numbers_from, prices_in, sound_numbers}
use Rattle.window_vectors.specs.Everything.{everything}

-- so many zeros
abbrev zeros : ℕ → List ℕ
zeros n = replicate n 0

-- three bytes in the eight of a number, low byte first
abbrev eight : (low middle high : ℕ) → List ℕ
eight low middle high = low ∷ middle ∷ high ∷ 0 ∷ 0 ∷ 0 ∷ 0 ∷ 0 ∷ []

-- the bytes of 1, 500, 999,999, the highest price, and 1,000,000, which is none
abbrev bytes_1 : List ℕ
bytes_1 = eight 1 0 0

abbrev bytes_500 : List ℕ
bytes_500 = eight 244 1 0

abbrev bytes_highest : List ℕ
bytes_highest = eight 63 66 15

abbrev bytes_million : List ℕ
bytes_million = eight 64 66 15

-- so many numbers, each one more than the last and below 256; and their bytes
unfoldable rising : (count first : ℕ) → List ℕ
rising zero first = []
rising (suc n) first = first ∷ rising n (suc first)

unfoldable rising_bytes : (count first : ℕ) → List ℕ
rising_bytes zero first = []
rising_bytes (suc n) first = eight first 0 0 ++ rising_bytes n (suc first)

-- so many times the same bytes
unfoldable times : (count : ℕ) → List ℕ → List ℕ
times zero piece = []
times (suc n) piece = piece ++ times n piece

-- W13.5 "outside 1 to 999,999"
prices_in_range : map price_in_range (1 ∷ 2 ∷ 255 ∷ 256 ∷ 999_998 ∷ 999_999 ∷ []) ≡ replicate 6 true
unfolding everything
prices_in_range = refl

-- nothing, one too much; numbers that are 1 or 5 in their low 8, 16 or 32 bits; the most of 64 bits
prices_out_of_range :
    map price_in_range
    (0 ∷ 1_000_000 ∷ 1_048_577 ∷ 4_294_967_295 ∷ 4_294_967_296 ∷ 4_294_967_301 ∷ 9_223_372_036_854_775_809 ∷ 18_446_744_073_709_551_615 ∷ [])
    ≡ replicate 8 false
unfolding everything
prices_out_of_range = refl

-- W13.3 "the last 32 of that list, or .. all if fewer"
last_of_few : map (λ count. last_prices (rising count 1)) (0 ∷ 1 ∷ 31 ∷ 32 ∷ []) ≡ map (λ count. rising count 1) (0 ∷ 1 ∷ 31 ∷ 32 ∷ [])
unfolding everything rising
last_of_few = refl

last_of_many : map (λ count. last_prices (rising count 1)) (33 ∷ 34 ∷ 64 ∷ 100 ∷ []) ≡ map (rising 32) (2 ∷ 3 ∷ 33 ∷ 69 ∷ [])
unfolding everything rising
last_of_many = refl

-- a price comes in behind the others; the first of 33 leaves
prices_with_one :
    map (λ prices. with_price prices 9) ([] ∷ (5 ∷ 7 ∷ []) ∷ rising 31 10 ∷ [])
    ≡ (9 ∷ []) ∷ (5 ∷ 7 ∷ 9 ∷ []) ∷ (rising 31 10 ++ (9 ∷ [])) ∷ []
unfolding everything rising
prices_with_one = refl

price_pushes : with_price (rising 32 10) 9 ≡ rising 31 11 ++ (9 ∷ [])
unfolding everything rising
price_pushes = refl

-- W13.2 "count, lowest, highest and sum": of none, of one, wherever the lowest and the highest stand, and twice
lowest_found :
    map lowest_price ([] ∷ (7 ∷ []) ∷ (2 ∷ 5 ∷ 9 ∷ []) ∷ (5 ∷ 2 ∷ 9 ∷ []) ∷ (9 ∷ 5 ∷ 2 ∷ []) ∷ (2 ∷ 2 ∷ []) ∷ [])
    ≡ 0 ∷ 7 ∷ 2 ∷ 2 ∷ 2 ∷ 2 ∷ []
unfolding everything
lowest_found = refl

highest_found :
    map highest_price ([] ∷ (7 ∷ []) ∷ (2 ∷ 5 ∷ 9 ∷ []) ∷ (5 ∷ 9 ∷ 2 ∷ []) ∷ (9 ∷ 5 ∷ 2 ∷ []) ∷ (9 ∷ 9 ∷ []) ∷ [])
    ≡ 0 ∷ 7 ∷ 9 ∷ 9 ∷ 9 ∷ 9 ∷ []
unfolding everything
highest_found = refl

summaries :
    map summary_of ([] ∷ (500 ∷ []) ∷ (7 ∷ 50 ∷ 7 ∷ []) ∷ (999_999 ∷ 1 ∷ []) ∷ replicate 32 999_999 ∷ [])
    ≡ four_zeros ∷ (1 ∷ 500 ∷ 500 ∷ 500 ∷ []) ∷ (3 ∷ 7 ∷ 50 ∷ 64 ∷ []) ∷ (2 ∷ 1 ∷ 999_999 ∷ 1_000_000 ∷ [])
    ∷ (32 ∷ 999_999 ∷ 999_999 ∷ 31_999_968 ∷ []) ∷ []
unfolding everything
summaries = refl

-- W13.3 the lowest of all has left, and is found anew; W13.5 a price out of range "counts as not offered"
lowest_left : worked_out (1 ∷ rising 32 10) ≡ 32 ∷ 10 ∷ 41 ∷ 816 ∷ []
unfolding everything rising
lowest_left = refl

not_counted : map worked_out ((0 ∷ 1_000_000 ∷ []) ∷ (0 ∷ 5 ∷ 1_000_000 ∷ 7 ∷ []) ∷ (rising 32 10 ++ (0 ∷ [])) ∷ [])
    ≡ four_zeros ∷ (2 ∷ 5 ∷ 7 ∷ 12 ∷ []) ∷ worked_out (rising 32 10) ∷ []
unfolding everything rising
not_counted = refl

-- W2.6 the layout. Prices in order of arrival, each in eight bytes, low byte first.
prices_written :
    numbers_image (1 ∷ 500 ∷ 999_999 ∷ 256 ∷ [])
    ≡ 1 ∷ 0 ∷ 0 ∷ 0 ∷ 0 ∷ 0 ∷ 0 ∷ 0
    ∷ 244 ∷ 1 ∷ 0 ∷ 0 ∷ 0 ∷ 0 ∷ 0 ∷ 0
    ∷ 63 ∷ 66 ∷ 15 ∷ 0 ∷ 0 ∷ 0 ∷ 0 ∷ 0
    ∷ 0 ∷ 1 ∷ 0 ∷ 0 ∷ 0 ∷ 0 ∷ 0 ∷ 0 ∷ []
unfolding everything
prices_written = refl

-- all eight bytes count
bytes_all_count :
    numbers_from 5
    (1 ∷ 2 ∷ 3 ∷ 4 ∷ 5 ∷ 6 ∷ 7 ∷ 8
    ∷ 244 ∷ 1 ∷ 0 ∷ 0 ∷ 0 ∷ 0 ∷ 0 ∷ 0
    ∷ 0 ∷ 0 ∷ 0 ∷ 0 ∷ 1 ∷ 0 ∷ 0 ∷ 0
    ∷ 0 ∷ 0 ∷ 0 ∷ 0 ∷ 0 ∷ 0 ∷ 0 ∷ 1
    ∷ 255 ∷ 255 ∷ 255 ∷ 255 ∷ 255 ∷ 255 ∷ 255 ∷ 255 ∷ [])
    0
    ≡ 578_437_695_752_307_201 ∷ 500 ∷ 4_294_967_296 ∷ 72_057_594_037_927_936 ∷ 18_446_744_073_709_551_615 ∷ []
unfolding everything
bytes_all_count = refl

-- all zeros is the empty window; zeros stand behind the prices; 32 fill it
windows_written :
    map window_image ([] ∷ (500 ∷ []) ∷ (999_999 ∷ 1 ∷ []) ∷ rising 31 1 ∷ rising 32 1 ∷ [])
    ≡ zeros 256 ∷ (bytes_500 ++ zeros 248) ∷ (bytes_highest ++ (bytes_1 ++ zeros 240)) ∷ (rising_bytes 31 1 ++ zeros 8) ∷ rising_bytes 32 1 ∷ []
unfolding everything rising rising_bytes
windows_written = refl

windows_read :
    map prices_in
    (zeros 256 ∷ (bytes_500 ++ zeros 248) ∷ (bytes_highest ++ (bytes_1 ++ zeros 240)) ∷ (rising_bytes 31 1 ++ zeros 8)
    ∷ (rising_bytes 32 1 ++ bytes_500) ∷ [])
    ≡ [] ∷ (500 ∷ []) ∷ (999_999 ∷ 1 ∷ []) ∷ rising 31 1 ∷ rising 32 1 ∷ []
unfolding everything rising rising_bytes
windows_read = refl

-- The rules on numbers: prices, and zeros alone behind them.
numbers_kept : all sound_numbers ([] ∷ (0 ∷ 0 ∷ []) ∷ (1 ∷ 0 ∷ []) ∷ (999_999 ∷ 1 ∷ []) ∷ (1 ∷ 999_999 ∷ 0 ∷ 0 ∷ []) ∷ []) ≡ true
unfolding everything
numbers_kept = refl

numbers_not_kept :
    any sound_numbers
    ((1_000_000 ∷ []) ∷ (1 ∷ 1_000_000 ∷ 0 ∷ []) ∷ (1_000_000 ∷ 1 ∷ []) ∷ (0 ∷ 1 ∷ []) ∷ (1 ∷ 0 ∷ 1 ∷ []) ∷ (1 ∷ 0 ∷ 0 ∷ 1 ∷ []) ∷ [])
    ≡ false
unfolding everything
numbers_not_kept = refl

-- Prices taken, on whole buffers, with every byte that is left: the first; the second; one equal to it.
first_taken : take_call (zeros 256) 500 ≡ take_back 0 (1 ∷ 500 ∷ 500 ∷ 500 ∷ []) (bytes_500 ++ zeros 248)
unfolding everything
first_taken = refl

second_taken :
    take_call (bytes_500 ++ zeros 248) 999_999 ≡ take_back 0 (2 ∷ 500 ∷ 999_999 ∷ 1_000_499 ∷ []) (bytes_500 ++ (bytes_highest ++ zeros 240))
unfolding everything
second_taken = refl

same_taken : take_call (bytes_500 ++ zeros 248) 500 ≡ take_back 0 (2 ∷ 500 ∷ 500 ∷ 1000 ∷ []) (bytes_500 ++ (bytes_500 ++ zeros 240))
unfolding everything
same_taken = refl

-- the 32nd fills the window; the 33rd pushes the first out, and all move down
last_fills : take_call (rising_bytes 31 1 ++ zeros 8) 32 ≡ take_back 0 (32 ∷ 1 ∷ 32 ∷ 528 ∷ []) (rising_bytes 32 1)
unfolding everything rising_bytes
last_fills = refl

one_more_pushes : take_call (rising_bytes 32 1) 33 ≡ take_back 0 (32 ∷ 2 ∷ 33 ∷ 560 ∷ []) (rising_bytes 32 2)
unfolding everything rising_bytes
one_more_pushes = refl

-- the highest leaves; the lowest leaves, and comes again
highest_leaves : take_call (bytes_highest ++ rising_bytes 31 10) 5 ≡ take_back 0 (32 ∷ 5 ∷ 40 ∷ 780 ∷ []) (rising_bytes 31 10 ++ eight 5 0 0)
unfolding everything rising_bytes
highest_leaves = refl

lowest_again : take_call (bytes_1 ++ times 31 bytes_highest) 1 ≡ take_back 0 (32 ∷ 1 ∷ 999_999 ∷ 30_999_970 ∷ []) (times 31 bytes_highest ++ bytes_1)
unfolding everything times
lowest_again = refl

greatest_sum : take_call (bytes_1 ++ times 31 bytes_highest) 999_999 ≡ take_back 0 (32 ∷ 999_999 ∷ 999_999 ∷ 31_999_968 ∷ []) (times 32 bytes_highest)
unfolding everything times
greatest_sum = refl

-- W13.1 "256 lent bytes": those behind them don't count and stay, whether the price enters, pushes or is turned down
behind_first : take_call (zeros 256 ++ (7 ∷ 0 ∷ 9 ∷ [])) 500 ≡ take_back 0 (1 ∷ 500 ∷ 500 ∷ 500 ∷ []) (bytes_500 ++ (zeros 248 ++ (7 ∷ 0 ∷ 9 ∷ [])))
unfolding everything
behind_first = refl

behind_pushed : take_call (rising_bytes 32 1 ++ bytes_million) 33 ≡ take_back 0 (32 ∷ 2 ∷ 33 ∷ 560 ∷ []) (rising_bytes 32 2 ++ bytes_million)
unfolding everything rising_bytes
behind_pushed = refl

behind_turned_down : take_call (rising_bytes 32 1 ++ bytes_million) 0 ≡ take_back 25 four_zeros (rising_bytes 32 1 ++ bytes_million)
unfolding everything rising_bytes
behind_turned_down = refl

-- Asking. W13.6 "an empty window" answers "four zeros".
windows_asked :
    map ask_call
    (zeros 256 ∷ (bytes_500 ++ zeros 248) ∷ (bytes_highest ++ (bytes_1 ++ zeros 240)) ∷ (rising_bytes 31 1 ++ zeros 8) ∷ rising_bytes 32 1
    ∷ rising_bytes 32 2 ∷ times 32 bytes_highest ∷ (zeros 256 ++ (7 ∷ [])) ∷ (rising_bytes 32 1 ++ bytes_million) ∷ [])
    ≡ map (ask_back 0)
    (four_zeros ∷ (1 ∷ 500 ∷ 500 ∷ 500 ∷ []) ∷ (2 ∷ 1 ∷ 999_999 ∷ 1_000_000 ∷ []) ∷ (31 ∷ 1 ∷ 31 ∷ 496 ∷ []) ∷ (32 ∷ 1 ∷ 32 ∷ 528 ∷ [])
    ∷ (32 ∷ 2 ∷ 33 ∷ 560 ∷ []) ∷ (32 ∷ 999_999 ∷ 999_999 ∷ 31_999_968 ∷ []) ∷ four_zeros ∷ (32 ∷ 1 ∷ 32 ∷ 528 ∷ []) ∷ [])
unfolding everything rising_bytes times
windows_asked = refl

-- W13.5 25, just outside the range and far outside; W13.6 four zeros; W2.6 every byte left as it was: nothing enters and nothing is pushed out.
abbrev bad_prices : Prices
bad_prices = 0 ∷ 1_000_000 ∷ 4_294_967_301 ∷ 18_446_744_073_709_551_615 ∷ []

empty_turned_down : map (take_call (zeros 256)) bad_prices ≡ replicate 4 (take_back 25 four_zeros (zeros 256))
unfolding everything
empty_turned_down = refl

one_turned_down : map (take_call (bytes_500 ++ zeros 248)) bad_prices ≡ replicate 4 (take_back 25 four_zeros (bytes_500 ++ zeros 248))
unfolding everything
one_turned_down = refl

full_turned_down : map (take_call (rising_bytes 32 1)) bad_prices ≡ replicate 4 (take_back 25 four_zeros (rising_bytes 32 1))
unfolding everything rising_bytes
full_turned_down = refl

range_taken : map (λ price. (take_call (bytes_500 ++ zeros 248) price).number) (1 ∷ 999_999 ∷ []) ≡ 0 ∷ 0 ∷ []
unfolding everything
range_taken = refl

-- W13.4 14, by both calls, before 25; W13.6 four zeros; W2.6 every byte left as it was.
abbrev GetsBadWindow : List (List ℕ) → Type 0
GetsBadWindow windows =
    (map ask_call windows ≡ map (λ window. ask_back 14 four_zeros) windows)
    × (map (λ window. map (take_call window) (0 ∷ 500 ∷ 1_000_000 ∷ [])) windows
    ≡ map (λ window. replicate 3 (take_back 14 four_zeros window)) windows)

-- "under 256 bytes": nothing; a byte; one byte short, with no price, one, and 32
too_short : GetsBadWindow ([] ∷ (0 ∷ []) ∷ bytes_500 ∷ zeros 255 ∷ (bytes_500 ++ zeros 247) ∷ (rising_bytes 31 1 ++ (32 ∷ zeros 6)) ∷ [])
unfolding everything rising_bytes
too_short = (refl, refl)

-- a number that is no price before the first zero: one too much in the first place, in the second, in the last; a good price with a bit more in its
-- fourth, its fifth or its eighth byte; the eighth byte alone; nothing but 255
no_prices :
    GetsBadWindow
    ((bytes_million ++ zeros 248)
    ∷ (bytes_500 ++ (bytes_million ++ zeros 240))
    ∷ (rising_bytes 31 1 ++ bytes_million)
    ∷ (244 ∷ 1 ∷ 0 ∷ 1 ∷ zeros 252)
    ∷ (244 ∷ 1 ∷ 0 ∷ 0 ∷ 1 ∷ zeros 251)
    ∷ (244 ∷ 1 ∷ 0 ∷ 0 ∷ 0 ∷ 0 ∷ 0 ∷ 1 ∷ zeros 248)
    ∷ (rising_bytes 31 1 ++ (zeros 7 ++ (1 ∷ [])))
    ∷ replicate 256 255
    ∷ [])
unfolding everything rising_bytes
no_prices = (refl, refl)

-- another byte than zero behind the first zero: a price, with the zero in the first place, between two prices, in the last place but one; nothing but
-- a price in the last place, nothing but the window's last byte; that byte with a price in the first place
zeros_broken :
    GetsBadWindow
    ((zeros 8 ++ (bytes_1 ++ zeros 240))
    ∷ (bytes_500 ++ (zeros 8 ++ (bytes_1 ++ zeros 232)))
    ∷ (rising_bytes 30 1 ++ (zeros 8 ++ bytes_1))
    ∷ (zeros 248 ++ bytes_1)
    ∷ (zeros 255 ++ (1 ∷ []))
    ∷ (bytes_500 ++ (zeros 247 ++ (1 ∷ [])))
    ∷ [])
unfolding everything rising_bytes
zeros_broken = (refl, refl)

-- bytes behind a bad window don't mend it
bad_before_others : GetsBadWindow ((zeros 255 ++ (1 ∷ 0 ∷ 0 ∷ [])) ∷ (bytes_million ++ zeros 300) ∷ [])
unfolding everything
bad_before_others = (refl, refl)
