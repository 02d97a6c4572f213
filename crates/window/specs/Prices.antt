-- Document 02, wish 13: a price, the last 32 of a list of prices, and the four numbers that are worked out of prices. Assumes nothing.
use Rattle.std.specs.Prelude.{Bool, List, [], ◌∷◌, ◌++◌, ℕ, ◌-◌, length, drop, min, max}
use Rattle.std.specs.List.{reduce, sum}
use Rattle.std.specs.Option.{unwrap_or}
use Rattle.base.specs.Lists.{keep}
use Rattle.cards.specs.Bytes.{between}

-- in order of arrival, the first to come first
abbrev pub Prices : Type 0
Prices = List ℕ

abbrev pub price_limit : ℕ
price_limit = 999_999

abbrev pub most_prices : ℕ
most_prices = 32

-- W13.5 not "A price outside 1 to 999,999"
unfoldable pub price_in_range : (price : ℕ) → Bool
price_in_range price = between 1 price_limit price

-- W13.5 of the prices offered, one out of range "counts as not offered"
unfoldable pub prices_counted : (offered : Prices) → Prices
prices_counted offered = keep price_in_range offered

-- W13.3 "the last 32 of that list, or from all if fewer"
unfoldable pub last_prices : Prices → Prices
last_prices prices = drop (length prices - most_prices) prices

-- W13.2 "A window takes each new price": the prices that it holds then
unfoldable pub with_price : Prices → (price : ℕ) → Prices
with_price prices price = last_prices (prices ++ (price ∷ []))

-- the lowest and the highest of prices, 0 of none (PriceLaws: lowest_is, highest_is)
unfoldable pub lowest_price : Prices → ℕ
lowest_price prices = unwrap_or (reduce min prices) 0

unfoldable pub highest_price : Prices → ℕ
highest_price prices = unwrap_or (reduce max prices) 0

-- W13.2 "count, lowest, highest and sum"
unfoldable pub summary_of : Prices → List ℕ
summary_of prices = length prices ∷ lowest_price prices ∷ highest_price prices ∷ sum prices ∷ []

-- W13.6 "four zeros"
abbrev pub four_zeros : List ℕ
four_zeros = 0 ∷ 0 ∷ 0 ∷ 0 ∷ []
