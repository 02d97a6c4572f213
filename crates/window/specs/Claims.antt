-- W13.3, W13.5 and W13.6 as one claim about every list of calls from an empty window: after each price that is offered, and wherever it is asked, the
-- four are those worked out anew from the last 32 of the prices offered, or from all if fewer; a price that gets 25 counts as not offered. And the
-- promises of the calls, which carry the claim. Assumes nothing.
use Rattle.std.specs.Prelude.{cond, List, [], ◌∷◌, ◌++◌, ◌≡◌, ℕ, take, replicate}
use Rattle.window.specs.Calls.{TakeCalled, take_call, AskCalled, ask_call}
use Rattle.window.specs.Prices.{Prices, price_in_range, prices_counted, last_prices, summary_of, four_zeros}
use Rattle.window.specs.Window.{window_size}

-- A call as it was observed: what it was given, and what came back.
pub data Observed : Type 0 where
  observed_take : (given : List ℕ) (price : ℕ) (back : TakeCalled) → Observed
  observed_ask : (given : List ℕ) (back : AskCalled) → Observed

-- each call was given the window that the last one left, the first one w's, and z's is left in the end; what lies behind the first 256 bytes doesn't
-- count. Each kept the equation of its promise. A window that is lent only to be read is left as it was given
unfoldable pub Linked : List ℕ → List Observed → List ℕ → Type 0
Linked w [] z = take window_size w ≡ take window_size z
Linked w (observed_take given price back ∷ calls) z =
    (take window_size w ≡ take window_size given) × (back ≡ take_call given price) × Linked back.left calls z
Linked w (observed_ask given back ∷ calls) z = (take window_size w ≡ take window_size given) × (back ≡ ask_call given) × Linked given calls z

-- W2.6 "all zeros is the empty one"
abbrev pub Empty : (window : List ℕ) → Type 0
Empty window = take window_size window ≡ replicate window_size 0

-- whatever happened to a window since it was empty
pub record History (window : List ℕ) : Type 0 where
  pub start : List ℕ
  pub empty : Empty start
  pub calls : List Observed
  pub linked : Linked start calls window

-- W13.3 of a list of prices offered "the four .. worked out anew from the last 32 of that list, or from all if fewer"
unfoldable pub worked_out : (offered : Prices) → List ℕ
worked_out offered = summary_of (last_prices (prices_counted offered))

-- Of each call, with all prices offered before it: a price in range gets 0 and the four worked out with it, any other 25 and four zeros. Asking gets 0
-- and the four. No call gets 14.
unfoldable pub ListClaim : (offered : Prices) → List Observed → Type 0
ListClaim offered [] = Unit {0}
ListClaim offered (observed_take given price back ∷ calls) =
    (back.number ≡ cond (price_in_range price) 0 25)
    × (back.summary ≡ cond (price_in_range price) (worked_out (offered ++ (price ∷ []))) four_zeros)
    × ListClaim (offered ++ (price ∷ [])) calls
ListClaim offered (observed_ask given back ∷ calls) = (back.number ≡ 0) × (back.summary ≡ worked_out offered) × ListClaim offered calls

-- the claim about every list of calls that starts from an empty window and ends with this call
abbrev pub Carries : (window : List ℕ) → Observed → Type 0
Carries window call = (h : History window) → ListClaim [] (h.calls ++ (call ∷ []))

-- the call that takes a price, given a window and a price
pub record TakePromise (window : List ℕ) (price : ℕ) (back : TakeCalled) : Type 0 where
  -- the number, the four numbers and every byte left
  pub does : back ≡ take_call window price
  -- W2.6 "a call turned down leaves it unchanged"; W13.6 "four zeros"
  pub keeps : ¬ (back.number ≡ 0) → (back.left ≡ window) × (back.summary ≡ four_zeros)
  pub list : Carries window (observed_take window price back)

-- the call that only asks, given a window
pub record AskPromise (window : List ℕ) (back : AskCalled) : Type 0 where
  -- the number and the four numbers
  pub does : back ≡ ask_call window
  -- W13.6 "four zeros"
  pub zeros : ¬ (back.number ≡ 0) → back.summary ≡ four_zeros
  pub list : Carries window (observed_ask window back)

-- what came back, by its parts
abbrev pub take_back : (number : ℕ) (summary left : List ℕ) → TakeCalled
take_back number summary left = record { number = number; summary = summary; left = left }

abbrev pub ask_back : (number : ℕ) (summary : List ℕ) → AskCalled
ask_back number summary = record { number = number; summary = summary }
