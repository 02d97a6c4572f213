-- A script of the window as a list of commands, and what it answers in two ways: by the list of all prices offered, and by the calls on a window's
-- bytes. Assumes nothing.
use Rattle.std.specs.Prelude.{cond, List, [], ◌∷◌, ◌++◌, map, ◌≡◌, ℕ, leb, take, drop, replicate}
use Rattle.window.specs.Calls.{TakeCalled, take_call, AskCalled, ask_call}
use Rattle.window.specs.Claims.{take_back, ask_back, worked_out}
use Rattle.window.specs.Prices.{Prices, price_in_range, four_zeros}
use Rattle.window.specs.Window.{window_size}

-- a price offered; asking; from here on so many bytes of the buffer lent; and a new start, with the empty window and 256 bytes lent
pub data Command : Type 0 where
  price : (offered : ℕ) → Command
  ask : Command
  size : (lent : ℕ) → Command
  reset : Command

-- the numbers that a command answers: 0 alone for `size` and `reset`, else the call's number and the four
abbrev pub Answer : Type 0
Answer = List ℕ

abbrev taken_answer : TakeCalled → Answer
taken_answer back = back.number ∷ back.summary

abbrev asked_answer : AskCalled → Answer
asked_answer back = back.number ∷ back.summary

-- By the prices. What comes back of a price, and of asking, with all prices offered before it, as in Claims: ListClaim; no bytes are left here. W13.4
-- 14 while fewer than 256 bytes are lent; a price that gets it is offered to no window.
unfoldable pub price_back : (lent : ℕ) (before : Prices) (offered : ℕ) → TakeCalled
price_back lent before offered =
    cond (leb window_size lent)
    (cond (price_in_range offered) (take_back 0 (worked_out (before ++ (offered ∷ []))) []) (take_back 25 four_zeros []))
    (take_back 14 four_zeros [])

unfoldable pub asking_back : (lent : ℕ) (before : Prices) → AskCalled
asking_back lent before = cond (leb window_size lent) (ask_back 0 (worked_out before)) (ask_back 14 four_zeros)

unfoldable pub answers_by_prices : (lent : ℕ) (before : Prices) → List Command → List Answer
answers_by_prices lent before [] = []
answers_by_prices lent before (price offered ∷ rest) =
    let after : Prices = cond (leb window_size lent) (before ++ (offered ∷ [])) before in
    taken_answer (price_back lent before offered) ∷ answers_by_prices lent after rest
answers_by_prices lent before (ask ∷ rest) = asked_answer (asking_back lent before) ∷ answers_by_prices lent before rest
answers_by_prices lent before (size count ∷ rest) = (0 ∷ []) ∷ answers_by_prices count before rest
answers_by_prices lent before (reset ∷ rest) = (0 ∷ []) ∷ answers_by_prices window_size [] rest

-- By the bytes. The buffer has 4,096, those behind the window's others than zeros.
abbrev empty_window : List ℕ
empty_window = replicate window_size 0

abbrev others : List ℕ
others = replicate 3840 7

-- the bytes that are lent, and those behind them
unfoldable pub answers_by_bytes : (lent behind : List ℕ) → List Command → List Answer
answers_by_bytes lent behind [] = []
answers_by_bytes lent behind (price offered ∷ rest) =
    let back : TakeCalled = take_call lent offered in taken_answer back ∷ answers_by_bytes back.left behind rest
answers_by_bytes lent behind (ask ∷ rest) = asked_answer (ask_call lent) ∷ answers_by_bytes lent behind rest
answers_by_bytes lent behind (size count ∷ rest) =
    let whole : List ℕ = lent ++ behind in (0 ∷ []) ∷ answers_by_bytes (take count whole) (drop count whole) rest
answers_by_bytes lent behind (reset ∷ rest) = (0 ∷ []) ∷ answers_by_bytes empty_window others rest

-- Reading 256 bytes takes long to compute, so of a longer script just so many commands are answered by the bytes: enough for a window to fill and to
-- push some prices out.
abbrev most_by_bytes : ℕ
most_by_bytes = 40

abbrev commands_of : List (Command × Answer) → List Command
commands_of script = map (λ entry. entry.0) script

abbrev answers_of : List (Command × Answer) → List Answer
answers_of script = map (λ entry. entry.1) script

-- Commands with answers: from the empty window the commands answer just those, both ways.
abbrev pub Answered : List (Command × Answer) → Type 0
Answered script =
    (answers_by_prices window_size [] (commands_of script) ≡ answers_of script)
    × (answers_by_bytes empty_window others (commands_of (take most_by_bytes script)) ≡ answers_of (take most_by_bytes script))
