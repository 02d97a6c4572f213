-- Document 01, "Run": the store as bytes and the state as numbers, what they hold and when they are in range. Assumes nothing.
use Rattle.std.specs.Prelude.{Bool, true, cond, ◌&&◌, List, [], ◌∷◌, ◌++◌, map, reverse, ℕ, zero, suc, ◌+◌, ◌-◌, leb, ltb, eqb, ℤ, length, take, drop, get_or, replicate}
use Rattle.base.specs.Edition.{Edition}
use Rattle.base.specs.Lists.{all}
use Rattle.machine.specs.State.{Status, running, finished, stopped, State, most_strings, most_numbers, fresh}
use Rattle.machine.specs.Step.{most_returns}
use Rattle.values.specs.Conversion.{longest_string}
use Rattle.values.specs.Numbers.{is_in_range}
use Rattle.encoding.specs.Numerals.{in_bytes, numeral_at, biased, unbiased}

-- R12 "The store is 32 cells of 1,026 bytes: length, low byte first, then the string, then zeros.": store is document 01's word
unfoldable pub cell_size : ℕ
cell_size = 1026

abbrev pub store_size : ℕ
store_size = 32_832

unfoldable pub cell_image : List ℕ → List ℕ
cell_image v = in_bytes 2 (length v) ++ (v ++ replicate (longest_string - length v) 0)

-- the bytes of a store that holds these strings
unfoldable pub store_image : List (List ℕ) → List ℕ
store_image [] = []
store_image (v ∷ vs) = cell_image v ++ store_image vs

-- the string of the cell that starts at a place
unfoldable pub stored_string : List ℕ → ℕ → List ℕ
stored_string store at = take (numeral_at 2 store at) (drop (at + 2) store)

unfoldable pub strings_from : List ℕ → ℕ → ℕ → List (List ℕ)
strings_from store at zero = []
strings_from store at (suc n) = stored_string store at ∷ strings_from store (at + cell_size) n

unfoldable pub strings_in : List ℕ → List (List ℕ)
strings_in store = strings_from store 0 most_strings

-- Q14 "a length exceeds 1,024, or a byte behind it isn't zero": neither is so of the cell that starts at a place; lists are of naturals,
-- so that the length's low byte is one is said too
unfoldable pub cell_keeps : List ℕ → ℕ → Bool
cell_keeps store at =
    let n = numeral_at 2 store at in
    ltb (get_or store at 0) 256
    && (leb n longest_string && all (λ b. eqb b 0) (take (longest_string - n) (drop (at + (2 + n)) store)))

unfoldable pub cells_keep : List ℕ → ℕ → ℕ → Bool
cells_keep store at zero = true
cells_keep store at (suc n) = cell_keeps store at && cells_keep store (at + cell_size) n

unfoldable pub store_keeps : List ℕ → Bool
store_keeps store = leb store_size (length store) && cells_keep store 0 most_strings

-- The state is 64 numbers: the status (0 running, 1 finished, any other stopped), the next step, how many returns are held, the input
-- place, the output length, 16 returns, the oldest first, 32 numbers with the bias added; the others don't count and stay.
abbrev pub state_size : ℕ
state_size = 64

unfoldable pub returns_at : ℕ
returns_at = 5

unfoldable pub numbers_at : ℕ
numbers_at = 21

unfoldable pub status_number : Status → ℕ
status_number running = 0
status_number finished = 1
status_number stopped = 2

unfoldable pub status_of : ℕ → Status
status_of n = cond (eqb n 0) running (cond (eqb n 1) finished stopped)

unfoldable pub returns_in : List ℕ → List ℕ
returns_in state = take (get_or state 2 0) (drop returns_at state)

unfoldable pub numbers_in : List ℕ → List ℤ
numbers_in state = map unbiased (take most_numbers (drop numbers_at state))

-- Q15 "A state's statement, held return or their count, number, input place or output length is out of range": none is
unfoldable pub state_keeps : Edition → (steps input output : ℕ) → List ℕ → Bool
state_keeps e steps input output state =
    ltb (get_or state 1 0) steps
    && (leb (get_or state 2 0) most_returns
    && (all (λ k. ltb k steps) (returns_in state)
    && (all (is_in_range e) (numbers_in state)
    && (leb (get_or state 3 0) input && leb (get_or state 4 0) output))))

-- what the machine holds when it is given these
unfoldable pub state_in : (store state input output : List ℕ) → State
state_in store state input output =
    record {
      status = status_of (get_or state 0 0);
      next = get_or state 1 0;
      returns = reverse (returns_in state);
      memory = record { strings = strings_in store; numbers = numbers_in state };
      input = drop (get_or state 3 0) input;
      output = take (get_or state 4 0) output;
    }

-- what a step leaves in store, state and output, from what was there
unfoldable pub store_left : List ℕ → State → List ℕ
store_left store c = store_image c.memory.strings ++ drop store_size store

unfoldable pub state_left : (state input : List ℕ) → State → List ℕ
state_left state input c =
    status_number c.status
    ∷ (c.next
    ∷ (length c.returns
    ∷ ((length input - length c.input)
    ∷ (length c.output
    ∷ (reverse c.returns
    ++ (take (most_returns - length c.returns) (drop (returns_at + length c.returns) state)
    ++ (map biased c.memory.numbers ++ drop (numbers_at + most_numbers) state)))))))

unfoldable pub output_left : List ℕ → State → List ℕ
output_left output c = c.output ++ drop (length c.output) output

-- R13 "the state before the first step"
unfoldable pub first_state : List ℕ
first_state = state_left (replicate state_size 0) [] (fresh [])
