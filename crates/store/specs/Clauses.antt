-- What the store's functions ask for and leave. Assumes nothing.
use Rattle.std.specs.Prelude.{Option, Some, None, List, [], ◌++◌, ◌≡◌, ℕ, ◌+◌, ◌*◌, ◌-◌, ◌<◌, ◌≤◌, length, take, drop, get_or, replicate}
use Rattle.encoding.specs.BufferLaws.{StoreGood}
use Rattle.encoding.specs.Buffers.{strings_in}
use Rattle.calls.specs.Calls.{start_call}
use Rattle.encoding.specs.Numerals.{in_bytes}
use Rattle.encoding.specs.Splices.{splice}

-- the string with this place
abbrev pub string_of : List ℕ → ℕ → List ℕ
string_of store place = get_or (strings_in store) place []

-- a string with its bytes from..to replaced
abbrev pub string_replaced : List ℕ → ℕ → ℕ → List ℕ → List ℕ
string_replaced old from to v = take from old ++ (v ++ drop to old)

-- a string ended anew in a store: zeros where it was longer, and its length
unfoldable pub ended_anew : List ℕ → (s old new : ℕ) → List ℕ
ended_anew store s old new = splice (splice store (1026 * s + 2 + new) (replicate (old - new) 0)) (1026 * s) (in_bytes 2 new)

-- a string to be set, which fits its cell
pub record Putting (store : List ℕ) (place : ℕ) (v : List ℕ) : Type 0 where
  pub good : StoreGood store
  pub known : place < 32
  pub fits : length v ≤ 1024

-- a stretch of a string to be replaced, after which the string fits its cell
pub record Replacing (store : List ℕ) (place from to : ℕ) (v : List ℕ) : Type 0 where
  pub good : StoreGood store
  pub known : place < 32
  pub order : from ≤ to
  pub within : to ≤ length (string_of store place)
  pub fits : from + length v + (length (string_of store place) - to) ≤ 1024

-- a string to be set to a piece of a string
pub record PuttingPiece (store : List ℕ) (place of from n : ℕ) : Type 0 where
  pub good : StoreGood store
  pub known : place < 32
  pub source : of < 32
  pub within : from + n ≤ length (string_of store of)

-- the number that the starting call answers: 14 where the store was not started
abbrev pub started_number : Option Unit → ℕ
started_number None = 14
started_number (Some _) = 0

-- the number and the store that starting leaves
pub record Started (store : List ℕ) (number : ℕ) (left : List ℕ) : Type 0 where
  pub number_right_lem : number ≡ (start_call store).number
  pub left_right : left ≡ (start_call store).store
