-- The memory that a store and a state hold, and when values can be found in it. Assumes nothing.
use Rattle.std.specs.Prelude.{true, List, ◌≡◌, ℕ, ◌≤◌, pos, nat_abs, length, get_or}
use Rattle.std.proofs.Common.{arith}
use borrow.Author.Tests.{le-leb}
use Rattle.base.specs.Current.{current, limit}
use Rattle.base.specs.ListLaws.{all-at}
use Rattle.encoding.specs.BufferLaws.{StoreGood, keeps_good}
use Rattle.encoding.specs.Buffers.{strings_in, numbers_in, store_keeps, state_keeps}
use Rattle.calls.specs.GivenLaws.{state_in_range}
use Rattle.numbers.specs.Laws.{in_range_lem}
use Rattle.machine.specs.State.{Memory}
use Rattle.values.specs.Numbers.{is_in_range}

abbrev pub memory_in : (store state : List ℕ) → Memory
memory_in store state = record { strings = strings_in store; numbers = numbers_in state }

-- a state whose numbers are in range
pub record StateNumbered (state : List ℕ) : Type 0 where
  pub size : length state ≡ 64
  pub range : (i : ℕ) → nat_abs (get_or (numbers_in state) i (pos 0)) ≤ limit

-- a store and a state that values can be found in
pub record MemoryReady (store state : List ℕ) : Type 0 where
  pub strings : StoreGood store
  pub numbers : StateNumbered state

-- buffers that a step may be given
module _ (steps input output : ℕ) (state : List ℕ) (size : length state ≡ 64) (keeps : state_keeps current steps input output state ≡ true) where
  pub keeps_numbered : StateNumbered state
  unfolding is_in_range
  keeps_numbered =
      let numbers = (state_in_range current steps input output state keeps).numbers in
      let none = le-leb 0 current.limit (omega arith) in
      record { size = size; range = λ i. in_range_lem (get_or (numbers_in state) i (pos 0)) (all-at (is_in_range current) (numbers_in state) (pos 0) none numbers i) }

  pub keeps_ready : (store : List ℕ) → store_keeps store ≡ true → MemoryReady store state
  keeps_ready store h = record { strings = keeps_good store h; numbers = keeps_numbered }
