-- The numbers that wait for an operator, in the first places of 64, and what an item does to them. Assumes nothing.
use Rattle.std.specs.Prelude as std
use Rattle.std.specs.Prelude.{Ok, Err, List, [], ◌∷◌, ◌≡◌, ℕ, zero, suc, ◌+◌, ◌-◌, ◌≤◌, ◌<◌, ℤ, pos, neg_ℤ, length, get_or}
use Rattle.numbers.specs.Numbers.{IntInRange}
use Rattle.numbers.specs.declared.Int.{Int}
use Rattle.syntax.specs.Program as Program
use Rattle.decoder.specs.Holds.{ItemHolds}
use Rattle.decoder.specs.declared.Item.{Item}
use Rattle.decoder.specs.declared.Item.TheVariants as items
use Rattle.values.specs.Result.{Result, done, stop}
use Rattle.values.specs.Stops.{stop_number}
use Rattle.values.specs.declared.Stop.{Stop}
use Rattle.evaluator.specs.declared.Stack.{Stack}

-- a place where no number waits
abbrev pub blank : Int
blank = record { value = pos 0 }

-- the first so many of them, the latest first
abbrev pub latest_first : List Int → ℕ → List ℤ
latest_first numbers zero = []
latest_first numbers (suc n) = (get_or numbers n blank).value ∷ latest_first numbers n

-- those that wait, the latest first
abbrev pub waiting_in : Stack → List ℤ
waiting_in s = latest_first s.numbers s.count

-- a number with a sign
abbrev pub signed_as : Program.Sign → ℤ → ℤ
signed_as Program.positive z = z
signed_as Program.negative z = neg_ℤ z

-- at most 64 numbers wait, all in range
pub record Waits (s : Stack) : Type 0 where
  pub size : length s.numbers ≡ 64
  pub most : s.count ≤ 64
  pub range : (i : ℕ) → IntInRange (get_or s.numbers i blank)

-- there is room for a number in range
pub record Pushable (s : Stack) (z : Int) : Type 0 where
  pub waits : Waits s
  pub room : s.count < 64
  pub number : IntInRange z

-- a number waits
pub record Poppable (s : Stack) : Type 0 where
  pub waits : Waits s
  pub some : 1 ≤ s.count

-- z and those below wait
pub record OnTop (z : Int) (below s : Stack) : Type 0 where
  pub count : s.count ≡ below.count + 1
  pub numbers : waiting_in s ≡ z.value ∷ waiting_in below

-- an item finds its numbers waiting, and a place for what it makes of them
abbrev pub FindsWaiting : ℕ → Item → Type 0
FindsWaiting known (items.Operand a) = known < 64
FindsWaiting known (items.Operator o) = 2 ≤ known
FindsWaiting known (items.Sign s) = 1 ≤ known

-- how many numbers wait after an item
abbrev pub waiting_after : ℕ → Item → ℕ
waiting_after known (items.Operand a) = known + 1
waiting_after known (items.Operator o) = known - 1
waiting_after known (items.Sign s) = known

pub record Takable (x : Item) (s : Stack) : Type 0 where
  pub holds : ItemHolds x
  pub waits : Waits s
  pub finds : FindsWaiting s.count x

-- what an item answers: the notes made, or what stops the step; and the work that this and those who wait stand for
abbrev pub known_worked : std.Result ℕ Stop → Stack → Result (List ℤ)
known_worked (Ok notes) s = done (waiting_in s) notes
known_worked (Err k) s = stop (stop_number k)

-- so many numbers wait, unless the run stops
abbrev pub WaitingCounted : std.Result ℕ Stop → Stack → ℕ → Type 0
WaitingCounted (Ok notes) s n = s.count ≡ n
WaitingCounted (Err k) s n = Unit {0}

pub record ItemTaken (r : std.Result ℕ Stop) (s : Stack) (count : ℕ) (w : Result (List ℤ)) : Type 0 where
  pub work : known_worked r s ≡ w
  pub waits : Waits s
  pub counted : WaitingCounted r s count
