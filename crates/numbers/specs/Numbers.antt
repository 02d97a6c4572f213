-- The code's numbers and comparisons, as document 01 has them. Assumes nothing.
use Rattle.std.specs.Prelude as std
use Rattle.std.specs.Prelude.{true, false, cond, Option, Some, None, List, ◌≡◌, ℕ, ◌≤◌, ◌<◌, leb, ℤ, nat_abs, Ok, Err}
use Rattle.std.specs.Bool.{then_some}
use Rattle.base.specs.Current.{limit}
use Rattle.syntax.specs.Program as Program
use Rattle.values.specs.Numbers.{is_negative}
use Rattle.values.specs.Result.{Result}
use Rattle.values.specs.Stops as Stops
use Rattle.values.specs.declared.Noted.{Noted}
use Rattle.values.specs.declared.Stop.{Stop}
use Rattle.numbers.specs.declared.Int.{Int}
use Rattle.numbers.specs.declared.Comparison.{Comparison}
use Rattle.numbers.specs.declared.Comparison.TheVariants.{Equal, Unequal, Less, Greater, AtMost, AtLeast}

-- numbers run from -limit to limit
abbrev pub IntInRange : Int → Type 0
IntInRange z = nat_abs z.value ≤ limit

-- two numbers in range
pub record BothInRange (a b : Int) : Type 0 where
  pub left : IntInRange a
  pub right : IntInRange b

-- a number in range with this value
pub record GivesInt (r : Int) (z : ℤ) : Type 0 where
  pub value : r.value ≡ z
  pub range : IntInRange r

-- a number as a natural number, or that it is negative
abbrev pub GivesNatural : Option ℕ → ℤ → Type 0
GivesNatural None z = is_negative z ≡ true
GivesNatural (Some n) z = (is_negative z ≡ false) × (n ≡ nat_abs z)

-- what work on numbers answers: a number with its notes, or what stops the step
abbrev pub Number : Type 0
Number = std.Result (Noted Int) Stop

-- the work that an answer stands for
abbrev pub worked : Number → Result ℤ
worked r = Stops.worked (λ (v : Int). v.value) r

-- a value that is given is in range
abbrev pub NumberWithin : Number → Type 0
NumberWithin (Ok v) = IntInRange v.value
NumberWithin (Err s) = Unit {0}

-- an answer stands for this work
pub record NumberAnswers (r : Number) (w : Result ℤ) : Type 0 where
  pub work : worked r ≡ w
  pub range : NumberWithin r

-- n if it is at most the limit
unfoldable pub if_small : ℕ → Option ℕ
if_small n = then_some (leb n limit) n

-- the comparison that a code stands for
abbrev pub comparison_meaning : Comparison → Program.Comparison
comparison_meaning Equal = Program.equal
comparison_meaning Unequal = Program.unequal
comparison_meaning Less = Program.less
comparison_meaning Greater = Program.greater
comparison_meaning AtMost = Program.at_most
comparison_meaning AtLeast = Program.at_least
