-- The code's constants, as document 01 has them. Assumes nothing.
use Rattle.std.specs.Prelude.{List, ◌≡◌, ℕ, ◌≤◌, ◌<◌, Option, Some, None, length, drop}
use Rattle.base.specs.Current.{current, limit}
use Rattle.numbers.specs.Numbers.{IntInRange}
use Rattle.numbers.specs.declared.Int.{Int}
use Rattle.syntax.specs.Parsing.{Parsed, broken, succeed}
use Rattle.syntax.specs.Lexemes.{unsigned, signed}
use Rattle.lexer.specs.declared.constants.Constant.{Constant}

module _ {A : Type 0} where
  -- the place behind a constant is behind its own
  abbrev pub ConstantEnds : List ℕ → ℕ → Option (Constant A) → Type 0
  ConstantEnds text at (Some c) = (at < c.next) × (c.next ≤ length text)
  ConstantEnds text at None = Unit {0}

  -- what a constant of the code stands for, whose value means this
  abbrev pub read_as : {B : Type 0} → (A → B) → List ℕ → Option (Constant A) → Parsed B
  read_as f text (Some c) = succeed (f c.value) (drop c.next text)
  read_as f text None = broken

-- a constant is in range
abbrev pub InLimit : Option (Constant ℕ) → Type 0
InLimit (Some c) = c.value ≤ limit
InLimit None = Unit {0}

-- the constant at a place of a text
pub record ConstantRead (text : List ℕ) (at : ℕ) (r : Option (Constant ℕ)) : Type 0 where
  pub read : read_as (λ (v : ℕ). v) text r ≡ unsigned current (drop at text)
  pub range : InLimit r
  pub ends : ConstantEnds text at r

-- the same of constants that may have a sign
abbrev pub SignedInRange : Option (Constant Int) → Type 0
SignedInRange (Some c) = IntInRange c.value
SignedInRange None = Unit {0}

pub record ReadsSigned (text : List ℕ) (at : ℕ) (r : Option (Constant Int)) : Type 0 where
  pub read : read_as (λ (z : Int). z.value) text r ≡ signed current (drop at text)
  pub range : SignedInRange r
  pub ends : ConstantEnds text at r
