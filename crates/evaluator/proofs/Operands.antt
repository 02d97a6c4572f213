-- Operands that take no work: a constant, and a number. Assumes nothing.
use mathlib.Core.Path.{◌≡◌, refl, ap, subst}
use Prim.Native.Nat.{ℕ}
use lib.IntN.{ℤ}
use Rattle.base.specs.Current.{current}
use Rattle.numbers.specs.Numbers.{NumberAnswers, GivesInt}
use Rattle.numbers.specs.declared.Int.{Int}
use Rattle.std.specs.Prelude.{Ok}
use Rattle.machine.specs.Expressions.{operand_in}
use Rattle.machine.specs.State.{Memory, number_at}
use Rattle.decoder.specs.Holds.{OperandHolds}
use Rattle.decoder.specs.Meaning.{operand_meaning}
use Rattle.decoder.specs.declared.Operand.{Operand}
use Rattle.decoder.specs.declared.Operand.TheVariants as operands
use Rattle.values.specs.Result.{done, pure}

module _ (m : Memory) (a : Operand) where
  pub constant_answers : (z : Int) → a ≡ operands.Constant z → OperandHolds a → NumberAnswers (Ok (record { value = z; notes = 0 })) (operand_in current m (operand_meaning a))
  unfolding operand_in pure
  constant_answers z is h = rw is (record { work = refl; range = subst OperandHolds is h })

  pub number_answers : (i : ℕ) (z : Int) → a ≡ operands.Number i → GivesInt z (number_at m i)
      → NumberAnswers (Ok (record { value = z; notes = 0 })) (operand_in current m (operand_meaning a))
  unfolding operand_in pure
  number_answers i z is gives = rw is (record { work = ap (λ (n : ℤ). done n 0) gives.value; range = gives.range })
