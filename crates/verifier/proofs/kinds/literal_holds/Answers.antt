-- `verifier::kinds::literal_holds` meets its contract.
use mathlib.Core.Bool.{true}
use mathlib.Core.Path.{◌≡◌, refl}
use Prim.Native.Nat.{ℕ}
use Rattle.verifier.specs.Asked.{value_meaning}
use Rattle.verifier.specs.CellTests.{own_length}
use Rattle.verifier.specs.Elements.{stands_test, literal_test}
use Rattle.verifier.specs.declared.kinds.ValueRule.{ValueRule}
use Rattle.verifier.specs.declared.kinds.ValueRule.TheVariants.{NoValue, Natural, Signed, Placed, Spelt}
use Rattle.verifier.proofs.kinds.literal_holds.Goals as goal

other : (at v : ℕ) (r : ValueRule) → (r ≡ Spelt → ⊥) → stands_test (value_meaning r) at v ≡ true
unfolding stands_test value_meaning
other at v NoValue h1 = refl
other at v Natural h1 = refl
other at v Signed h1 = refl
other at v Placed h1 = refl
other at v Spelt h1 = absurd (h1 refl)

pub returns-in-Spelt : goal.returns-in-Spelt
unfolding literal_test stands_test own_length value_meaning
returns-in-Spelt c = rw (c.own_length-own.ensures.0, c.in-Spelt.is)

pub returns-in_default : goal.returns-in_default
unfolding literal_test
returns-in_default c = rw (← c.own_length-own.ensures.0, other c.args.at c.args.value c.args.rule c.in_default.not-Spelt)
