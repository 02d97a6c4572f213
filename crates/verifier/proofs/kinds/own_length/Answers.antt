-- `verifier::kinds::own_length` meets its contract.
use borrow.Author.Rules.{rules}
use mathlib.Core.Path.{◌≡◌, refl, sym, ap}
use Prim.Native.Nat.{ℕ}
use Rattle.encoding.specs.TableReading.{range_count}
use Rattle.verifier.specs.Asked.{value_meaning}
use Rattle.verifier.specs.CellTests.{own_length}
use Rattle.verifier.specs.declared.kinds.ValueRule.{ValueRule}
use Rattle.verifier.specs.declared.kinds.ValueRule.TheVariants.{NoValue, Natural, Signed, Placed, Spelt}
use Rattle.verifier.proofs.kinds.own_length.Goals as goal

other : (v : ℕ) (r : ValueRule) → (r ≡ Spelt → ⊥) → 0 ≡ own_length (value_meaning r) v
unfolding own_length value_meaning
other v NoValue h1 = refl
other v Natural h1 = refl
other v Signed h1 = refl
other v Placed h1 = refl
other v Spelt h1 = absurd (h1 refl)

pub returns-in-Spelt : goal.returns-in-Spelt
unfolding own_length value_meaning range_count
returns-in-Spelt c = (ap (λ r. own_length (value_meaning r) c.args.value) (sym c.in-Spelt.is), search rules)

pub returns-in_default : goal.returns-in_default
unfolding own_length value_meaning range_count
returns-in_default c = (other c.args.value c.args.rule c.in_default.not-Spelt, search rules)
