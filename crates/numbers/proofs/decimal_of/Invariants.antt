-- `numbers::decimal_of` meets its contract. The invariant: the digits left, read from the value so far, make the value of all.
use mathlib.Core.Path.{◌≡◌}
use Prim.Native.Nat.{◌≤◌}
use lib.ListN.{drop}
use Rattle.base.specs.Current.{limit}
use Rattle.values.specs.Conversion.{decimal}
use Rattle.numbers.proofs.decimal_of.Given as goal

abbrev pub invariant-loop-b : goal.invariant-loop-b
invariant-loop-b l = (l.v ≤ limit) × (decimal 0 l.digits ≡ decimal l.v (drop l.b-index l.digits))
