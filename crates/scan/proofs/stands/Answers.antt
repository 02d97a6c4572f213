-- `scan::stands` finds a string of one byte that stands there.
use mathlib.Core.Bool.{Bool, false}
use mathlib.Core.Path.{◌≡◌, refl, sym, ◌∙◌}
use Prim.Native.Nat.{ℕ, ◌<◌}
use lib.Dec.{eqb}
use borrow.Author.Tests.{eqb-true, eqb-false}
use Rattle.scan.proofs.Tests.{good_part, stands_one}
use native.Mathlib.Omega.{arith}
use Rattle.scan.proofs.stands.Goals as goal

-- some bytes are left
some : {n : ℕ} {b : Bool} → b ≡ eqb n 0 → b ≡ false → 0 < n
some {n} told none = let differs = eqb-false n 0 (sym told ∙ none) in omega (arith, differs)

pub overflow_sub-to : goal.overflow_sub-to
overflow_sub-to c = let a = c.args in (good_part a.e a.values.now _ _ c.in-Part.is c.requires).order

pub bounds-values-from : goal.bounds-values-from
bounds-values-from c =
    let a = c.args in
    let p = good_part a.e a.values.now _ _ c.in-Part.is c.requires in
    omega (arith, p.inside, p.order, c.if-to-from-ne1.false)

pub returns-else-is_empty : goal.returns-else-is_empty
returns-else-is_empty c =
    let a = c.args in
    λ same.
    stands_one a.values.now a.rest.now a.e _ _ c.in-Part.is c.requires c.if-to-from-ne1.false (some c.is_empty.ensures c.if-is_empty.false) (eqb-true _ _ same) refl
