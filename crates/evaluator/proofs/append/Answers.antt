-- `evaluator::append` meets its contract. What has no room is not kept.
use mathlib.Core.List.{List}
use mathlib.Core.Path.{◌≡◌, sym, subst}
use Prim.Native.Nat.{ℕ, ◌-◌, min}
use native.Mathlib.Nat.{min-le_left, min-le_right}
use native.Mathlib.Omega.{arith}
use lib.ListN.{length, take}
use lib.Seq.{length-take-le}
use Rattle.evaluator.specs.Appending.{Appended}
use Rattle.evaluator.proofs.Appending.{appended_none, appended_least}
use Rattle.evaluator.proofs.append.Goals as goal

pub returns-then-at-ge-LONGEST : goal.returns-then-at-ge-LONGEST
returns-then-at-ge-LONGEST c =
    appended_none c.args.out.now c.args.v.now c.args.at c.requires c.if-at-ge-LONGEST.true

-- a part of the smaller size has that size
part_size : (n room : ℕ) (v : List ℕ) → n ≡ min room (length v) → length (take n v) ≡ n
part_size n room v least = length-take-le n v (omega (arith, least, min-le_right room (length v)))

pub slice_bounds-write-end : goal.slice_bounds-write-end
slice_bounds-write-end c =
    sym (part_size c.min-end.result (1024 - c.args.at) c.args.v.now c.min-end.ensures)

pub write-requires : goal.write-requires
write-requires c =
    let least = c.min-end in
    omega (
      arith,
      part_size least.result (1024 - c.args.at) c.args.v.now least.ensures,
      least.ensures,
      c.requires,
      min-le_left (1024 - c.args.at) (length c.args.v.now),
    )

pub returns : goal.returns
returns c =
    let least = c.min-end in
    subst (λ (l : List ℕ). Appended c.args.out.now l c.args.at c.args.v.now) (sym c.write.ensures)
    (appended_least c.args.out.now c.args.v.now c.args.at c.requires (omega arith) least.result least.ensures)
