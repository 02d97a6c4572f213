-- `store::string` meets its contract: the string lies behind the length of its cell.
use mathlib.Core.Path.{◌≡◌, sym, ap, ap₂, ◌∙◌}
use Prim.Native.Nat.{ℕ, ◌-◌, ◌+◌}
use lib.ListN.{length, take, drop}
use native.Mathlib.Omega.{arith}
use Rattle.base.specs.ListLaws.{stretch_cut}
use Rattle.encoding.specs.BufferLaws.{good_short, string_part}
use Rattle.store.specs.Clauses.{string_of}
use Rattle.store.proofs.string.Goals as goal

pub returns : goal.returns
returns c =
    let a = c.args in
    let good = c.requires.store_good in
    let start = c.string_start-start.result in
    let n = c.string_length.result in
    let bytes : take (start + n - start) (drop start a.store.now) ≡ string_of a.store.now a.place =
    stretch_cut a.store.now start n
    ∙ ap₂ (λ (i j : ℕ). take i (drop j a.store.now)) c.string_length.ensures.0 c.string_start-start.ensures
    ∙ sym (string_part a.store.now good a.place c.requires.place_bound) in
    (bytes, omega (arith, ap length bytes, good_short a.store.now good a.place))
