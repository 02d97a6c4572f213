-- `store::set_end` meets its contract.
use mathlib.Core.List.{List}
use mathlib.Core.Path.{◌≡◌, ap, ap₂, ◌∙◌}
use Prim.Native.Nat.{ℕ, ◌+◌, ◌*◌, ◌-◌}
use lib.ListN.{replicate}
use Rattle.encoding.specs.Numerals.{in_bytes}
use Rattle.encoding.specs.Splices.{splice}
use Rattle.store.specs.Clauses.{ended_anew}
use native.Mathlib.Omega.{arith}
use Rattle.store.proofs.set_end.Goals as goal

pub returns : goal.returns
unfolding ended_anew
returns c =
    let start = c.string_start-start in
    let a = c.args in
    let place : start.result + a.new ≡ 1026 * a.place + 2 + a.new = omega (arith, start.ensures) in
    let count : start.result + a.old - (start.result + a.new) ≡ a.old - a.new = omega arith in
    c.set_length.ensures
    ∙ ap (λ (l : List ℕ). splice l (1026 * a.place) (in_bytes 2 a.new))
    (c.blank.ensures ∙ ap₂ (λ (i n : ℕ). splice a.store.now i (replicate n 0)) place count)
