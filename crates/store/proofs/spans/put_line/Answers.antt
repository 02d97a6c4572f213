-- `store::spans::put_line` meets its contract: the byte behind what is written is spliced in with it.
use mathlib.Core.List.{List, [], ◌∷◌}
use mathlib.Core.Path.{ap, ◌∙◌, refl}
use Prim.Native.Nat.{ℕ, ◌+◌}
use lib.ListN.{length, set}
use native.Mathlib.Omega.{arith}
use Rattle.encoding.specs.Splices.{splice, length-splice, set-splice, splice-behind}
use Rattle.store.proofs.spans.put_line.Goals as goal

pub returns : goal.returns
returns c =
    let a = c.args in
    let at = a.at in
    let v = a.v.now in (
      ap (λ (l : List ℕ). set l (at + length v) 10) c.write.ensures
          ∙ set-splice (splice a.out.now at v) (at + length v) 10 (omega (arith, length-splice a.out.now at v (omega arith)))
          ∙ splice-behind a.out.now at v (10 ∷ []) (omega arith),
      refl,
    )
