-- `reference::turn_reference` meets its contract: the bytes copied are those of the string.
use mathlib.Core.List.{List, reverse}
use mathlib.Core.Path.{ap, ◌∙◌}
use Prim.Native.Nat.{ℕ}
use Rattle.encoding.specs.Splices.{splice}
use Rattle.machine.specs.Scanning.{turned}
use Rattle.effects.specs.References.{stretch_of}
use Rattle.effects.proofs.reference.turn_reference.Goals as goal

pub returns : goal.returns
unfolding turned
returns c =
    let a = c.args in
    c.copy_turned.ensures
    ∙ ap (λ (l : List ℕ). splice a.out.now 0 (reverse (stretch_of l a.at.from a.at.to))) c.string-string.ensures.0
