-- `store::put` meets its contract: its three writes are the string's cell.
use mathlib.Core.List.{List}
use mathlib.Core.Path.{ap, ap₂, ◌∙◌}
use Prim.Native.Nat.{ℕ}
use lib.ListN.{length}
use Rattle.encoding.specs.Splices.{splice}
use Rattle.store.specs.Clauses.{ended_anew}
use Rattle.store.specs.CellLaws.{written}
use Rattle.store.proofs.put.Goals as goal

pub returns : goal.returns
returns c =
    let a = c.args in
    c.set_end.ensures
    ∙ ap₂ (λ (l : List ℕ) (o : ℕ). ended_anew l a.place o (length a.v.now))
    (c.write.ensures ∙ ap (λ (i : ℕ). splice a.store.now i a.v.now) c.string_start.ensures)
    c.string_length-old.ensures.0
    ∙ written a.store.now c.requires.good a.place c.requires.known a.v.now c.requires.fits
