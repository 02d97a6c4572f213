-- `store::replace` meets its contract: what is written is the new string where its length stays; what is moved and written is, ended anew.
use mathlib.Core.List.{List}
use mathlib.Core.Path.{ap, ap₂, ◌∙◌}
use Prim.Native.Nat.{ℕ, ◌+◌, ◌-◌}
use lib.ListN.{length}
use native.Mathlib.Omega.{arith}
use Rattle.encoding.specs.Splices.{splice}
use Rattle.store.specs.Clauses.{ended_anew}
use Rattle.store.specs.CellLaws.{moved_behind, overwritten, rewritten}
use Rattle.store.proofs.replace.Goals as goal

pub returns-then-new-old : goal.returns-then-new-old
returns-then-new-old c =
    let a = c.args in
    let old = c.string_length-old in
    let start = c.string_start-start in
    c.write.ensures
    ∙ ap (λ (i : ℕ). splice a.store.now (i + a.from) a.v.now) start.ensures
    ∙ overwritten a.store.now c.requires.good a.place c.requires.known a.from a.to a.v.now c.requires (omega (arith, old.ensures.0))

pub returns : goal.returns
unfolding moved_behind
returns c =
    let a = c.args in
    let n = length a.v.now in
    let old = c.string_length-old.result in
    c.set_end.ensures
    ∙ ap (λ (l : List ℕ). ended_anew l a.place old (a.from + n + (old - a.to)))
    (c.write-2.ensures
    ∙ ap (λ (l : List ℕ). splice l (c.string_start-start.result + a.from) a.v.now) c.slide.ensures)
    ∙ ap₂ (λ (i o : ℕ). ended_anew (moved_behind a.store.now i a.from a.to o a.v.now) a.place o (a.from + n + (o - a.to)))
    c.string_start-start.ensures c.string_length-old.ensures.0
    ∙ rewritten a.store.now c.requires.good a.place c.requires.known a.from a.to a.v.now c.requires
