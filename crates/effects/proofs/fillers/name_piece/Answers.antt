-- `fillers::name_piece` meets its contract: the piece lies there in the string, or in its copy.
use mathlib.Core.List.{List}
use mathlib.Core.Path.{◌≡◌, sym, ap, ◌∙◌}
use Prim.Native.Nat.{ℕ, ◌+◌, ◌≤◌}
use lib.ListN.{length, take, drop}
use native.Mathlib.Omega.{arith}
use Rattle.std.proofs.Common.{lt-ltb}
use Rattle.base.specs.ListLaws.{length_stretch, stretch_cut}
use Rattle.encoding.specs.BufferLaws.{good_short, store_with}
use Rattle.encoding.specs.Meaning.{direction_meaning}
use Rattle.encoding.specs.declared.cells.Direction.{Direction}
use Rattle.machine.specs.Scanning.{turned}
use Rattle.store.specs.Clauses.{string_of}
use Rattle.effects.specs.Fillers.{renamed}
use Rattle.effects.specs.ReferenceLaws.{copied_is, reference_size, stretch_piece}
use Rattle.effects.specs.References.{stretch_of, turned_reference}
use Rattle.effects.proofs.fillers.name_piece.Goals.{In-Backward}
use Rattle.effects.proofs.fillers.name_piece.Goals as goal

-- the copy is what is searched, and the piece lies in it
copy : (c : In-Backward) → c.args.turned.now ≡ turned_reference c.args.store.now (direction_meaning c.args.d) c.args.at
copy c =
    let a = c.args in
    copied_is a.store.now a.at a.turned.now (direction_meaning a.d) (ap direction_meaning c.in-Backward.is) c.requires.copied

inside : (c : In-Backward) → c.args.start + c.args.n ≤ length c.args.turned.now
inside c =
    let a = c.args in
    omega (arith, ap length (copy c), reference_size a.store.now (direction_meaning a.d) a.at c.requires.between, c.requires.inside)

pub slice_bounds-put-end : goal.slice_bounds-put-end
slice_bounds-put-end c = inside (goal.at.slice_bounds-put-end c).In-Backward

pub put-requires : goal.put-requires
put-requires c =
    let a = c.args in
    let b = c.requires.between in
    let fits = good_short a.store.now c.requires.good a.at.place in
    let size = length_stretch a.turned.now a.start a.n (inside (goal.at.put-requires c).In-Backward) in
    record {
      good = c.requires.good;
      known = c.if-place-lt-STRINGS.true;
      fits = omega (arith, ap length (stretch_cut a.turned.now a.start a.n), size, c.requires.inside, b.within, fits);
    }

pub returns-in-Forward : goal.returns-in-Forward
unfolding renamed turned
returns-in-Forward c =
    let a = c.args in
    let v = string_of a.store.now a.at.place in
    let there = stretch_piece v a.at.from a.at.to a.start a.n c.requires.inside in
    rw (lt-ltb a.place 32 c.if-place-lt-STRINGS.true)
    (c.put_piece.ensures
    ∙ ap (store_with a.store.now a.place) (sym there)
    ∙ ap (λ (d : Direction). store_with a.store.now a.place (take a.n (drop a.start (turned (direction_meaning d) (stretch_of v a.at.from a.at.to)))))
    (sym c.in-Forward.is))

pub returns-in-Backward : goal.returns-in-Backward
unfolding renamed
returns-in-Backward c =
    let a = c.args in
    let same = copy (goal.at.returns-in-Backward c).In-Backward in
    rw (lt-ltb a.place 32 c.if-place-lt-STRINGS.true)
    (c.put.ensures
    ∙ ap (store_with a.store.now a.place) (stretch_cut a.turned.now a.start a.n ∙ ap (λ (l : List ℕ). take a.n (drop a.start l)) same))
