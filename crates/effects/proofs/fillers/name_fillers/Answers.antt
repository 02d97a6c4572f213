-- `fillers::name_fillers` meets its contract. The invariant: naming the pieces that are left leaves the memory asked for, and the string searched
-- is as it was.
use Rattle.std.proofs.Common.{refl, sym, ap, ◌∙◌, arith, List, ℕ, ◌≡◌, ◌≤◌, ◌+◌, ◌-◌, ◌++◌, ◌∷◌, [], length, take, drop, length-append, length-drop}
use Rattle.std.proofs.Math.ListN.{get_or, length-take}
use mathlib.Core.Logic.{⊎_elim}
use Rattle.base.specs.ListLaws.{length_stretch, stretch_within}
use Rattle.encoding.specs.Meaning.{direction_meaning}
use Rattle.store.specs.Clauses.{string_of}
use Rattle.effects.specs.Fillers.{lengths_in, renamed}
use Rattle.effects.specs.FillerLaws.{NextPiece, next_piece, namings_none, next_inside, namings_more, namings_all, renamed_other}
use Rattle.effects.specs.ReferenceLaws.{between_same, copied_same, reference_same, reference_size}
use Rattle.effects.specs.References.{turned_reference}
use Rattle.effects.proofs.fillers.name_fillers.Goals.{In-Some}
use Rattle.effects.proofs.fillers.name_fillers.Goals as goal

pub loop-name-init : goal.loop-name-init
loop-name-init c =
    rw c.into_iter-name-iterator.ensures.into_iter_gives (
      namings_none c.requires.pieces refl,
      refl,
      rw c.zip-name-items.ensures.first c.iter.ensures.rest,
      c.zip-name-items.ensures.second.0,
    )

-- the next piece
piece : (c : In-Some) → NextPiece c.args.names.now c.args.answer.now c.args.count (length c.loop-name.yielded) c.in-Some.name.now c.in-Some.length.now
    c.next.new.self.a.rest.now c.next.new.self.b.rest.now
piece c =
    let steps = c.in-Some.ensures.steps in
    let left = c.loop-name.invariant in
    next_piece c.args.names.now c.args.answer.now c.args.count (length c.loop-name.yielded) (sym left.2 ∙ steps.0) (sym left.3 ∙ steps.1)

-- it lies in the bytes searched
inside : (c : In-Some) → c.loop-name.start + c.in-Some.length.now ≤ c.args.at.to - c.args.at.from
inside c =
    let a = c.args in
    let p = piece c in
    omega (
      arith,
      next_inside c.told-answer c.requires.pieces c.loop-name.invariant.0 p.below,
      p.length_is,
      reference_size a.store.now (direction_meaning a.d) a.at c.requires.between,
    )

pub name_piece-requires : goal.name_piece-requires
name_piece-requires c =
    let left = c.loop-name.invariant in
    record {
      good = left.0.stays.good;
      between = between_same c.requires.between left.1;
      copied = copied_same c.args.store.now c.loop-name.store c.args.at c.args.turned.now (direction_meaning c.args.d) c.requires.copied left.1;
      inside = inside (goal.at.name_piece-requires c).In-Some;
    }

pub overflow_add-start : goal.overflow_add-start
overflow_add-start c = record { fits = omega (arith, inside (goal.at.overflow_add-start c).In-Some, c.requires.pieces.short, c.requires.between.within) }

pub loop-name-preserved : goal.loop-name-preserved
loop-name-preserved c =
    let a = c.args in
    let l = c.loop-name in
    let q = c.requires in
    let d = direction_meaning a.d in
    let p = piece (goal.at.loop-name-preserved c).In-Some in
    let name = get_or a.names.now (length l.yielded) 0 in
    let v = take c.in-Some.length.now (drop l.start (turned_reference a.store.now d a.at)) in
    let named : c.name_piece.new.store ≡ renamed l.store name v =
    c.name_piece.ensures
    ∙ ap (λ (r : List ℕ). renamed l.store c.in-Some.name.now (take c.in-Some.length.now (drop l.start r))) (reference_same a.store.now l.store d a.at l.invariant.1)
    ∙ ap (λ (i : ℕ). renamed l.store i v) p.name_is in
    let short : length v ≤ 1024 = omega (arith, stretch_within (turned_reference a.store.now d a.at) l.start c.in-Some.length.now, q.pieces.short) in
    let stays = renamed_other l.store l.invariant.0.stays.good name v short a.at.place q.between.known (q.apart (length l.yielded) p.below) in
    let more : length (l.yielded ++ ((c.in-Some.name, c.in-Some.length) ∷ [])) ≡ length l.yielded + 1 = simp length-append refl in
    rw more (
      namings_more c.told-answer q.pieces l.invariant.0 p.below p.length_is named,
      ap (λ (s : List ℕ). string_of s a.at.place) named ∙ stays ∙ l.invariant.1,
      p.places_are,
      p.lengths_are,
    )

pub returns : goal.returns
returns c =
    let l = c.loop-name in
    let answer = c.args.answer.now in
    let all : c.args.count ≤ length l.yielded =
    ⊎_elim
    (λ e. omega (arith, e.1.0, ap length l.invariant.2, length-drop (length l.yielded) (take c.args.count c.args.names.now), length-take c.args.count c.args.names.now, c.requires.pieces.places))
    (λ e. omega (arith, e.1.0, ap length l.invariant.3, length-drop (length l.yielded) (lengths_in answer 20), length_stretch answer 4 20 (omega (arith, c.told-answer)), c.requires.pieces.few))
    c.in-None.ensures.steps in
    namings_all c.told-answer c.requires.pieces l.invariant.0 all
