-- `replacing::replace_pieces` meets its contract: there is no replacement, or the pieces lie in the string as the direction says.
use mathlib.Core.Path.{refl, sym, ap, ap₂, subst, ◌∙◌}
use Prim.Native.Nat.{ℕ, ◌-◌}
use native.Mathlib.Omega.{arith}
use Rattle.encoding.specs.BufferLaws.{good_short}
use Rattle.decoder.specs.Holds.{ReplacementHolds}
use Rattle.encoding.specs.Meaning.{direction_meaning}
use Rattle.effects.specs.Laws.{stays_same}
use Rattle.effects.specs.Replacing.{stored_turned}
use Rattle.effects.specs.ReplacingLaws.{found_from, found_to}
use Rattle.effects.specs.ValuedLaws.{stored_as}
use Rattle.values.specs.Result.{pure}
use Rattle.scan_statement.specs.Stages.{replaced_by}
use Rattle.scan_statement.proofs.replacing.replace_pieces.Goals as goal

pub pieces_length-n-requires : goal.pieces_length-n-requires
pieces_length-n-requires c = c.requires.replaceable.counting

pub found_from-from-requires : goal.found_from-from-requires
found_from-from-requires c = record {
  from_le_to = c.requires.replaceable.between.order;
  n_bound = omega (arith, c.requires.replaceable.inside, c.pieces_length-n.ensures);
}

pub overflow_add-found : goal.overflow_add-found
overflow_add-found c =
    let short = good_short c.args.store.now c.requires.replaceable.ready.strings c.args.at.place in
    record { fits = omega (arith, c.found_from-from.ensures.2, c.requires.replaceable.between.within, short) }

pub replace_found-requires : goal.replace_found-requires
replace_found-requires c =
    let by = c.in-Some.is in
    let end = c.found_from-from.ensures.2 in record {
      value_spellable = record { bytes = c.requires.replaceable.bytes; ready = c.requires.replaceable.ready; elements = subst (ReplacementHolds c.args.table.now) by c.requires.replaceable.replacement };
      between = record { known = c.requires.replaceable.between.known; order = omega arith; within = omega (arith, c.requires.replaceable.between.within, end) };
      out_len = c.requires.out_len;
    }

pub returns-in-None : goal.returns-in-None
unfolding pure
returns-in-None c =
    let a = c.args in
    stored_as _ a.store.now _ a.state.now _ _
    (ap
    (replaced_by a.table.now a.store.now a.state.now (direction_meaning a.s.direction) a.at _ _)
    c.in-None.is)
    (record { leaves = (stays_same a.store.now c.requires.replaceable.ready.strings, refl) })

pub returns-in-Some : goal.returns-in-Some
returns-in-Some c =
    let a = c.args in
    let way = direction_meaning a.s.direction in
    let size = a.at.to - a.at.from in
    let sum = c.pieces_length-n in
    stored_as _ a.store.now _ a.state.now _ _
    (ap (replaced_by a.table.now a.store.now a.state.now way a.at _ _) c.in-Some.is
    ∙ ap₂ (λ (i j : ℕ). stored_turned a.table.now a.store.now a.state.now way a.at.place (found_from way a.at.from size i j) (found_to way a.at.from size i j) c.in-Some.by)
    refl (sym sum.ensures)
    ∙ ap₂ (λ (from to : ℕ). stored_turned a.table.now a.store.now a.state.now way a.at.place from to c.in-Some.by)
    (sym c.found_from-from.ensures.0) (sym c.found_from-from.ensures.1))
    c.replace_found.ensures
