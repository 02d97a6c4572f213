-- `register_reading::read_slots` meets its contract. The loop's invariant: the slots before slot k are read, and those from it on are left.
use Rattle.std.proofs.Common.{Bool, false, ◌≡◌, ◌*◌, ◌+◌, get_or, arith, drop, eq-eqb, ne_eqb, sym, ap, ◌∙◌, subst, length-drop}
use Rattle.std.proofs.Math.ListN.{length, length-replicate}
use borrow.Author.Tests.{not-false}
use Rattle.base.specs.Lists.{among}
use Rattle.register_reading.specs.Reading.{KeyNoted, slot_key}
use Rattle.register_reading.specs.SlotLaws.{SlotsReadTo, read_all, read_bad, read_ends, read_more, read_none, read_twice, slot_next, slots_noted}
use Rattle.register_reading.proofs.read_slots.Goals as goal

pub loop-k-init : goal.loop-k-init
loop-k-init c =
    let a = c.args in
    let e = c.enumerate-k-items.ensures in
    let same = c.into_iter-k-iterator.ensures.into_iter_gives in
    let count = ap (λ i. i.count) same ∙ e.count in (
      subst (SlotsReadTo a.fields a.slots.now c.clear.new.self.items _) (sym count)
          (read_none a.fields a.slots.now c.clear.new.self.items _ c.clear.ensures (length-replicate {A = Bool} 4093 false)),
      ap (λ i. i.iter.rest.now) same ∙ ap (λ i. i.rest.now) e.source ∙ c.chunks_exact.ensures.rest ∙ sym (ap (λ m. drop (28 * m) a.slots.now) count),
      ap (λ i. i.iter.size) same ∙ ap (λ i. i.size) e.source ∙ c.chunks_exact.ensures.size,
    )

pub ends_at-requires : goal.ends_at-requires
ends_at-requires c =
    let slots = c.args.slots.now in
    let l = c.loop-k in
    let i = l.invariant in
    let s = c.in-Some.ensures.steps in
    let k = c.in-Some.k in
    let next = slot_next c.args.fields slots l.keys.items l.marks _ c.in-Some.slot.now _ k _ i.0 i.1 c.requires s.1 s.0.1.0 (s.0.1.1 ∙ i.2) in
    (c.requires, next.inside)

pub returns-then-slot-eq0 : goal.returns-then-slot-eq0
returns-then-slot-eq0 c =
    let slots = c.args.slots.now in
    let l = c.loop-k in
    let i = l.invariant in
    let s = c.in-Some.ensures.steps in
    let k = c.in-Some.k in
    let next = slot_next c.args.fields slots l.keys.items l.marks _ c.in-Some.slot.now _ k _ i.0 i.1 c.requires s.1 s.0.1.0 (s.0.1.1 ∙ i.2) in
    read_ends c.args.fields slots l.keys.items l.marks k next.read next.inside
    (eq-eqb (get_or slots (28 * k) 0) 0 (next.first ∙ c.if-slot-eq0.true)) c.ends_at.result c.ends_at.ensures

pub returns-in_default : goal.returns-in_default
returns-in_default c =
    let slots = c.args.slots.now in
    let l = c.loop-k in
    let i = l.invariant in
    let s = c.in-Some.ensures.steps in
    let k = c.in-Some.k in
    let next = slot_next c.args.fields slots l.keys.items l.marks _ c.in-Some.slot.now _ k _ i.0 i.1 c.requires s.1 s.0.1.0 (s.0.1.1 ∙ i.2) in
    read_bad c.args.fields slots l.keys.items l.marks k next.read next.inside
    (ne_eqb (get_or slots (28 * k) 0) 0 (λ z. c.if-slot-eq0.false (sym next.first ∙ z)))
    (ap (slot_key c.args.fields) next.is ∙ sym c.in_default.ensures)

pub note-requires : goal.note-requires
note-requires c =
    let slots = c.args.slots.now in
    let l = c.loop-k in
    let i = l.invariant in
    let s = c.in-Some.ensures.steps in
    let k = c.in-Some.k in
    let next = slot_next c.args.fields slots l.keys.items l.marks _ c.in-Some.slot.now _ k _ i.0 i.1 c.requires s.1 s.0.1.0 (s.0.1.1 ∙ i.2) in
    (next.read.marked, omega (arith, slots_noted c.args.fields slots l.keys.items l.marks k next.read, next.inside))

pub returns-then-not-note : goal.returns-then-not-note
returns-then-not-note c =
    let slots = c.args.slots.now in
    let l = c.loop-k in
    let i = l.invariant in
    let s = c.in-Some.ensures.steps in
    let k = c.in-Some.k in
    let next = slot_next c.args.fields slots l.keys.items l.marks _ c.in-Some.slot.now _ k _ i.0 i.1 c.requires s.1 s.0.1.0 (s.0.1.1 ∙ i.2) in
    let n = c.note in
    read_twice c.args.fields slots l.keys.items l.marks k next.read next.inside
    (ne_eqb (get_or slots (28 * k) 0) 0 (λ z. c.if-slot-eq0.false (sym next.first ∙ z))) c.in-Some-slot_key.key
    (ap (slot_key c.args.fields) next.is ∙ sym c.in-Some-slot_key.ensures)
    n.new.keys.items
    (not-false (among c.in-Some-slot_key.key l.keys.items) (sym n.ensures.new ∙ c.if-not-note.true))

pub loop-k-preserved : goal.loop-k-preserved
loop-k-preserved c =
    let slots = c.args.slots.now in
    let l = c.loop-k in
    let i = l.invariant in
    let s = c.in-Some.ensures.steps in
    let k = c.in-Some.k in
    let next = slot_next c.args.fields slots l.keys.items l.marks _ c.in-Some.slot.now _ k _ i.0 i.1 c.requires s.1 s.0.1.0 (s.0.1.1 ∙ i.2) in
    let n = c.note in
    let count : k + 1 ≡ c.next.new.self.count = ap (λ m. m + 1) s.1 ∙ sym s.2 in (
      subst (SlotsReadTo c.args.fields slots n.new.keys.items n.new.marks) count
          (read_more c.args.fields slots l.keys.items l.marks k next.read next.inside
          (ne_eqb (get_or slots (28 * k) 0) 0 (λ z. c.if-slot-eq0.false (sym next.first ∙ z))) c.in-Some-slot_key.key
          (ap (slot_key c.args.fields) next.is ∙ sym c.in-Some-slot_key.ensures)
          n.new.keys.items n.new.marks
          (subst (λ r. KeyNoted l.keys.items c.in-Some-slot_key.key r n.new.keys.items n.new.marks) c.if-not-note.false n.ensures)),
      next.rest ∙ ap (λ m. drop (28 * m) slots) count,
      s.0.0 ∙ i.2,
    )

pub returns : goal.returns
returns c =
    let slots = c.args.slots.now in
    let l = c.loop-k in
    let i = l.invariant in
    let k = l.k-iterator.count in
    let all : k ≡ 256 =
    omega (arith, c.requires, i.0.few, length-drop (28 * k) slots, ap length i.1, i.2, c.in-None.ensures.steps.0.1.0) in
    read_all c.args.fields slots l.keys.items l.marks k i.0 all
