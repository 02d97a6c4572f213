-- `effects::take_record` meets its contract: there is no record to be read, or the bytes put are those of the record.
use Rattle.std.proofs.Common.{ℕ, Some, ◌+◌, min, sym, subst, ◌≡◌, ◌-◌, ◌≤◌, ◌∙◌, ap, arith, length, drop, take, length-drop}
use Rattle.base.specs.ListLaws.{stretch_cut}
use Rattle.encoding.specs.BufferLaws.{store_with}
use Rattle.store.specs.SpanLaws.{record_within}
use Rattle.effects.specs.Laws.{none_asked, none_left, took_some}
use Rattle.effects.specs.Leaving.{RecordTaken}
use Rattle.effects.proofs.take_record.Goals.{After-next_record-n, then-most-eq0-via-then-most-eq0, then-most-eq0-via-else-most-eq0+then-left-eq0}
use Rattle.effects.proofs.take_record.Goals as goal

pub returns-then-most-eq0 : goal.returns-then-most-eq0
returns-then-most-eq0 c =
    let a = c.args in
    elim c.then-most-eq0.branch [
      | then-most-eq0-via-then-most-eq0 w ↦ none_asked a.store.now a.input.now a.place a.most a.from c.requires w.if-most-eq0.true
      | then-most-eq0-via-else-most-eq0+then-left-eq0 w ↦ none_left a.store.now a.input.now a.place a.most a.from c.requires w.if-left-eq0.true
    ]

-- the record ends in the input
within : (c : After-next_record-n) → c.next_record-n.result ≤ length c.args.input.now - c.args.from
within c =
    let rest = drop c.args.from c.args.input.now in
    omega (arith, record_within rest, c.next_record-n.ensures, length-drop c.args.from c.args.input.now)

pub slice_bounds-put-end : goal.slice_bounds-put-end
slice_bounds-put-end c = omega (arith, within (goal.at.slice_bounds-put-end c).After-next_record-n)

pub overflow_add-n : goal.overflow_add-n
overflow_add-n c = omega (arith, within (goal.at.overflow_add-n c).After-next_record-n)

pub returns : goal.returns
returns c =
    let a = c.args in
    let n = c.next_record-n.result in
    let from = a.from in
    let room : c.min-room.result ≡ min a.most 1024 = c.min-room.ensures in
    let wanted : c.min.result ≡ min n (min a.most 1024) = c.min.ensures ∙ ap (min n) room in
    let dropped : c.saturating_sub.result ≡ n - min a.most 1024 = c.saturating_sub.ensures ∙ ap (λ (j : ℕ). n - j) room in
    subst (λ (j : ℕ). RecordTaken a.store.now c.put.new.store a.input.now a.place a.most from (Some (from + j)) c.saturating_sub.result)
    (sym c.min-2.ensures)
    (subst (RecordTaken a.store.now c.put.new.store a.input.now a.place a.most from (Some (from + min (n + 1) (length a.input.now - from))))
    (sym dropped)
    (took_some a.store.now a.input.now a.place a.most from c.requires (omega arith) (omega arith) n c.next_record-n.ensures c.put.new.store
    (c.put.ensures
    ∙ ap (store_with a.store.now a.place)
    (stretch_cut a.input.now from c.min.result ∙ ap (λ (j : ℕ). take j (drop from a.input.now)) wanted))
    (within (goal.at.returns c).After-next_record-n)))
