-- `reading::read_next` meets its contract: it goes on behind the record, or from where it stood.
use mathlib.Core.Bool.{true, false}
use mathlib.Core.List.{List}
use mathlib.Core.Path.{subst}
use Prim.Native.Nat.{ℕ}
use lib.ListN.{get_or}
use Rattle.std.proofs.lemmas.List.{set-get_or}
use Rattle.machine.specs.Step.{cut_notes}
use Rattle.effects.specs.Leaving.{RecordTaken}
use Rattle.effects.specs.Reading.{NextRecord}
use Rattle.effects.specs.ReadingLaws.{goes_on}
use Rattle.effects.proofs.reading.read_next.Goals as goal

pub returns-in_default : goal.returns-in_default
returns-in_default c =
    let a = c.args in
    let went = c.take_record-record in
    let left = went.new.store in
    let from = get_or a.state.now 3 0 in
    let dropped = went.result.dropped in
    let none = subst (λ t. RecordTaken a.store.now left a.input.now a.place a.most from t dropped) c.in_default.is went.ensures in
    rw c.cut_notes-notes.ensures
    (subst
    (λ (l : List ℕ). NextRecord (record { value = false; notes = cut_notes dropped }) a.store.now left a.state.now l a.input.now a.place a.most)
    (set-get_or a.state.now 3 0)
    (goes_on a.store.now left a.state.now a.input.now a.place a.most from dropped false c.requires none.2))

pub returns : goal.returns
returns c =
    let a = c.args in
    let went = c.take_record-record in
    let left = went.new.store in
    let dropped = went.result.dropped in
    let some = subst (λ t. RecordTaken a.store.now left a.input.now a.place a.most (get_or a.state.now 3 0) t dropped) c.in-Some.is went.ensures in
    rw c.cut_notes-notes.ensures
    (goes_on a.store.now left a.state.now a.input.now a.place a.most c.in-Some.to dropped true c.requires some.1)
