-- `reading::read_record` meets its contract: the whole string or n bytes are asked for, or n is negative.
use Rattle.std.proofs.Common.{sym, subst, ℕ, Ok}
use Rattle.std.proofs.lemmas.Result.{err_from_is_err_and}
use Rattle.decoder.specs.Meaning.{length_meaning, part_meaning}
use Rattle.effects.specs.Reading.{NextRecord, RecordRead}
use Rattle.effects.specs.ReadingLaws.{first_halts, first_goes, whole_goes}
use Rattle.effects.proofs.reading.read_record.Goals as goal

pub returns-in_err-most-in-First : goal.returns-in_err-most-in-First
returns-in_err-most-in-First c =
    let a = c.args in
    let asks = c.in_err-most-in-First.ensures a.store.now in
    let p = err_from_is_err_and c.from_residual.result c.from_residual.ensures.1 in
    rw (p.1, p.2, asks.1, c.in-First.is)
    (first_halts a.store.now a.state.now a.input.now c.in-First.place (length_meaning c.in-First.n) asks.0)

pub returns-in-Whole : goal.returns-in-Whole
returns-in-Whole c =
    let a = c.args in
    let went = c.read_next in
    subst (λ p. RecordRead (Ok went.result) a.store.now went.new.store a.state.now went.new.state a.input.now (part_meaning p)) (sym c.in-Whole.is)
    (whole_goes a.store.now went.new.store a.state.now went.new.state a.input.now c.in-Whole.place went.result went.ensures)

pub returns-in_ok-most-in-First : goal.returns-in_ok-most-in-First
returns-in_ok-most-in-First c =
    let a = c.args in
    let went = c.read_next-in-First in
    let n = length_meaning c.in-First.n in
    let asks = c.in_ok-most-in-First.ensures a.store.now in
    let next = subst (λ (j : ℕ). NextRecord went.result a.store.now went.new.store a.state.now went.new.state a.input.now c.in-First.place j)
    asks.1 went.ensures in
    subst (λ p. RecordRead (Ok went.result) a.store.now went.new.store a.state.now went.new.state a.input.now (part_meaning p)) (sym c.in-First.is)
    (first_goes a.store.now went.new.store a.state.now went.new.state a.input.now c.in-First.place went.result n asks.0 next)
