-- `read` meets its contract.
use Rattle.std.proofs.Common.{subst}
use Rattle.std.proofs.lemmas.Result.{err_from_is_err_and}
use Rattle.calls.specs.Calls.{buffers}
use Rattle.encoding.specs.Meaning.{branch_meaning}
use Rattle.decoder.specs.Meaning.{part_meaning}
use Rattle.effects.specs.Reading.{RecordRead}
use Rattle.execution.specs.Laws.{reads, read_stops}
use Rattle.execution.proofs.read.Goals as goal

pub returns : goal.returns
returns c output p s =
    let went = c.read_record in
    let a = c.args in
    let moves = subst (λ r. RecordRead r a.store.now went.new.store a.state.now went.new.state a.input.now (part_meaning a.p)) c.in_ok-record.was went.ensures in
    rw c.take_branch.ensures
    (reads p a.input.now (buffers a.store.now a.state.now output) s c.in_ok-record.record went.new.store went.new.state (part_meaning a.p)
    (branch_meaning a.b) moves)

pub returns-in_err-record : goal.returns-in_err-record
returns-in_err-record c =
    let went = c.read_record in
    let a = c.args in
    let halts = subst (λ r. RecordRead r a.store.now went.new.store a.state.now went.new.state a.input.now (part_meaning a.p)) c.in_err-record.was went.ensures in
    let q = err_from_is_err_and c.from_residual.result c.from_residual.ensures.1 in
    rw (q.1, q.2)
    (λ output p s.
    read_stops p a.input.now (buffers a.store.now a.state.now output) s _ went.new.store went.new.state (part_meaning a.p) (branch_meaning a.b)
    halts)
