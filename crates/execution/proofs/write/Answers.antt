-- `write` meets its contract: what stops its work stops it, and done it moves on.
use Rattle.std.proofs.lemmas.Result.{err_from_is_err_and}
use Rattle.calls.specs.Calls.{buffers}
use Rattle.execution.specs.Laws.{writes}
use Rattle.execution.proofs.write.Goals as goal

pub returns : goal.returns
returns c input p s =
    let a = c.args in
    let did = c.write_record in
    rw c.move_on.ensures (rw c.in_ok-notes.was at (writes p input (buffers a.store.now a.state.now a.output.now) s did.result did.new.state did.new.output _ did.ensures))

pub returns-in_err-notes : goal.returns-in_err-notes
returns-in_err-notes c =
    let a = c.args in
    let did = c.write_record in
    let q = err_from_is_err_and c.from_residual.result c.from_residual.ensures.1 in
    rw (q.1, q.2)
    (λ input p s. rw c.in_err-notes.was at (writes p input (buffers a.store.now a.state.now a.output.now) s did.result did.new.state did.new.output _ did.ensures))
