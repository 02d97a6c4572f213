-- `set_string` meets its contract: what stops its work stops it, and done it moves on.
use Rattle.std.proofs.lemmas.Result.{err_from_is_err_and}
use Rattle.calls.specs.Calls.{buffers}
use Rattle.decoder.specs.Meaning.{part_meaning}
use Rattle.execution.specs.Laws.{sets_string}
use Rattle.execution.proofs.set_string.Goals as goal

pub returns : goal.returns
returns c input output p s =
    let a = c.args in
    let did = c.set_string in
    rw c.move_on.ensures (rw c.in_ok-notes.was at (sets_string p input (buffers a.store.now a.state.now output) s did.result did.new.store (part_meaning a.p) _ did.ensures))

pub returns-in_err-notes : goal.returns-in_err-notes
returns-in_err-notes c =
    let a = c.args in
    let did = c.set_string in
    let q = err_from_is_err_and c.from_residual.result c.from_residual.ensures.1 in
    rw (q.1, q.2)
    (λ input output p s. rw c.in_err-notes.was at (sets_string p input (buffers a.store.now a.state.now output) s did.result did.new.store (part_meaning a.p) _ did.ensures))
