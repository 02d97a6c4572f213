-- `set_number` meets its contract: what stops its work stops it, and done it moves on.
use Rattle.std.proofs.lemmas.Result.{err_from_is_err_and}
use Rattle.calls.specs.Calls.{buffers}
use Rattle.execution.specs.Laws.{sets_number_lem}
use Rattle.execution.proofs.set_number.Goals as goal

pub returns : goal.returns
returns c input output p s =
    let a = c.args in
    let did = c.assign in
    rw c.move_on.ensures (rw c.in_ok-notes.was at (sets_number_lem p input (buffers a.store.now a.state.now output) s did.result did.new.state a.place _ c.requires.place_bound.0 did.ensures))

pub returns-in_err-notes : goal.returns-in_err-notes
returns-in_err-notes c =
    let a = c.args in
    let did = c.assign in
    let q = err_from_is_err_and c.from_residual.result c.from_residual.ensures.1 in
    rw (q.1, q.2)
    (λ input output p s. rw c.in_err-notes.was at (sets_number_lem p input (buffers a.store.now a.state.now output) s did.result did.new.state a.place _ c.requires.place_bound.0 did.ensures))
