-- `if_null` meets its contract: the branch is taken.
use Rattle.std.proofs.Common.{sym}
use Rattle.calls.specs.Calls.{buffers}
use Rattle.encoding.specs.Meaning.{branch_meaning}
use Rattle.execution.specs.Laws.{tests}
use Rattle.execution.proofs.if_null.Goals as goal

pub returns : goal.returns
returns c input output p s =
    let a = c.args in
    rw c.take_branch.ensures
    (tests p input (buffers a.store.now a.state.now output) s c.is_null-null.result 0 _ (branch_meaning a.b) (sym (c.is_null-null.ensures a.state.now)))
