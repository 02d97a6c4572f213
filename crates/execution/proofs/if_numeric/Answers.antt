-- `if_numeric` meets its contract: the branch is taken.
use Rattle.std.proofs.Common.{sym}
use Rattle.calls.specs.Calls.{buffers}
use Rattle.encoding.specs.Meaning.{branch_meaning}
use Rattle.execution.specs.Laws.{tests}
use Rattle.execution.proofs.if_numeric.Goals as goal

pub returns : goal.returns
returns c input output p s =
    let a = c.args in
    let test = c.is_numeric-test in
    rw c.take_branch.ensures
    (tests p input (buffers a.store.now a.state.now output) s test.result.value test.result.notes _ (branch_meaning a.b) (sym test.ensures))
