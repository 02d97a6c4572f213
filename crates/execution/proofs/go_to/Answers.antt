-- `go_to` meets its contract.
use Rattle.calls.specs.Calls.{buffers}
use Rattle.execution.specs.Laws.{goes}
use Rattle.execution.proofs.go_to.Goals as goal

pub returns : goal.returns
returns c store input output p s =
    let a = c.args in
    rw c.go_to.ensures (goes p input (buffers store a.state.now output) s a.k)
