-- `execute` meets its contract.
use Rattle.calls.specs.Calls.{buffers}
use Rattle.execution.specs.Laws.{executes}
use Rattle.execution.proofs.execute.Goals as goal

pub returns : goal.returns
returns c store input output p s =
    let a = c.args in
    rw (c.go_to.ensures, c.push_return.ensures, c.next_step-next.ensures)
    (executes p input (buffers store a.state.now output) s a.k c.requires.0)
