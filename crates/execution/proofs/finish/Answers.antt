-- `finish` meets its contract.
use Rattle.calls.specs.Calls.{buffers}
use Rattle.execution.specs.Laws.{finishes}
use Rattle.execution.proofs.finish.Goals as goal

pub returns : goal.returns
returns c store input output p s =
    rw c.finish.ensures (finishes p input (buffers store c.args.state.now output) s)
