-- `return_to` meets its contract.
use Rattle.calls.specs.Calls.{buffers}
use Rattle.execution.specs.Laws.{returns_to}
use Rattle.execution.proofs.return_to.Goals as goal

pub returns : goal.returns
returns c store input output p s =
    let popped = c.pop_return-k in
    rw c.go_to.ensures
    (returns_to p input (buffers store c.args.state.now output) s popped.new.state popped.result popped.ensures c.requires.0)
