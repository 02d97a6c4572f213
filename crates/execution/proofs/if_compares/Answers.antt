-- `if_compares` meets its contract: what stops the test stops it, and else the branch is taken.
use Rattle.std.proofs.lemmas.Result.{err_from_is_err_and}
use Rattle.calls.specs.Calls.{buffers}
use Rattle.encoding.specs.Meaning.{branch_meaning}
use Rattle.evaluator.specs.Laws.{truth_is, truth_stops}
use Rattle.execution.specs.Laws.{tests, test_stops}
use Rattle.execution.proofs.if_compares.Goals as goal

pub returns : goal.returns
returns c input output p s =
    let a = c.args in
    let test = c.in_ok-test.test in
    rw c.take_branch.ensures
    (tests p input (buffers a.store.now a.state.now output) s test.value test.notes _ (branch_meaning a.b) (truth_is (c.compares.ensures) c.in_ok-test.was))

pub returns-in_err-test : goal.returns-in_err-test
returns-in_err-test c =
    let a = c.args in
    let q = err_from_is_err_and c.from_residual.result c.from_residual.ensures.1 in
    rw (q.1, q.2)
    (λ input output p s.
    test_stops p input (buffers a.store.now a.state.now output) s _ _ (branch_meaning a.b) (truth_stops (c.compares.ensures) c.in_err-test.was))
