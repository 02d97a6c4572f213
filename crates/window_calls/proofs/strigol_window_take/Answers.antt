-- `window_calls::strigol_window_take` keeps its promise.
use Rattle.std.proofs.Common.{ap, ◌∙◌}
use Rattle.window.specs.CallLaws.{take_promise}
use Rattle.window.specs.Claims.{take_back}
use Rattle.window_calls.proofs.strigol_window_take.Goals as goal

pub returns : goal.returns
returns c =
    take_promise c.args.window.now c.args.price (take_back c.number_of.result c.take.new.summary c.take.new.window)
    (ap (λ n. take_back n c.take.new.summary c.take.new.window) c.number_of.ensures ∙ c.take.ensures)
