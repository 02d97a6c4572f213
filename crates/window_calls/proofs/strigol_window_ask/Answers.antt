-- `window_calls::strigol_window_ask` keeps its promise.
use Rattle.std.proofs.Common.{ap, ◌∙◌}
use Rattle.window.specs.CallLaws.{ask_promise}
use Rattle.window.specs.Claims.{ask_back}
use Rattle.window_calls.proofs.strigol_window_ask.Goals as goal

pub returns : goal.returns
returns c =
    ask_promise c.args.window.now (ask_back c.number_of.result c.ask.new.summary)
    (ap (λ n. ask_back n c.ask.new.summary) c.number_of.ensures ∙ c.ask.ensures)
