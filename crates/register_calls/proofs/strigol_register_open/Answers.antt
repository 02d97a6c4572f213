-- `register_calls::strigol_register_open` keeps its promise.
use Rattle.std.proofs.Common.{ap, ◌∙◌}
use Rattle.register.specs.CallLaws.{open_promise}
use Rattle.register.specs.Claims.{buffer_back}
use Rattle.register_calls.proofs.strigol_register_open.Goals as goal

pub returns : goal.returns
returns c =
    let a = c.args in
    open_promise a.buffer.now a.currency.now _ (ap (λ k. buffer_back k c.open.new.buffer) c.number_of.ensures ∙ c.open.ensures)
