-- `register_calls::strigol_register_offer` keeps its promise.
use Rattle.std.proofs.Common.{ap, ◌∙◌}
use Rattle.register.specs.CallLaws.{offer_promise}
use Rattle.register.specs.Claims.{buffer_back}
use Rattle.register_calls.proofs.strigol_register_offer.Goals as goal

pub returns : goal.returns
returns c =
    let a = c.args in
    offer_promise a.buffer.now a.line.now _ (ap (λ k. buffer_back k c.offer.new.buffer) c.number_of.ensures ∙ c.offer.ensures)
