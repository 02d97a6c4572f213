-- `state::start` meets its contract.
use Rattle.std.proofs.Common.{rules, ◌≡◌, replicate}
use Rattle.encoding.specs.Splices.{splice}
use Rattle.state.specs.KeepLaws.{started}
use Rattle.state.proofs.start.Goals as goal

pub returns : goal.returns
unfolding splice
returns c = let filled : c.fill.new.self ≡ replicate 32 140_737_488_355_328 = search rules in rw filled started
