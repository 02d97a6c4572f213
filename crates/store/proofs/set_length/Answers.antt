-- `store::set_length` meets its contract.
use mathlib.Core.Path.{ap, ◌∙◌}
use Rattle.encoding.specs.Numerals.{in_bytes}
use Rattle.encoding.specs.Splices.{splice}
use Rattle.store.proofs.set_length.Goals as goal

pub returns : goal.returns
unfolding in_bytes
returns c = c.write.ensures ∙ ap (splice c.args.store.now c.args.at) c.to_le_bytes.ensures
