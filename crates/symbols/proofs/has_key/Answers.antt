-- `symbols::has_key` asks whether one of the keys is equal.
use mathlib.Core.Path.{◌∙◌}
use Rattle.symbols.proofs.Finding.{any_equal}
use Rattle.symbols.proofs.has_key.Goals as goal

pub returns : goal.returns
returns c = c.contains.ensures.value ∙ any_equal c.args.key c.args.keys.now
