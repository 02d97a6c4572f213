-- `symbols::key_place` finds a key.
use Rattle.symbols.proofs.Finding.{place_or_count}
use Rattle.symbols.proofs.key_place.Goals as goal

pub returns : goal.returns
returns c = place_or_count c.args.key c.args.keys.now c.place.ensures c.unwrap_or.ensures
