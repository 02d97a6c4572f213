-- `decoder::stretch_of` meets its contract.
use mathlib.Core.Path.{refl}
use Rattle.encoding.specs.TableReading.{range_from, range_count}
use Rattle.decoder.proofs.stretch_of.Goals as goal

pub returns : goal.returns
unfolding range_from range_count
returns c = record { from = refl; count = refl }
