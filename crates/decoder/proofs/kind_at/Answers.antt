-- `decoder::kind_at` meets its contract.
use mathlib.Core.Path.{refl}
use Rattle.encoding.specs.Table.{steps_at}
use Rattle.encoding.specs.TableReading.{read_row_at}
use Rattle.decoder.proofs.kind_at.Goals as goal

pub returns : goal.returns
unfolding steps_at read_row_at
returns c = refl
