-- `decoder::scan_of` meets its contract.
use mathlib.Core.Path.{refl}
use Rattle.decoder.proofs.Steps.{branch_read}
use Rattle.decoder.proofs.scan_of.Goals as goal

pub returns : goal.returns
returns c =
    record {
      direction = c.direction_of.ensures;
      part = c.part_of.ensures;
      branch = branch_read c.args.r;
      pattern = c.stretch_of.ensures;
      replacement = refl;
    }
