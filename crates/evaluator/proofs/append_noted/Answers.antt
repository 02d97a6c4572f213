-- `evaluator::append_noted` meets its contract.
use mathlib.Core.Path.{refl}
use Rattle.evaluator.proofs.append_noted.Goals as goal

pub returns : goal.returns
returns c =
    record {
      added = record {
        value = _;
        work = refl;
        size = refl;
        short = c.requires.short;
        follows = c.append.ensures.follows;
      };
      room = c.append.ensures.room;
    }
