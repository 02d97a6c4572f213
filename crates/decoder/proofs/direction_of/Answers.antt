-- `decoder::direction_of` meets its contract.
use borrow.Author.Rules.{rules}
use Rattle.decoder.proofs.Steps.{goes_forward, goes_backward}
use Rattle.decoder.proofs.direction_of.Goals as goal

pub returns-in-1 : goal.returns-in-1
returns-in-1 c = goes_forward c.args.flag c.in-1.is

pub returns-in_default : goal.returns-in_default
returns-in_default c = goes_backward c.args.flag (search rules)
