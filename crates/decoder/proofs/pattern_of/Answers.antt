-- `decoder::pattern_of` meets its contract.
use borrow.Author.Rules.{rules}
use Rattle.encoding.specs.Meaning.{cell_meaning}
use Rattle.decoder.proofs.Cells.{free_pattern, fixed_pattern, numbered_fixed_pattern, value_pattern}
use Rattle.decoder.proofs.pattern_of.Goals as goal

pub returns-in-96 : goal.returns-in-96
returns-in-96 c t = free_pattern (cell_meaning c.args.c) t c.in-96.is

pub returns-in-97 : goal.returns-in-97
returns-in-97 c t = fixed_pattern (cell_meaning c.args.c) t c.unbiased.result c.in-97.is c.unbiased.ensures

pub returns-in-98 : goal.returns-in-98
returns-in-98 c t = numbered_fixed_pattern (cell_meaning c.args.c) t c.in-98.is

pub returns-in_default : goal.returns-in_default
returns-in_default c t =
    value_pattern (cell_meaning c.args.c) t c.element_of.result (search rules) (search rules) (search rules)
    (c.element_of.ensures t)
