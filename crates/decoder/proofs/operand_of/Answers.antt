-- `decoder::operand_of` meets its contract.
use borrow.Author.Rules.{rules}
use Rattle.encoding.specs.Meaning.{cell_meaning}
use Rattle.decoder.proofs.Cells.{constant_operand, number_operand, length_operand, part_operand}
use Rattle.decoder.proofs.operand_of.Goals as goal

pub returns-in-32 : goal.returns-in-32
returns-in-32 c = constant_operand (cell_meaning c.args.c) c.unbiased.result c.in-32.is c.unbiased.ensures

pub returns-in-33 : goal.returns-in-33
returns-in-33 c = number_operand (cell_meaning c.args.c) c.in-33.is

pub returns-in-34 : goal.returns-in-34
returns-in-34 c = length_operand (cell_meaning c.args.c) c.in-34.is

pub returns-in_default : goal.returns-in_default
returns-in_default c =
    part_operand (cell_meaning c.args.c) c.part_of.result (search rules) (search rules) (search rules)
    c.part_of.ensures
