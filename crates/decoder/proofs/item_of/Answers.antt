-- `decoder::item_of` meets its contract.
use borrow.Author.Rules.{rules}
use mathlib.Core.Path.{◌∙◌, ap}
use native.Mathlib.Omega.{arith}
use Rattle.syntax.specs.Program as Program
use Rattle.encoding.specs.Kinds.{operator_number, sign_number}
use Rattle.encoding.specs.TableReading.{item_of_cell}
use Rattle.encoding.specs.Meaning.{cell_meaning}
use Rattle.decoder.proofs.Cells.{operator_item, operand_item}
use Rattle.decoder.proofs.item_of.Goals as goal

pub returns-in-16 : goal.returns-in-16
unfolding operator_number
returns-in-16 c = ap Program.operator c.operator_of.ensures ∙ operator_item (cell_meaning c.args.c) (omega arith) (omega arith)

pub returns-in-24 : goal.returns-in-24
unfolding item_of_cell
returns-in-24 c = rw c.in-24.is

pub returns-in-25 : goal.returns-in-25
unfolding item_of_cell
returns-in-25 c = rw c.in-25.is

pub returns-in_default : goal.returns-in_default
unfolding operator_number sign_number
returns-in_default c =
    operand_item (cell_meaning c.args.c) c.operand_of.result (search rules) (search rules)
    (search rules) (search rules) (search rules) (search rules) c.operand_of.ensures
