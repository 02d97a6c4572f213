-- `string_parser::cells::constant_call` reads STRING with a constant.
use Rattle.symbols.specs.Environment.{places_in}
use Rattle.numeric_parser.specs.OperandLaws.{then_broken, cell_lost}
use Rattle.string_parser.specs.CellLaws.{constant_called}
use Rattle.string_parser.proofs.cells.constant_call.Goals as goal

pub number_behind-requires : goal.number_behind-requires
number_behind-requires c = (c.in_ok-n.ensures c.args.mentioned.now c.requires).answer.ready

pub returns-in_err-n : goal.returns-in_err-n
returns-in_err-n c = cell_lost c.from_residual.ensures (then_broken _ (c.in_err-n.ensures c.args.mentioned.now c.requires).answer)

pub returns : goal.returns
returns c =
    constant_called (places_in c.args.known.now) c.in_ok-n.n (c.in_ok-n.ensures c.args.mentioned.now c.requires).answer c.number_behind.result
    c.number_behind.ensures
