-- `statement_parser::steps::behind_unit` skips a unit.
use Rattle.std.proofs.Common.{sym, subst}
use Rattle.statement_parser.specs.BehindLaws.{unit_passed}
use Rattle.statement_parser.specs.Steps.{BehindUnit}
use Rattle.statement_parser.proofs.steps.behind_unit.Goals as goal

pub returns : goal.returns
returns c =
    let a = c.args in
    subst (BehindUnit a.text.now a.unit.now a.c) (sym c.unwrap_or.ensures)
    (unit_passed a.text.now a.unit.now a.c c.behind_word.result c.told-unit c.requires.0 c.behind_word.ensures)
