-- `branch_parser::tests::if_operand` reads an operand of IF.
use mathlib.Core.Path.{sym, ◌∙◌}
use Rattle.symbols.specs.Environment.{places_in}
use Rattle.branch_parser.specs.TestLaws.{if_signed, if_called}
use Rattle.branch_parser.proofs.tests.if_operand.Goals as goal

pub returns-then-constant_at : goal.returns-then-constant_at
returns-then-constant_at c =
    let a = c.args in
    if_signed (places_in a.known.now) (sym c.constant_at.ensures ∙ c.if-constant_at.true)
    (c.signed_constant.ensures a.mentioned.now c.requires)

pub returns : goal.returns
returns c =
    if_called (places_in c.args.known.now)
    (sym c.constant_at.ensures ∙ c.if-constant_at.false) c.read_called.ensures
