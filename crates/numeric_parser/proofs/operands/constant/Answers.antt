-- `numeric_parser::operands::constant` reads a constant into its cell.
use Rattle.std.proofs.Common.{refl, pos}
use Rattle.lexer.specs.Laws.{constant_is, constant_ends}
use Rattle.encoding.specs.Numerals.{bias, biased}
use Rattle.encoding.specs.Table as Table
use Rattle.numeric_parser.specs.OperandLaws.{value_got}
use Rattle.numeric_parser.proofs.operands.constant.Goals as goal

pub returns : goal.returns
unfolding biased bias
returns c =
    let a = c.args in
    let u = c.in_ok-number.ensures in
    let ends = constant_ends u refl in
    λ m ready.
    record {
      answer =
          value_got (λ n. Table.cell a.kind a.place (biased (pos n))) c.in_ok-number.number.value _ c.in_ok-number.number.next ready
          (constant_is u refl) ends.0 ends.1 refl c.skip.ensures;
    }
