-- `numeric_parser::operands::signed_constant` reads a constant with its sign into its cell.
use Rattle.std.proofs.Common.{refl, sym, ap, arith}
use Rattle.encoding.specs.Numerals.{biased}
use Rattle.encoding.specs.Table as Table
use Rattle.lexer.specs.Laws.{signed_is, signed_range, signed_ends, signed_broken}
use Rattle.numeric_parser.specs.OperandLaws.{value_got, cell_lost}
use Rattle.numeric_parser.proofs.operands.signed_constant.Goals as goal

pub with_bias-value-requires : goal.with_bias-value-requires
with_bias-value-requires c = signed_range c.in_ok-number.ensures refl

pub overflow_sub-number : goal.overflow_sub-number
overflow_sub-number c = omega (arith, signed_ends c.in_ok-number.ensures refl)

pub skip-requires : goal.skip-requires
skip-requires c = omega (arith, signed_ends c.in_ok-number.ensures refl)

pub returns-in_err-number : goal.returns-in_err-number
returns-in_err-number c = λ m ready. cell_lost c.from_residual.ensures (signed_broken c.in_err-number.ensures refl)

pub returns : goal.returns
returns c =
    let a = c.args in
    let u = c.in_ok-number.ensures in
    let n = c.in_ok-number.number in
    let ends = signed_ends u refl in
    λ m ready.
    record {
      answer =
          value_got (λ z. Table.cell a.kind a.place (biased z)) n.value.value _ n.next ready (signed_is u refl) ends.0 ends.1
          (ap (Table.cell a.kind a.place) (sym c.with_bias-value.ensures)) c.skip.ensures;
    }
