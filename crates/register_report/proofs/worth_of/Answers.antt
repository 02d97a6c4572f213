-- `register_report::worth_of` meets its contract: tonnes and price stand behind contract and grain, the currency behind them.
use mathlib.Core.Path.{◌∙◌}
use native.Mathlib.Omega.{arith}
use Rattle.register.specs.ReportLaws.{value_small}
use Rattle.register_report.specs.FieldLaws.{code_is, contract_next, currency_inside, price_numeric, tonnes_numeric, tonnes_shown, worth_is}
use Rattle.register_report.proofs.worth_of.Goals as goal

pub number_at-tonnes-requires : goal.number_at-tonnes-requires
number_at-tonnes-requires c =
    let k = c.next_byte-contract in
    tonnes_numeric c.args.line.now c.requires k.result (contract_next c.args.line.now k.result k.ensures)

pub overflow_add-tonnes : goal.overflow_add-tonnes
overflow_add-tonnes c =
    let k = c.next_byte-contract in
    let t = c.number_at-tonnes in
    let size = contract_next c.args.line.now k.result k.ensures in
    omega (arith, (price_numeric c.args.line.now c.requires k.result size t.result.end t.ensures.ends).inside)

pub number_at-price-requires : goal.number_at-price-requires
number_at-price-requires c =
    let k = c.next_byte-contract in
    let t = c.number_at-tonnes in
    let size = contract_next c.args.line.now k.result k.ensures in
    price_numeric c.args.line.now c.requires k.result size t.result.end t.ensures.ends

pub overflow_add-price : goal.overflow_add-price
overflow_add-price c =
    let k = c.next_byte-contract in
    let t = c.number_at-tonnes in
    let p = c.number_at-price in
    let size = contract_next c.args.line.now k.result k.ensures in
    omega (
      arith,
      currency_inside c.args.line.now c.requires k.result size t.result.end t.ensures.ends p.result.end p.ensures.ends,
    )

pub code_at-code-requires : goal.code_at-code-requires
code_at-code-requires c =
    let k = c.next_byte-contract in
    let t = c.number_at-tonnes in
    let p = c.number_at-price in
    let size = contract_next c.args.line.now k.result k.ensures in
    currency_inside c.args.line.now c.requires k.result size t.result.end t.ensures.ends p.result.end p.ensures.ends

pub overflow_mul-result : goal.overflow_mul-result
overflow_mul-result c =
    let k = c.next_byte-contract in
    let t = c.number_at-tonnes in
    let p = c.number_at-price in
    let size = contract_next c.args.line.now k.result k.ensures in
    omega (
      arith,
      value_small c.args.line.now c.requires,
      worth_is c.args.line.now c.requires k.result size t.result.end t.ensures.ends t.result.value p.result.value
          t.ensures.number p.ensures.number,
    )

pub returns : goal.returns
returns c =
    let k = c.next_byte-contract in
    let t = c.number_at-tonnes in
    let p = c.number_at-price in
    let size = contract_next c.args.line.now k.result k.ensures in
    record {
      currency =
          c.code_at-code.ensures
          ∙ code_is c.args.line.now c.requires k.result size t.result.end t.ensures.ends p.result.end p.ensures.ends;
      weight = t.ensures.number ∙ tonnes_shown c.args.line.now c.requires k.result size;
      cents =
          worth_is c.args.line.now c.requires k.result size t.result.end t.ensures.ends t.result.value p.result.value
          t.ensures.number p.ensures.number;
    }
