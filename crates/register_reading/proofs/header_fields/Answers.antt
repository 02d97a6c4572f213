-- `register_reading::header_fields` meets its contract: by the bytes behind the first three, and by these.
use Rattle.std.proofs.Common.{sym, ◌∙◌}
use Rattle.register_reading.specs.ReadLaws.{header-behind, header_neither, header_old, header_open}
use Rattle.register_reading.specs.SlotLaws.{zeros-behind}
use Rattle.register_reading.proofs.header_fields.Goals as goal

pub returns-then-not-are_zero : goal.returns-then-not-are_zero
returns-then-not-are_zero c =
    let z = c.are_zero in
    header-behind c.args.header.now c.requires (zeros-behind c.args.header.now 3 z.result z.ensures ∙ c.if-not-are_zero.true)

pub returns-then-are_zero : goal.returns-then-are_zero
returns-then-are_zero c =
    let z = c.are_zero in
    header_old c.args.header.now c.requires
    (zeros-behind c.args.header.now 3 z.result z.ensures ∙ c.if-not-are_zero.false)
    (sym c.are_zero-else-not-are_zero.ensures ∙ c.if-are_zero.true)

pub returns-then-is_currency : goal.returns-then-is_currency
returns-then-is_currency c =
    let z = c.are_zero in
    header_open c.args.header.now c.requires
    (zeros-behind c.args.header.now 3 z.result z.ensures ∙ c.if-not-are_zero.false)
    (sym c.is_currency.ensures ∙ c.if-is_currency.true)

pub returns-else-is_currency : goal.returns-else-is_currency
returns-else-is_currency c =
    header_neither c.args.header.now c.requires
    (sym c.are_zero-else-not-are_zero.ensures ∙ c.if-are_zero.false)
    (sym c.is_currency.ensures ∙ c.if-is_currency.false)
