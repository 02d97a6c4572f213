-- `numbers::put_sign` meets its contract. A number from 0 up has no sign.
use mathlib.Core.Path.{refl, sym, ◌∙◌}
use Rattle.numbers.proofs.Texts.{sign_below, sign_from}
use Rattle.numbers.proofs.put_sign.Goals as goal

pub returns-then-is_negative : goal.returns-then-is_negative
returns-then-is_negative c =
    let sign = sign_below c.args.m.value (sym c.is_negative.ensures ∙ c.if-is_negative.true) in
    rw sign (record { ends = refl; holds = refl })

pub returns : goal.returns
returns c =
    let sign = sign_from c.args.m.value (sym c.is_negative.ensures ∙ c.if-is_negative.false) in
    rw sign (record { ends = refl; holds = refl })
