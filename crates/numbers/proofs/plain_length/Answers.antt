-- `numbers::plain_length` meets its contract. A sign is one byte.
use mathlib.Core.Path.{◌≡◌, sym, ap, ◌∙◌}
use Prim.Native.Nat.{ℕ}
use native.Mathlib.Omega.{arith}
use lib.IntN.{nat_abs}
use lib.ListN.{length}
use Rattle.values.specs.Conversion.{digits}
use Rattle.numbers.proofs.Texts.{sign_below, sign_from, few_digits}
use Rattle.numbers.proofs.plain_length.Goals.{After-digit_count-count}
use Rattle.numbers.proofs.plain_length.Goals as goal

-- as many digits as the number without its sign has
count : (c : After-digit_count-count) → c.digit_count-count.result ≡ length (digits (nat_abs c.args.m.value))
count c = c.digit_count-count.ensures ∙ ap (λ (v : ℕ). length (digits v)) c.size.ensures

pub overflow_add-result : goal.overflow_add-result
overflow_add-result c =
    let z = c.args.m.value in
    let digits = count (goal.at.overflow_add-result c).After-digit_count-count in
    omega (arith, few_digits z c.requires)

pub returns-then-is_negative : goal.returns-then-is_negative
returns-then-is_negative c =
    let z = c.args.m.value in
    let sign = sign_below z (sym c.is_negative.ensures ∙ c.if-is_negative.true) in
    let digits = count (goal.at.returns-then-is_negative c).After-digit_count-count in
    omega (arith, ap length sign)

pub returns-else-is_negative : goal.returns-else-is_negative
returns-else-is_negative c =
    let z = c.args.m.value in
    let sign = sign_from z (sym c.is_negative.ensures ∙ c.if-is_negative.false) in
    let digits = count (goal.at.returns-else-is_negative c).After-digit_count-count in
    omega (arith, ap length sign)
