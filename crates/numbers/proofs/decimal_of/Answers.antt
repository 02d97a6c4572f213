-- `numbers::decimal_of` meets its contract. The invariant: the digits left, read from the value so far, make the value of all.
use mathlib.Core.Path.{◌≡◌, refl, sym, ap, ◌∙◌}
use Prim.Native.Nat.{ℕ, ◌+◌, ◌*◌}
use native.Mathlib.Omega.{arith}
use lib.ListN.{drop}
use Rattle.values.specs.Conversion.{decimal}
use Rattle.numbers.specs.Laws.{small, beyond}
use Rattle.numbers.specs.Numbers.{if_small}
use Rattle.numbers.proofs.Reading.{decimal-next, decimal_end, decimal_grows}
use Rattle.numbers.proofs.decimal_of.Goals.{After-digit_of}
use Rattle.numbers.proofs.decimal_of.Goals as goal

pub loop-b-init : goal.loop-b-init
loop-b-init c = (omega arith, refl)

pub overflow_mul-v : goal.overflow_mul-v
overflow_mul-v c = omega (arith, c.loop-b.invariant.0)

pub overflow_add-v : goal.overflow_add-v
overflow_add-v c = omega (arith, c.loop-b.invariant.0, c.digit_of.ensures.1)

-- the value of all is that of what is left, read from the value with the digit
next : (c : After-digit_of)
    → decimal 0 c.args.digits.now ≡ decimal (c.loop-b.v * 10 + c.digit_of.result) (drop (c.loop-b.b-index + 1) c.args.digits.now)
next c =
    let v = c.loop-b.v in
    let i = c.loop-b.b-index in
    c.loop-b.invariant.1
    ∙ decimal-next v c.args.digits.now i c.loop-b-test.true
    ∙ ap (λ (d : ℕ). decimal (v * 10 + d) (drop (i + 1) c.args.digits.now)) (sym c.digit_of.ensures.0)

pub returns-then-v-gt-LIMIT : goal.returns-then-v-gt-LIMIT
returns-then-v-gt-LIMIT c =
    let all = next (goal.at.returns-then-v-gt-LIMIT c).After-digit_of in
    let more = decimal_grows (c.loop-b.v * 10 + c.digit_of.result) (drop (c.loop-b.b-index + 1) c.args.digits.now) in
    sym (beyond (decimal 0 c.args.digits.now) (omega (arith, all, more)))

pub loop-b-preserved : goal.loop-b-preserved
loop-b-preserved c = (omega arith, next (goal.at.loop-b-preserved c).After-digit_of)

pub returns : goal.returns
returns c =
    let all = c.loop-b.invariant.1 ∙ decimal_end c.loop-b.v c.args.digits.now c.loop-b.b-index c.loop-b-test.false in
    sym (ap if_small all ∙ small c.loop-b.v c.loop-b.invariant.0)
