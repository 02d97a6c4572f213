-- It recurs on the quotient by ten, and its own digit comes behind those of the quotient.
use Rattle.std.proofs.Common.{[], ◌∷◌, ◌≡◌, ◌∙◌, ℕ, ◌+◌, ◌/◌, ◌%◌, ◌≤◌, length, ap, arith, length-append}
use Rattle.values.specs.Conversion.{digits}
use Rattle.values.specs.Laws.{digits_small, digits_large}
use Rattle.numbers.proofs.Stores.{stored-behind, stored_one}
use Rattle.numbers.proofs.+put_digits.Goals as goal

-- one digit more than the quotient
longer : (v : ℕ) → 10 ≤ v → length (digits v) ≡ length (digits (v / 10)) + 1
longer v large = ap length (digits_large v large) ∙ length-append (digits (v / 10)) ((48 + v % 10) ∷ [])

pub bounds-out-at : goal.bounds-out-at
bounds-out-at t c =
    let h : length (digits c.args.v) ≡ 1 = ap length (digits_small c.args.v c.if-v-lt10.true) in
    omega arith

pub returns-then-v-lt10 : goal.returns-then-v-lt10
returns-then-v-lt10 t c =
    let s = c.args in
    rw (digits_small s.v c.if-v-lt10.true) (stored_one s.out.now s.at (48 + s.v))

pub put_digits-last-requires : goal.put_digits-last-requires
put_digits-last-requires t c =
    let more = longer c.args.v c.if-v-lt10.false in
    (omega arith, omega arith)

pub bounds-out-last : goal.bounds-out-last
bounds-out-last t c =
    let more = longer c.args.v c.if-v-lt10.false in
    let ends = c.put_digits-last.ensures.ends in
    omega arith

pub overflow_add-result-2 : goal.overflow_add-result-2
overflow_add-result-2 t c =
    let more = longer c.args.v c.if-v-lt10.false in
    let ends = c.put_digits-last.ensures.ends in
    omega arith

pub returns : goal.returns
returns t c =
    let put = c.put_digits-last in
    let v = c.args.v in
    rw (digits_large v c.if-v-lt10.false)
    (stored-behind put.ensures (stored_one put.new.out put.result (48 + v % 10)))
