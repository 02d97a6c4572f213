-- It recurs on the quotient by ten.
use Rattle.std.proofs.Common.{◌/◌, length, sym, ap, arith, length-append}
use Rattle.values.specs.Laws.{digits_small, digits_large, digits-length}
use Rattle.numbers.proofs.+digit_count.Goals as goal

pub overflow_add-result : goal.overflow_add-result
overflow_add-result t c =
    let v = c.args.v in
    omega (arith, digits-length 19 (v / 10) (omega arith))

pub returns-then-v-lt10 : goal.returns-then-v-lt10
returns-then-v-lt10 t c = ap length (sym (digits_small c.args.v c.if-v-lt10.true))

pub returns-else-v-lt10 : goal.returns-else-v-lt10
returns-else-v-lt10 t c =
    let v = c.args.v in
    rw (digits_large v c.if-v-lt10.false) (simp length-append (omega arith))
