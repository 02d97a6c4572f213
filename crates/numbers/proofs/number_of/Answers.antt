-- `numbers::number_of` meets its contract. A value above the limit leaves the range with either sign.
use mathlib.Core.Path.{sym, ap, ◌∙◌}
use native.Mathlib.Omega.{arith}
use lib.IntN.{ℤ, neg_ℤ}
use Rattle.std.proofs.Common.{Result, Ok, Err, ℕ, ok_or}
use Rattle.std.proofs.lemmas.Result.{err_from_is_err_and}
use Rattle.values.specs.Conversion.{decimal}
use Rattle.values.specs.Result.{done, stop}
use Rattle.values.specs.Stops.{stop_number}
use Rattle.values.specs.declared.Stop.{Stop}
use Rattle.numbers.specs.Numbers.{if_small}
use Rattle.numbers.specs.Laws.{small_is}
use Rattle.numbers.proofs.Reading.{numeric_some, number_other, number_beyond, number_negative, number_positive}
use Rattle.numbers.proofs.number_of.Goals.{then-s-eq45, else-s-eq45}
use Rattle.numbers.proofs.number_of.Goals as goal

pub returns-then-not-is_numeric : goal.returns-then-not-is_numeric
returns-then-not-is_numeric c =
    let numeric = c.is_numeric in
    let other = sym numeric.ensures ∙ c.if-not-is_numeric.true in
    record { work = sym (number_other c.args.s.now other); range = omega arith }

-- which stop an error is
abbrev told : Result ℕ Stop → ℕ
told (Ok v) = 0
told (Err s) = stop_number s

pub returns-in_err-ok_or : goal.returns-in_err-ok_or
returns-in_err-ok_or c =
    let e = c.in_err-ok_or.ensures in
    let digits = ap (λ s. if_small (decimal 0 s)) c.unsigned_part.ensures in
    let beyond = number_beyond c.args.s.now (sym c.is_numeric.ensures ∙ c.if-not-is_numeric.false) (sym digits ∙ sym c.decimal_of.ensures ∙ e.ok_part) in
    let p = err_from_is_err_and c.from_residual.result c.from_residual.ensures.1 in
    rw (p.1, p.2) (record { work = ap (λ r. stop (told r)) (e.value ∙ ap (λ o. ok_or o Stop.OutOfRange) e.ok_part) ∙ sym beyond; range = tt })

pub int_of-z-requires : goal.int_of-z-requires
int_of-z-requires c = (small_is (sym c.decimal_of.ensures ∙ c.in_ok-ok_or.ensures.ok_part)).1

pub bounds-s-0 : goal.bounds-s-0
bounds-s-0 c = omega (arith, numeric_some c.args.s.now (sym c.is_numeric.ensures ∙ c.if-not-is_numeric.false))

pub returns : goal.returns
returns c =
    let numeric = sym c.is_numeric.ensures ∙ c.if-not-is_numeric.false in
    let digits = ap (λ s. if_small (decimal 0 s)) c.unsigned_part.ensures in
    let same = sym digits ∙ sym c.decimal_of.ensures ∙ c.in_ok-ok_or.ensures.ok_part in
    rw c.plain.ensures
    (elim c.if-s-eq45.branch [
      | then-s-eq45 w ↦
          rw w.plain-is
          (record {
            work = ap (λ (z : ℤ). done z 0) (w.negate.ensures.value ∙ ap neg_ℤ c.int_of-z.ensures.value)
                ∙ sym (number_negative c.args.s.now numeric same w.if-s-eq45.true);
            range = w.negate.ensures.range;
          })
      | else-s-eq45 w ↦
          rw w.plain-is
          (record {
            work = ap (λ (z : ℤ). done z 0) c.int_of-z.ensures.value
                ∙ sym (number_positive c.args.s.now numeric same w.if-s-eq45.false);
            range = c.int_of-z.ensures.range;
          })
    ])
