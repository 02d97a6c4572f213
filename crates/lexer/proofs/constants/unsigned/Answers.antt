-- `lexer::constants::unsigned` meets its contract.
use mathlib.Core.Path.{sym, ap, ◌∙◌}
use Prim.Native.Nat.{ℕ}
use mathlib.Core.List.{List}
use native.Mathlib.Omega.{arith}
use lib.ListN.{drop}
use lib.Seq.{drop-drop}
use Rattle.numbers.specs.Laws.{small_is}
use Rattle.numbers.specs.Numbers.{if_small}
use Rattle.syntax.specs.Parsing.{succeed}
use Rattle.lexer.proofs.Digits.{digits_read}
use Rattle.lexer.proofs.Forms.{unsigned_none, unsigned_above, unsigned_is}
use Rattle.lexer.proofs.constants.unsigned.Goals as goal

pub returns-then-n-eq0 : goal.returns-then-n-eq0
returns-then-n-eq0 c =
    let a = c.args in
    let n = c.digit_count-n in
    record {
      read = unsigned_none (drop a.at a.text.now) n.result n.ensures.is c.if-n-eq0.true;
      range = tt;
      ends = tt;
    }

pub returns-in_err-value : goal.returns-in_err-value
returns-in_err-value c =
    let a = c.args in
    let n = c.digit_count-n in
    let above = c.in_err-value.ensures ∙ ap if_small (digits_read a.text.now a.at n.result n.ensures.is) in
    rw c.from_residual.ensures
    (record {
      read = unsigned_above (drop a.at a.text.now) n.result n.ensures.is (omega arith) (sym above);
      range = tt;
      ends = tt;
    })

pub returns : goal.returns
returns c =
    let a = c.args in
    let n = c.digit_count-n in
    let value = c.in_ok-value.ensures ∙ ap if_small (digits_read a.text.now a.at n.result n.ensures.is) in
    record {
      read =
          ap (λ (rest : List ℕ). succeed c.in_ok-value.value rest) (sym (drop-drop n.result a.at a.text.now))
          ∙ unsigned_is (drop a.at a.text.now) n.result n.ensures.is (omega arith) (sym value);
      range = (small_is (sym value)).1;
      ends = (omega arith, omega arith);
    }
