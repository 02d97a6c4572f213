-- `register_reading::read_opened` meets its contract: the keys tell how many lines there are.
use Rattle.std.proofs.Common.{refl, subst, sym}
use Rattle.std.proofs.lemmas.Result.{err_from_is_err_and}
use Rattle.register_reading.specs.ReadLaws.{keys_known, not_opened, opened_at, ready_counted}
use Rattle.register_reading.specs.Reading.{LinesCounted}
use Rattle.register_reading.proofs.read_opened.Goals as goal

pub returns-in_err-read_keys : goal.returns-in_err-read_keys
returns-in_err-read_keys c =
    let p = err_from_is_err_and c.from_residual.result c.from_residual.ensures.1 in
    rw (p.1, p.2) (not_opened c.args.buffer.now c.read_keys.new.keys.items _ c.in_err-read_keys.ensures)

pub invariant_of-result : goal.invariant_of-result
invariant_of-result c =
    let buffer = c.args.buffer.now in
    let keys = c.read_keys.new.keys.items in
    record {
      counted = subst (LinesCounted buffer) (sym c.len.ensures.value) (ready_counted buffer keys (keys_known buffer keys _ c.in_ok-read_keys.ensures));
    }

pub returns : goal.returns
returns c = opened_at c.args.buffer.now _ refl
