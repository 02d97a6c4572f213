-- `evaluator::append_text` meets its contract. What STRING gives lies at the start of scratch.
use mathlib.Core.Path.{◌≡◌, sym}
use native.Mathlib.Omega.{arith}
use lib.ListN.{length, take}
use lib.Seq.{length-take-le}
use Rattle.std.proofs.lemmas.Result.{err_from_is_err_and}
use Rattle.numbers.specs.Laws.{text_is, text_fits, text_stops}
use Rattle.evaluator.proofs.append_text.Goals.{In_ok-length}
use Rattle.evaluator.proofs.append_text.Goals as goal

-- scratch has room for it
lies : (c : In_ok-length) → c.in_ok-length.length.value ≡ length (take c.in_ok-length.length.value c.text_of.new.out)
lies c =
    let text = c.text_of.ensures in
    sym (length-take-le c.in_ok-length.length.value c.text_of.new.out (omega (arith, text_fits text c.in_ok-length.was, text.room)))

pub slice_bounds-append-end : goal.slice_bounds-append-end
slice_bounds-append-end c = lies (goal.at.slice_bounds-append-end c).In_ok-length

pub returns : goal.returns
returns c =
    let text = c.text_of.ensures in
    let is = c.in_ok-length.was in
    record {
      added = record {
        value = _;
        work = text_is text is;
        size = lies (goal.at.returns c).In_ok-length;
        short = omega (arith, text_fits text is);
        follows = c.append.ensures.follows;
      };
      room = c.append.ensures.room;
    }

pub returns-in_err-length : goal.returns-in_err-length
returns-in_err-length c =
    let p = err_from_is_err_and c.from_residual.result c.from_residual.ensures.1 in
    rw (p.1, p.2) (record { added = text_stops c.text_of.ensures c.in_err-length.was; room = c.requires.out_len })
