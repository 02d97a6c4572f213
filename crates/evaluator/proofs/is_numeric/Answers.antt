-- `evaluator::is_numeric` meets its contract. The notes are those made before.
use mathlib.Core.Bool.{Bool}
use mathlib.Core.Path.{sym, ap, ◌∙◌}
use native.Mathlib.Nat.{add-zero}
use Rattle.machine.specs.Expressions.{numeric_part, test_in}
use Rattle.values.specs.Conversion.{is_numeric}
use Rattle.values.specs.Result.{done, with_notes, pure, ◌>>=◌}
use Rattle.evaluator.specs.Values.{then_numeric}
use Rattle.evaluator.proofs.is_numeric.Goals as goal

pub returns : goal.returns
unfolding test_in numeric_part ◌>>=◌ with_notes pure
returns c =
    let part = c.part_bytes-part.result in
    ap (λ (t : Bool). done t part.notes) c.is_numeric.ensures
    ∙ ap (done (is_numeric part.value.now)) (sym (add-zero part.notes))
    ∙ ap then_numeric (sym c.part_bytes-part.ensures.work)
