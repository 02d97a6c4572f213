-- `evaluator::is_null` meets its contract: a string of no bytes is null.
use mathlib.Core.Bool.{Bool}
use mathlib.Core.Path.{sym, ap, ◌∙◌}
use Prim.Native.Nat.{ℕ}
use lib.Dec.{eqb}
use Rattle.base.specs.ListLaws.{nil_length}
use Rattle.store.specs.Clauses.{string_of}
use Rattle.machine.specs.Expressions.{test_in}
use Rattle.machine.specs.State.{string_at}
use Rattle.values.specs.Result.{done, pure}
use Rattle.evaluator.proofs.is_null.Goals as goal

pub returns : goal.returns
unfolding test_in pure string_at
returns c state =
    let a = c.args in
    ap (λ (t : Bool). done t 0)
    (ap (λ (n : ℕ). eqb n 0) c.string_length.ensures.0 ∙ sym (nil_length (string_of a.store.now a.place)))
