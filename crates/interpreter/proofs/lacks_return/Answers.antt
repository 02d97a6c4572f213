-- `lacks_return` meets its contract: EXECUTE wants room, RETURN a return, and no other statement either.
use mathlib.Core.Path.{◌≡◌, sym, ap, ◌∙◌}
use Prim.Native.Nat.{ℕ}
use native.Mathlib.Omega.{arith}
use lib.Dec.{eqb, leb}
use Rattle.base.specs.ListLaws.{nil_length}
use Rattle.interpreter.specs.Laws.{execute_lacks, return_lacks, plain_lacks}
use Rattle.interpreter.proofs.lacks_return.Goals as goal

pub returns-in-34 : goal.returns-in-34
returns-in-34 c t rs row k e = ap (leb 16) (sym e) ∙ sym (execute_lacks t rs row (k ∙ c.in-34.is))

pub returns-in-35 : goal.returns-in-35
returns-in-35 c t rs row k e =
    ap (λ (n : ℕ). eqb n 0) (sym e) ∙ sym (nil_length rs) ∙ sym (return_lacks t rs row (k ∙ c.in-35.is))

pub returns-in_default : goal.returns-in_default
returns-in_default c t rs row k e =
    sym
    (plain_lacks t rs row (λ h. let enters : c.args.kind ≡ 34 = sym k ∙ h in omega arith)
    (λ h. let leaves : c.args.kind ≡ 35 = sym k ∙ h in omega arith))
