-- `verifier::kinds::role_holds` meets its contract.
use borrow.Author.Tests.{lt-ltb, le-ltb}
use Rattle.verifier.specs.Roles.{role_test}
use Rattle.verifier.proofs.kinds.role_holds.Goals as goal

pub returns-then-kind-lt-LITERAL : goal.returns-then-kind-lt-LITERAL
unfolding role_test
returns-then-kind-lt-LITERAL c = rw (lt-ltb _ _ c.if-kind-lt-LITERAL.true)

pub returns-then-kind-lt-FREE : goal.returns-then-kind-lt-FREE
unfolding role_test
returns-then-kind-lt-FREE c = rw (le-ltb _ _ c.if-kind-lt-LITERAL.false, lt-ltb _ _ c.if-kind-lt-FREE.true)

pub returns : goal.returns
unfolding role_test
returns c = rw (le-ltb _ _ c.if-kind-lt-LITERAL.false, le-ltb _ _ c.if-kind-lt-FREE.false)
