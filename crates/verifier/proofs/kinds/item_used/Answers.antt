-- `verifier::kinds::item_used` meets its contract.
use borrow.Author.Rules.{rules}
use borrow.Author.Tests.{lt-ltb, le-ltb}
use Rattle.verifier.specs.Items.{item_used}
use Rattle.verifier.proofs.kinds.item_used.Goals as goal

pub returns-then-kind-lt-POSITIVE : goal.returns-then-kind-lt-POSITIVE
unfolding item_used
returns-then-kind-lt-POSITIVE c = (rw (lt-ltb _ _ c.if-kind-lt-POSITIVE.true), search rules)

pub returns-then-kind-lt-CONSTANT : goal.returns-then-kind-lt-CONSTANT
unfolding item_used
returns-then-kind-lt-CONSTANT c = (rw (le-ltb _ _ c.if-kind-lt-POSITIVE.false, lt-ltb _ _ c.if-kind-lt-CONSTANT.true), search rules)

pub returns : goal.returns
unfolding item_used
returns c = (rw (le-ltb _ _ c.if-kind-lt-POSITIVE.false, le-ltb _ _ c.if-kind-lt-CONSTANT.false), search rules)
