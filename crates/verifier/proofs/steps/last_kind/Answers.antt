-- `verifier::steps::last_kind` meets its contract.
use mathlib.Core.Path.{sym, ◌∙◌}
use Rattle.verifier.specs.Tests.{last_kind}
use Rattle.verifier.proofs.steps.last_kind.Goals as goal

pub returns-then-has_pattern : goal.returns-then-has_pattern
unfolding last_kind
returns-then-has_pattern c = rw (sym c.has_pattern.ensures ∙ c.if-has_pattern.true)

pub returns : goal.returns
unfolding last_kind
returns c = rw (sym c.has_pattern.ensures ∙ c.if-has_pattern.false)
