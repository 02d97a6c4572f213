-- `verifier::steps::pattern_holds` meets its contract.
use mathlib.Core.Path.{sym, ◌∙◌}
use Rattle.verifier.specs.Tests.{pattern_test}
use Rattle.verifier.proofs.steps.pattern_holds.Goals as goal

pub returns-then-has_pattern : goal.returns-then-has_pattern
unfolding pattern_test
returns-then-has_pattern c = rw (c.roles_hold.ensures, sym c.has_pattern.ensures ∙ c.if-has_pattern.true)

pub returns : goal.returns
unfolding pattern_test
returns c = rw (sym c.has_pattern.ensures ∙ c.if-has_pattern.false)
