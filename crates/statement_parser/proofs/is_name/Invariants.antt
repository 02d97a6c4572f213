-- `statement_parser::is_name` looks at a key's bytes one by one. The invariant: those passed may stand in a name.
use Rattle.statement_parser.specs.Labels.{Looked}
use Rattle.statement_parser.proofs.is_name.Given as goal

abbrev pub invariant-loop-rest : goal.invariant-loop-rest
invariant-loop-rest l = Looked l.key l.rest

abbrev pub decreases-loop-rest : goal.decreases-loop-rest
decreases-loop-rest l = l.rest
