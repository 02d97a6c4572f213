-- `register_lines::behind_comma` meets its contract: the comma is the first byte.
use Rattle.register_lines.specs.FieldLaws.{comma_stripped}
use Rattle.register_lines.proofs.behind_comma.Goals as goal

pub returns : goal.returns
returns c = comma_stripped c.args.rest.now c.strip_prefix.result c.strip_prefix.ensures.cases
