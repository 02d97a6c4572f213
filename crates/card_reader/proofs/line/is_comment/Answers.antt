-- `card_reader::line::is_comment` answers whether a star stands in column 1.
use mathlib.Core.Path.{◌∙◌}
use Rattle.card_reader.proofs.Lines.{star_leads}
use Rattle.card_reader.proofs.line.is_comment.Goals as goal

pub returns : goal.returns
returns c = c.starts_with.ensures.value ∙ star_leads c.args.line.now
