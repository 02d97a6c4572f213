-- `string_parser::one` reads an element of either.
use Rattle.string_parser.specs.RowLaws.{one-string, one-pattern}
use Rattle.string_parser.proofs.one.Goals as goal

pub returns-in-OfString : goal.returns-in-OfString
returns-in-OfString c = one-string c.args.known.now c.in-OfString.is c.element.ensures

pub returns-in-OfPattern : goal.returns-in-OfPattern
returns-in-OfPattern c = one-pattern c.args.known.now c.in-OfPattern.is c.pattern_element.ensures
