-- `register_reading::Opened::line` meets its contract: each place below the count has a line.
use Rattle.register_reading.specs.ReadLaws.{placed_below}
use Rattle.register_reading.proofs.opened.Opened.line.Goals as goal

pub line_in-requires : goal.line_in-requires
line_in-requires c = let r = c.args.self in placed_below r.buffer.now r.lines r.counted c.args.place c.requires

pub returns : goal.returns
returns c = c.line_in.ensures
