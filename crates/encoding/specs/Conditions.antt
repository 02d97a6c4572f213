-- The conditions under which an edition's programs fit a table, and that the current edition keeps them. Assumes nothing.
use Rattle.std.specs.Prelude.{◌+◌, ◌≤◌, ◌<◌}
use Rattle.std.proofs.Common.{lit<, lit≤}
use Rattle.base.specs.Current.{current}
use Rattle.values.specs.Conversion.{longest_string}
use Rattle.encoding.specs.Numerals.{bias}
use Rattle.encoding.specs.Table.{literals_at}

-- its numbers fit their places
pub current-limit : current.limit < bias
unfolding current bias
current-limit = lit< tt

-- a string's length is one of them
pub current_wide : longest_string ≤ current.limit
unfolding current longest_string
current_wide = lit≤ tt

-- its tables have room for all literal bytes
pub current_size : literals_at + 4096 ≤ current.table_size
unfolding current literals_at
current_size = lit≤ tt
