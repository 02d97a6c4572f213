-- A numeric expression of two operands and an operator. Assumes nothing.
use Rattle.std.specs.Prelude.{List, ◌≡◌, ℕ, ◌+◌, ◌*◌, ◌≤◌}
use Rattle.encoding.specs.Kinds.{constant_kind}
use Rattle.encoding.specs.Table.{items_at}
use Rattle.encoding.specs.TableReading.{cell_at}
use Rattle.decoder.specs.declared.Stretch.{Stretch}

-- three items, the one in the middle an operand, whose kinds come last: since they are balanced, the first is an operand too, and the last
-- an operator
pub record PairAt (t : List ℕ) (s : Stretch) : Type 0 where
  pub three : s.count ≡ 3
  pub middle : constant_kind.number ≤ (cell_at t (items_at + 8 * (s.from + 1))).kind
