-- A cell written as cell k of a region of the table that has room for so many; behind the last one nothing is written. Assumes nothing.
use Rattle.std.specs.Prelude.{cond, List, ℕ, ◌+◌, ◌*◌, ltb}
use Rattle.encoding.specs.Splices.{splice}
use Rattle.encoding.specs.Table.{Cell, cell_bytes}

unfoldable pub with_cell : List ℕ → (from most k : ℕ) → Cell → List ℕ
with_cell t from most k c = cond (ltb k most) (splice t (from + 8 * k) (cell_bytes c)) t
