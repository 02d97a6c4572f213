-- `scan::read_rows` reads all rows. The invariant: those read are elements, and their lengths stand there.
use mathlib.Core.Bool.{true}
use mathlib.Core.List.{◌∷◌}
use mathlib.Core.Path.{◌≡◌}
use lib.ListN.{take}
use Rattle.std.specs.List.{concat, list_all}
use Rattle.scan.specs.Rows.{is_element, row_answer, sizes_at}
use Rattle.scan.proofs.read_rows.Given as goal

abbrev pub invariant-loop-i : goal.invariant-loop-i
invariant-loop-i l = (list_all (is_element l.values) (take l.i l.rows) ≡ true) × (l.answer ≡ row_answer l.i (0 ∷ sizes_at (concat l.rows) l.i 0))
