-- `scan::fill` writes the lengths that don't depend on the place. The invariant: those of the rows passed stand there.
use mathlib.Core.List.{◌∷◌}
use mathlib.Core.Path.{◌≡◌}
use Rattle.std.specs.List.{concat}
use Rattle.scan.specs.Rows.{row_answer, sizes_at}
use Rattle.scan.proofs.fill.Given as goal

abbrev pub invariant-loop-i : goal.invariant-loop-i
invariant-loop-i l = l.answer ≡ row_answer l.i (0 ∷ sizes_at (concat l.pattern.rows.now) l.i 0)
