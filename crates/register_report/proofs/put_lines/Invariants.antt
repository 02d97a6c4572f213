-- `register_report::put_lines` meets its contract. The loop's invariant: the lines before the place are put.
use Rattle.std.proofs.Common.{◌≡◌, length, take}
use Rattle.register.specs.Buffer.{register_in}
use Rattle.register_report.specs.Sums.{LinesPut}
use Rattle.register_report.proofs.put_lines.Given as goal

abbrev pub invariant-loop-place : goal.invariant-loop-place
invariant-loop-place l =
    (length l.output ≡ length l.initial.output) × LinesPut (take l.place (register_in l.register.buffer.now).lines) l.initial.output l.output l.put_to
