-- `register_report::next_code` meets its contract. The loop's invariant: the lowest of all codes is that of those left and of the next found so far.
use Rattle.std.proofs.Common.{◌≡◌, drop}
use Rattle.register_report.specs.Codes.{lowest_code, no_code}
use Rattle.register_report.specs.Sums.{codes_in}
use Rattle.register_report.proofs.next_code.Given as goal

abbrev pub invariant-loop-worth : goal.invariant-loop-worth
invariant-loop-worth l =
    lowest_code l.last l.next (drop l.worth-index (codes_in l.worths)) ≡ lowest_code l.last no_code (codes_in l.worths)
