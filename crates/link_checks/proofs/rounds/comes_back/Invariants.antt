-- `link_checks::rounds::comes_back` goes on round by round. The invariant: the rounds left, from the marks.
use Rattle.std.proofs.Common.{◌≡◌, ◌-◌}
use Rattle.link_checks.specs.Pairs.{mark_at, pair_in}
use Rattle.link_checks.specs.Rounds.{gone_on}
use Rattle.link_checks.specs.declared.executed.TheConstants.{PLACES}
use Rattle.link_checks.proofs.rounds.comes_back.Given as goal

abbrev pub invariant-loop-round : goal.invariant-loop-round
invariant-loop-round l =
    gone_on l.rounds (pair_in l.pairs) PLACES (pair_in l.pairs l.i) l.i ≡ gone_on (l.rounds - l._round) (pair_in l.pairs) PLACES (mark_at l.marks) l.i
