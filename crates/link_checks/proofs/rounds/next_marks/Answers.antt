-- `link_checks::rounds::next_marks` marks place by place.
use Rattle.std.proofs.Common.{false, rules, arith}
use Rattle.link_checks.proofs.Slices.{made_from}
use Rattle.link_checks.specs.Pairs.{mark_at, pair_in}
use Rattle.link_checks.specs.Rounds.{go_on}
use Rattle.link_checks.specs.declared.executed.TheConstants.{PLACES}
use Rattle.link_checks.proofs.rounds.next_marks.Goals as goal

pub returns : goal.returns
returns c =
    let a = c.args in
    λ j h.
    made_from _ _ (go_on (pair_in a.pairs.now) PLACES (mark_at a.marks.now)) (λ i y q call. search rules) c.from_fn.result false 0 PLACES
    c.from_fn.ensures.items.each j (omega arith) (omega arith)
