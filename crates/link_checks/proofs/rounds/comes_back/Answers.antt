-- `link_checks::rounds::comes_back` goes on round by round. The invariant: the rounds left, from the marks.
use Rattle.std.proofs.Common.{◌∙◌, sym}
use Rattle.link_checks.proofs.Turns.{turned, turned-all}
use Rattle.link_checks.specs.Pairs.{mark_at}
use Rattle.link_checks.proofs.rounds.comes_back.Goals as goal

pub loop-round-preserved : goal.loop-round-preserved
loop-round-preserved c =
    let a = c.args in
    let l = c.loop-round in
    l.invariant ∙ turned a.pairs.now a.i c.requires a.rounds l._round l.marks c.next_marks-marks.result c.loop-round-test.true c.next_marks-marks.ensures

pub returns : goal.returns
returns c =
    let a = c.args in
    let l = c.loop-round in
    sym (l.invariant ∙ turned-all a.pairs.now a.i c.requires a.rounds l._round (mark_at l.marks) c.loop-round-test.false)
