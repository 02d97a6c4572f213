-- `link_checks::rounds::is_next` goes over the marks.
use Rattle.std.proofs.Common.{Bool, false, List, [], ◌&&◌, ◌||◌, ◌∙◌, sym, ap, rules}
use Rattle.std.proofs.lemmas.Iterator.{YieldsList-from_slice, YieldsList-from_zip}
use Rattle.std.proofs.lemmas.Iterator.Search.{any_from_yields_List}
use Rattle.link_checks.proofs.Slices.{pairs_below}
use Rattle.link_checks.specs.Below.{below}
use Rattle.link_checks.specs.Pairs.{pair_in, mark_at}
use Rattle.link_checks.specs.Rounds.{go_on}
use Rattle.link_checks.specs.declared.executed.TheConstants.{PLACES}
use Rattle.link_checks.proofs.rounds.is_next.Goals as goal

pub returns-then-marks-j : goal.returns-then-marks-j
unfolding go_on
returns-then-marks-j c =
    let a = c.args in
    let others = below (λ i. mark_at a.marks.now i && pair_in a.pairs.now i a.j) PLACES in
    c.if-marks-j.true ∙ sym (ap (λ t. t || others) c.if-marks-j.true)

pub returns-else-marks-j : goal.returns-else-marks-j
unfolding go_on
returns-else-marks-j c =
    let a = c.args in
    let next : Bool × List Bool → Bool = λ p. p.0 && mark_at p.1 a.j in
    let others = below (λ i. mark_at a.marks.now i && pair_in a.pairs.now i a.j) PLACES in
    any_from_yields_List {v = λ p. (p.0.now, p.1.now)} next c.any.new.self _ c.any.result c.any.ensures.ran
    (YieldsList-from_zip (YieldsList-from_slice a.marks.now (search rules)) (YieldsList-from_slice a.pairs.now (search rules)))
    (λ x b q k. search rules)
    ∙ pairs_below false [] next a.marks.now a.pairs.now PLACES c.told-marks c.told-pairs
    ∙ sym (ap (λ t. t || others) c.if-marks-j.false)
